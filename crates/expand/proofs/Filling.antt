-- An array filled from its front, element by element.
--   Filled all xs i ahead   the first i of all stand in the array xs, with zeros after them, and the others are ahead
use mathlib.Core.Path.{◌≡◌, refl, sym, ap, ◌∙◌}
use mathlib.Core.List.{List, [], ◌∷◌, ◌++◌, append-nil}
use Prim.Native.Nat.{ℕ, suc, ◌+◌, ◌-◌, ◌≤◌, ◌<◌}
use native.Mathlib.Omega.{arith}
use lib.ListN.{length, set, replicate, length-append}
use lib.Seq.{set_at, append_snoc}
use Rattle.perm.specs.Moves.{most_moves}

pub record Filled (all xs : List ℕ) (i : ℕ) (ahead : List ℕ) : Type 0 where
  pub front : List ℕ
  pub long : i ≡ length front
  pub array : xs ≡ front ++ replicate (most_moves - i) 0
  pub all_are : all ≡ front ++ ahead
  pub few : length all ≤ most_moves

pub filled_none : {all ahead : List ℕ} → all ≡ ahead → length all ≤ most_moves → Filled all (replicate most_moves 0) 0 ahead
filled_none e few = record { front = []; long = refl; array = refl; all_are = e; few = few }

module _ {all xs : List ℕ} {i : ℕ} {ahead : List ℕ} (filled : Filled all xs i ahead) where
  -- r is the next
  module _ (r : ℕ) (rest : List ℕ) (e : ahead ≡ r ∷ rest) where
    pub filled-room : i < most_moves
    filled-room =
        omega (arith, filled.few, filled.long, ap length filled.all_are, length-append filled.front ahead, ap length e)

    pub filled_more : Filled all (set xs i r) (i + 1) rest
    filled_more =
        let front = filled.front in
        let zeros : most_moves - i ≡ suc (most_moves - (i + 1)) = omega (arith, filled-room) in
        record {
          front = front ++ (r ∷ []);
          long = omega (arith, filled.long, length-append front (r ∷ []));
          array = rw (filled.array, zeros)
              (set_at front 0 (replicate (most_moves - (i + 1)) 0) r i (sym filled.long) ∙ sym (append_snoc front r (replicate (most_moves - (i + 1)) 0)));
          all_are = filled.all_are ∙ ap (λ (ys : List ℕ). front ++ ys) e ∙ sym (append_snoc front r rest);
          few = filled.few;
        }

  pub filled-all : ahead ≡ [] → xs ≡ all ++ replicate (most_moves - length all) 0
  filled-all e =
      let whole : all ≡ filled.front = filled.all_are ∙ ap (λ (ys : List ℕ). filled.front ++ ys) e ∙ append-nil filled.front in
      rw (whole, ← filled.long) filled.array

-- Laws of roads: one after another, a road of at most so many moves, and, where each move undoes itself, roads over a longer list.
use mathlib.Core.Path.{◌≡◌, refl, sym, ap, ◌∙◌}
use mathlib.Core.Logic.{◌⊎◌, inl, inr}
use mathlib.Core.Bool.{Bool, true, false}
use mathlib.Core.List.{List, [], ◌∷◌, ◌++◌}
use Prim.Native.Nat.{ℕ, suc, ◌+◌, ◌-◌, ◌<◌, ◌≤◌, min, zero-le}
use native.Mathlib.Nat.{le_trans}
use native.Mathlib.Omega.{arith}
use lib.IntN.{ℤ}
use lib.ListN.{length, length-append}
use Rattle.base.proofs.Tests.{and_left, and_right, and_both, lt-or-ge, test-cases}
use Rattle.base.proofs.Counting.{all_split}
use Rattle.base.specs.Words.{all, tally}
use Rattle.stacks.specs.Stack.{is_coated}
use Rattle.stacks.specs.Turn.{first_turn, is_turn, UndoesItself, flip, turn_of, moves_from, RoadBy, Road}
use Rattle.stacks.proofs.TurnLaws.{turn-first, turn_last, turn-between, last-whole, first-coated, first_plain, flip-plain, turn-length, turn-append, turn-tally, turn-all, turn-top}
use Rattle.stacks.proofs.MoveLaws.{move-is-turn, moves-append}

module _ {kind n : ℕ} {is_move : ℕ → Bool} where
  pub road-none : (s : List ℤ) → RoadBy kind n is_move [] s s
  unfolding moves_from all
  road-none s = record { turns = refl; arrives = refl }

  pub road-append : {js ks : List ℕ} {s t w : List ℤ} → RoadBy kind n is_move js s t → RoadBy kind n is_move ks t w
      → RoadBy kind n is_move (js ++ ks) s w
  road-append {js} {ks} {s} {t} {w} f g =
      record {
        turns = rw (all_split is_move js ks) (and_both (all is_move js) (all is_move ks) f.turns g.turns);
        arrives = moves-append kind n js ks s ∙ ap (moves_from kind n ks) f.arrives ∙ g.arrives;
      }

-- a road of at most d moves
abbrev pub RoadWithin : ℕ → ℕ → (ℕ → Bool) → ℕ → List ℤ → List ℤ → Type 0
RoadWithin kind n is_move d s w = (ks : List ℕ) × RoadBy kind n is_move ks s w × (length ks ≤ d)

module _ {kind n : ℕ} {is_move : ℕ → Bool} where
  pub within_none : {d : ℕ} (s : List ℤ) → RoadWithin kind n is_move d s s
  within_none s = ([], road-none s, zero-le)

  pub within-append : {d e : ℕ} {s t w : List ℤ} → RoadWithin kind n is_move d s t → RoadWithin kind n is_move e t w
      → RoadWithin kind n is_move (d + e) s w
  within-append f g = (f.0 ++ g.0, road-append f.1 g.1, rw length-append (omega (arith, f.2, g.2)))

  pub within_more : {d e : ℕ} {s w : List ℤ} → d ≤ e → RoadWithin kind n is_move d s w → RoadWithin kind n is_move e s w
  within_more h f = (f.0, f.1, le_trans f.2 h)

-- ---- roads by turns, where each move undoes itself

-- how many turns it takes to do what turn k does: plain has no turn 1, which would change nothing
unfoldable pub turn_cost : ℕ → ℕ → ℕ
turn_cost kind k = min 1 (suc k - first_turn kind)

turn-needless : (kind : ℕ) (s : List ℤ) → is_coated kind ≡ false → turn_of kind 1 s ≡ s
unfolding turn_of
turn-needless kind [] e = refl
turn-needless kind (x ∷ s) e = turn-top kind x s ∙ ap (λ (y : ℤ). y ∷ s) (flip-plain kind e x)

module _ (kind : ℕ) (itself : UndoesItself kind) where
  -- a property that a flip keeps holds of as many panes after a road as before
  pub moves-tally : (n : ℕ) (p : ℤ → Bool) → ((x : ℤ) → p (flip kind x) ≡ p x) → (ks : List ℕ) (s : List ℤ)
      → tally p (moves_from kind n ks s) ≡ tally p s
  unfolding moves_from
  moves-tally n p e [] s = refl
  moves-tally n p e (k ∷ ks) s = rw (move-is-turn kind n itself k s) (moves-tally n p e ks (turn_of kind k s) ∙ turn-tally kind p e k s)

  pub moves-all : (n : ℕ) (p : ℤ → Bool) → ((x : ℤ) → p (flip kind x) ≡ p x) → (ks : List ℕ) (s : List ℤ)
      → all p (moves_from kind n ks s) ≡ all p s
  unfolding moves_from
  moves-all n p e [] s = refl
  moves-all n p e (k ∷ ks) s = rw (move-is-turn kind n itself k s) (moves-all n p e ks (turn_of kind k s) ∙ turn-all kind p e k s)

  module _ {m n : ℕ} (wider : m ≤ n) where
    -- a turn of the top m places is one of the top n
    turns-widen : (ks : List ℕ) → all (is_turn kind m) ks ≡ true → all (is_turn kind n) ks ≡ true
    unfolding all
    turns-widen [] h = refl
    turns-widen (k ∷ ks) h =
        let t : is_turn kind m k ≡ true = and_left (is_turn kind m k) (all (is_turn kind m) ks) h in
        and_both (is_turn kind n k) (all (is_turn kind n) ks)
        (turn-between kind n k (turn-first kind m k t)
        (omega (arith, turn_last kind m k t, last-whole kind m itself, last-whole kind n itself)))
        (turns-widen ks (and_right (is_turn kind m k) (all (is_turn kind m) ks) h))

    -- what stands below the largest turn is left
    moves-below : (ks : List ℕ) (a c : List ℤ) → all (is_turn kind m) ks ≡ true → m ≤ length a
        → moves_from kind n ks (a ++ c) ≡ moves_from kind m ks a ++ c
    unfolding moves_from all
    moves-below [] a c h l = refl
    moves-below (k ∷ ks) a c h l =
        let last : k ≤ m = omega (arith, turn_last kind m k (and_left (is_turn kind m k) (all (is_turn kind m) ks) h), last-whole kind m itself) in
        rw (move-is-turn kind n itself k (a ++ c), move-is-turn kind m itself k a)
        (ap (moves_from kind n ks) (turn-append kind k a c (le_trans last l))
        ∙ moves-below ks (turn_of kind k a) c (and_right (is_turn kind m k) (all (is_turn kind m) ks) h) (rw (turn-length kind k a) l))

    -- a road over the top m places is one over a list that goes on below
    road-below : {ks : List ℕ} {a b : List ℤ} (c : List ℤ) → m ≤ length a → Road kind m ks a b → Road kind n ks (a ++ c) (b ++ c)
    road-below {ks} {a} c l f =
        record {
          turns = turns-widen ks f.turns;
          arrives = moves-below ks a c f.turns l ∙ ap (λ (t : List ℤ). t ++ c) f.arrives;
        }

    pub within-below : {d : ℕ} {a b : List ℤ} (c : List ℤ) → m ≤ length a → RoadWithin kind m (is_turn kind m) d a b
        → RoadWithin kind n (is_turn kind n) d (a ++ c) (b ++ c)
    within-below c l f = (f.0, road-below c l f.1, f.2)

  pub turn-within : (n k : ℕ) (s w : List ℤ) → 1 ≤ k → k ≤ n → turn_of kind k s ≡ w → RoadWithin kind n (is_turn kind n) (turn_cost kind k) s w
  unfolding turn_cost moves_from all
  turn-within n k s w h l a = go (lt-or-ge k (first_turn kind)) (test-cases (is_coated kind))
    where
      is-turn : first_turn kind ≤ k → is_turn kind n k ≡ true
      is-turn f = turn-between kind n k f (omega (arith, last-whole kind n itself))

      go : (k < first_turn kind) ⊎ (first_turn kind ≤ k) → (is_coated kind ≡ true) ⊎ (is_coated kind ≡ false)
          → RoadWithin kind n (is_turn kind n) (min 1 (suc k - first_turn kind)) s w
      go (inr f) t =
          let turns : all (is_turn kind n) (k ∷ []) ≡ true = and_both (is_turn kind n k) true (is-turn f) refl in
          (k ∷ [], record { turns = turns; arrives = move-is-turn kind n itself k s ∙ a }, omega arith)
      go (inl f) (inl t) = let e : first_turn kind ≡ 1 = first-coated kind t in absurd (omega arith)
      go (inl f) (inr t) =
          let e : first_turn kind ≡ 2 = first_plain kind itself t in
          let o : 1 ≡ k = omega arith in
          ([], record { turns = refl; arrives = sym (turn-needless kind s t) ∙ ap (λ (j : ℕ). turn_of kind j s) o ∙ a }, zero-le)

-- Counting what a level has found: one more for each marked vertex, all of its depth when it closes. A test f picks what is counted.
use mathlib.Core.Path.{◌≡◌, refl, sym, ap, ◌∙◌}
use mathlib.Core.Logic.{◌⊎◌, inl, inr}
use mathlib.Core.Bool.{Bool, false, not, ◌&&◌, cond, and-true, and-false}
use mathlib.Core.List.{List}
use Prim.Native.Nat.{ℕ, suc, ◌+◌, ◌%◌, ◌<◌, ◌≤◌}
use native.Mathlib.Omega.{arith}
use lib.Dec.{eqb}
use borrow.Author.Tests.{eq-eqb, ne_eqb}
use Rattle.base.specs.Words.{tally, from}
use Rattle.base.proofs.Tests.{eq-or-ne}
use Rattle.graph.proofs.Tally.{tally-same, tally-none, tally-change}
use Rattle.graph.proofs.Depths.{Depths}
use Rattle.graph.proofs.Levels.{Level, Marked, Reached, unseen-depth, level-found}

-- v passes f, is at depth d, and is seen
unfoldable pub found : (ℕ → Bool) → (ℕ → ℕ) → ℕ → (ℕ → ℕ) → ℕ → Bool
found f D d e v = (f v && eqb (D v) d) && not (eqb (e v) 3)

module _ (f : ℕ → Bool) (D : ℕ → ℕ) (d : ℕ) (e : ℕ → ℕ) (v : ℕ) where
  found-unseen : e v ≡ 3 → found f D d e v ≡ false
  unfolding found
  found-unseen h = ap (λ (t : Bool). (f v && eqb (D v) d) && not t) (eq-eqb (e v) 3 h) ∙ and-false (f v && eqb (D v) d)

  found-seen : (e v ≡ 3 → ⊥) → found f D d e v ≡ (f v && eqb (D v) d)
  unfolding found
  found-seen h = ap (λ (t : Bool). (f v && eqb (D v) d) && not t) (ne_eqb (e v) 3 h) ∙ and-true (f v && eqb (D v) d)

module _ (f : ℕ → Bool) (D : ℕ → ℕ) (d v : ℕ) where
  depth_is : D v ≡ d → (f v && eqb (D v) d) ≡ f v
  depth_is h = ap (λ (t : Bool). f v && t) (eq-eqb (D v) d h) ∙ and-true (f v)

  depth-is-not : (D v ≡ d → ⊥) → (f v && eqb (D v) d) ≡ false
  depth-is-not h = ap (λ (t : Bool). f v && t) (ne_eqb (D v) d h) ∙ and-false (f v)

module _ (f : ℕ → Bool) (N : ℕ) (D : ℕ → ℕ) (d : ℕ) (e : ℕ → ℕ) where
  found_none : ((v : ℕ) → v < N → D v ≡ d → e v ≡ 3) → tally (found f D d e) (from 0 N) ≡ 0
  found_none blank = tally-none (found f D d e) N (λ v h. go v h (eq-or-ne (e v) 3))
    where
      go : (v : ℕ) → v < N → (e v ≡ 3) ⊎ (e v ≡ 3 → ⊥) → found f D d e v ≡ false
      go v h (inl i) = found-unseen f D d e v i
      go v h (inr i) = found-seen f D d e v i ∙ depth-is-not f D d v (λ j. i (blank v h j))

module _ (f : ℕ → Bool) {N : ℕ} {moves : List ℕ} {step : ℕ → ℕ → ℕ} {w b : ℕ} {D : ℕ → ℕ} (depths : Depths N moves step w b D) where
  -- at depth 0 there is w alone
  pub found-goal : w < N → tally (λ v. f v && eqb (D v) 0) (from 0 N) ≡ cond (f w) 1 0
  found-goal h =
      omega (
        arith,
        tally-change
            (λ v. false)
            (λ v. f v && eqb (D v) 0)
            N
            w
            h
            (λ u g i. depth-is-not f D 0 u (λ j. i (depths.only-goal u j))),
        tally-none (λ v. false) N (λ v g. refl),
        ap (λ (t : Bool). cond {A = ℕ} t 1 0) (depth_is f D 0 w depths.goal),
      )

  -- the first level has found nothing when it begins
  pub found-start : {e : ℕ → ℕ} → ((v : ℕ) → v < N → (v ≡ w → ⊥) → e v ≡ 3) → tally (found f D 1 e) (from 0 N) ≡ 0
  found-start {e} blank = found_none f N D 1 e (λ v h i. blank v h (λ j. omega (arith, ap D j, depths.goal)))

module _ (f : ℕ → Bool) {N d : ℕ} {D e : ℕ → ℕ} {H : ℕ → ℕ → Type 0} {L : ℕ → Type 0} (level : Level N D d e H L) where
  -- nor has the next one
  pub found-next : tally (found f D (suc d) e) (from 0 N) ≡ 0
  found-next = found_none f N D (suc d) e (λ v h i. go v h i (level.above v h (omega arith)))
    where
      go : (v : ℕ) → v < N → D v ≡ suc d → (e v ≡ 3) ⊎ ((D v ≡ d) × (e v ≡ d % 3)) → e v ≡ 3
      go v h i (inl j) = j
      go v h i (inr j) = absurd (omega arith)

  -- an unseen vertex that is marked adds one, if f counts it
  pub found-mark : {e' : ℕ → ℕ} {v : ℕ} → v < N → D v ≤ d → e v ≡ 3 → Marked N d e e' v
      → tally (found f D d e') (from 0 N) ≡ cond (f v) 1 0 + tally (found f D d e) (from 0 N)
  unfolding found
  found-mark {e'} {v} h l i m =
      let new : found f D d e' v ≡ f v =
      found-seen f D d e' v (λ j. omega (arith, m.unseen i)) ∙ depth_is f D d v (unseen-depth level v h i l) in
      omega (
        arith,
        tally-change
            (found f D d e)
            (found f D d e')
            N
            v
            h
            (λ u g j. ap (λ (x : ℕ). (f u && eqb (D u) d) && not (eqb x 3)) (m.others u g j)),
        ap (λ (t : Bool). cond {A = ℕ} t 1 0) (found-unseen f D d e v i),
        ap (λ (t : Bool). cond {A = ℕ} t 1 0) new,
      )

  -- when the level closes, all of its depth are found
  pub found_all : ((v : ℕ) → L v → ⊥) → Reached N D d H → tally (found f D d e) (from 0 N) ≡ tally (λ v. f v && eqb (D v) d) (from 0 N)
  found_all none reached = tally-same (found f D d e) (λ v. f v && eqb (D v) d) N (λ v h. go v h (eq-or-ne (e v) 3))
    where
      go : (v : ℕ) → v < N → (e v ≡ 3) ⊎ (e v ≡ 3 → ⊥) → found f D d e v ≡ (f v && eqb (D v) d)
      go v h (inl i) =
          found-unseen f D d e v i ∙ sym (depth-is-not f D d v (λ j. omega (arith, level-found level none reached v h j)))
      go v h (inr i) = found-seen f D d e v i

-- Laws of `is_move`: which numbers a list of moves holds.
use mathlib.Core.Path.{◌≡◌, refl, sym, ap, ◌∙◌, subst}
use mathlib.Core.Logic.{◌⊎◌, inl, inr}
use mathlib.Core.Bool.{Bool, true, false, ◌&&◌, ◌||◌, cond, false≢true}
use mathlib.Core.List.{List, [], ◌∷◌}
use Prim.Native.Nat.{ℕ, zero, suc, ◌+◌, ◌<◌, ◌≤◌, max}
use native.Mathlib.Omega.{arith}
use lib.Dec.{eqb}
use lib.ListN.{length, get_or}
use borrow.Author.Tests.{eqb-true, eq-eqb}
use Rattle.base.specs.Words.{filter, largest, from}
use Rattle.base.proofs.Tests.{and-fails-right, lt-or-ge, eq-or-ne}
use Rattle.graph.specs.Walks.{is_move}

-- a move of a longer list is its first, or one of the rest
pub is_move-cases : (m : ℕ) (ms : List ℕ) (k : ℕ) → is_move (m ∷ ms) k ≡ true → (k ≡ m) ⊎ (is_move ms k ≡ true)
unfolding is_move
is_move-cases m ms k h = go (eqb k m) refl h
  where
    go : (t : Bool) → eqb k m ≡ t → (t || is_move ms k) ≡ true → (k ≡ m) ⊎ (is_move ms k ≡ true)
    go true e i = inl (eqb-true k m e)
    go false e i = inr i

pub is_move-first : (m : ℕ) (ms : List ℕ) → is_move (m ∷ ms) m ≡ true
unfolding is_move
is_move-first m ms = ap (λ (t : Bool). t || is_move ms m) (eq-eqb m m refl)

pub is_move-rest : (m : ℕ) (ms : List ℕ) (k : ℕ) → is_move ms k ≡ true → is_move (m ∷ ms) k ≡ true
unfolding is_move
is_move-rest m ms k h = go (eqb k m)
  where
    go : (t : Bool) → (t || is_move ms k) ≡ true
    go true = refl
    go false = h

-- a move stands at some place of the list, and what stands there is a move
pub move-listed : (ms : List ℕ) (k : ℕ) → is_move ms k ≡ true → (i : ℕ) × (i < length ms) × (get_or ms i 0 ≡ k)
unfolding is_move
move-listed [] k h = absurd (false≢true h)
move-listed (m ∷ ms) k h = go (λ i. move-listed ms k i) (is_move-cases m ms k h)
  where
    go : (is_move ms k ≡ true → (i : ℕ) × (i < length ms) × (get_or ms i 0 ≡ k)) → (k ≡ m) ⊎ (is_move ms k ≡ true)
        → (i : ℕ) × (i < suc (length ms)) × (get_or (m ∷ ms) i 0 ≡ k)
    go rest (inl e) = (0, omega arith, sym e)
    go rest (inr i) = let r = rest i in (suc r.0, omega (arith, r.1), r.2)

pub listed-move : (ms : List ℕ) (i : ℕ) → i < length ms → is_move ms (get_or ms i 0) ≡ true
listed-move [] i h = absurd (omega arith)
listed-move (m ∷ ms) zero h = is_move-first m ms
listed-move (m ∷ ms) (suc i) h = is_move-rest m ms (get_or ms i 0) (listed-move ms i (omega arith))

-- the moves a, a + 1, .., n of them
pub is_move-from : (a n k : ℕ) → is_move (from a n) k ≡ true → (a ≤ k) × (k < a + n)
unfolding is_move from
is_move-from a zero k h = absurd (false≢true h)
is_move-from a (suc n) k h = go (λ i. is_move-from (suc a) n k i) (is_move-cases a (from (suc a) n) k h)
  where
    go : (is_move (from (suc a) n) k ≡ true → (suc a ≤ k) × (k < suc a + n)) → (k ≡ a) ⊎ (is_move (from (suc a) n) k ≡ true)
        → (a ≤ k) × (k < a + suc n)
    go rest (inl e) = omega arith
    go rest (inr i) = let r = rest i in omega arith

pub from-is_move : (a n k : ℕ) → a ≤ k → k < a + n → is_move (from a n) k ≡ true
unfolding from
from-is_move a zero k l h = absurd (omega arith)
from-is_move a (suc n) k l h = go (λ i. from-is_move (suc a) n k i (omega arith)) (eq-or-ne k a)
  where
    go : (suc a ≤ k → is_move (from (suc a) n) k ≡ true) → (k ≡ a) ⊎ (k ≡ a → ⊥) → is_move (a ∷ from (suc a) n) k ≡ true
    go rest (inl e) = subst (λ (x : ℕ). is_move (a ∷ from (suc a) n) x ≡ true) (sym e) (is_move-first a (from (suc a) n))
    go rest (inr e) = is_move-rest a (from (suc a) n) k (rest (omega arith))

-- what is left of a list of moves are those that pass the test
pub is_move-filter : (p : ℕ → Bool) (ms : List ℕ) (k : ℕ) → is_move (filter p ms) k ≡ (is_move ms k && p k)
unfolding filter is_move
is_move-filter p [] k = refl
is_move-filter p (m ∷ ms) k = go (p m) refl (is_move-filter p ms k)
  where
    rest : Type 0
    rest = is_move (filter p ms) k ≡ (is_move ms k && p k)

    kept : p m ≡ true → rest → (t : Bool) → eqb k m ≡ t → (t || is_move (filter p ms) k) ≡ ((t || is_move ms k) && p k)
    kept e r true q = sym (ap p (eqb-true k m q) ∙ e)
    kept e r false q = r

    gone : p m ≡ false → rest → (t : Bool) → eqb k m ≡ t → is_move (filter p ms) k ≡ ((t || is_move ms k) && p k)
    gone e r true q = let f = ap p (eqb-true k m q) ∙ e in r ∙ and-fails-right (is_move ms k) (p k) f ∙ sym f
    gone e r false q = r

    go : (t : Bool) → p m ≡ t → rest → is_move (cond t (m ∷ filter p ms) (filter p ms)) k ≡ ((eqb k m || is_move ms k) && p k)
    go true e r = kept e r (eqb k m) refl
    go false e r = gone e r (eqb k m) refl

-- the largest move is a move, unless it is 0, and no move is larger
pub largest-move : (ms : List ℕ) → (largest ms ≡ 0 → ⊥) → is_move ms (largest ms) ≡ true
unfolding largest
largest-move [] h = absurd (h refl)
largest-move (m ∷ ms) h = go (largest-move ms) (lt-or-ge m (largest ms))
  where
    go : ((largest ms ≡ 0 → ⊥) → is_move ms (largest ms) ≡ true) → (m < largest ms) ⊎ (largest ms ≤ m) → is_move (m ∷ ms) (max m (largest ms)) ≡ true
    go rest (inl l) =
        let e : largest ms ≡ max m (largest ms) = omega arith in
        subst (λ (k : ℕ). is_move (m ∷ ms) k ≡ true) e (is_move-rest m ms (largest ms) (rest (λ z. omega arith)))
    go rest (inr l) =
        let e : m ≡ max m (largest ms) = omega arith in
        subst (λ (k : ℕ). is_move (m ∷ ms) k ≡ true) e (is_move-first m ms)

pub move-largest : (ms : List ℕ) (k : ℕ) → is_move ms k ≡ true → k ≤ largest ms
unfolding largest is_move
move-largest [] k h = absurd (false≢true h)
move-largest (m ∷ ms) k h = go (λ i. move-largest ms k i) (is_move-cases m ms k h)
  where
    go : (is_move ms k ≡ true → k ≤ largest ms) → (k ≡ m) ⊎ (is_move ms k ≡ true) → k ≤ max m (largest ms)
    go rest (inl e) = omega arith
    go rest (inr i) = omega (arith, rest i)

-- A rule of a whole table, by one test that is computed.
use mathlib.Core.Path.{◌≡◌, refl, ap₂}
use mathlib.Core.Bool.{Bool, true, ◌&&◌}
use mathlib.Core.List.{List, [], ◌∷◌, map}
use Prim.Native.Nat.{ℕ, suc}
use lib.Dec.{eqb}
use lib.ListN.{length}
use borrow.Author.Tests.{eqb-true}
use Rattle.base.specs.Words.{from}
use Rattle.base.proofs.Tests.{and_left, and_right}

-- each entry is what f says at its index, counted from i
unfoldable pub follows : (ℕ → ℕ) → ℕ → List ℕ → Bool
follows f i [] = true
follows f i (x ∷ xs) = eqb x (f i) && follows f (suc i) xs

-- then the table is f at each index
pub computed : (f : ℕ → ℕ) (i : ℕ) (xs : List ℕ) → follows f i xs ≡ true → xs ≡ map f (from i (length xs))
unfolding follows from
computed f i [] h = refl
computed f i (x ∷ xs) h =
    ap₂ (λ (y : ℕ) (ys : List ℕ). y ∷ ys)
    (eqb-true x (f i) (and_left (eqb x (f i)) (follows f (suc i) xs) h))
    (computed f (suc i) xs (and_right (eqb x (f i)) (follows f (suc i) xs) h))

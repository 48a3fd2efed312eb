-- A chain of an iterator that ends in all(..): std's test of a list, and of the numbers below n, is the definitions' own.
use mathlib.Core.Path.{◌≡◌, refl, ap, ◌∙◌}
use mathlib.Core.Bool.{Bool, ◌&&◌}
use mathlib.Core.List.{List, [], ◌∷◌}
use Prim.Native.Nat.{ℕ, zero, suc}
use native.Mathlib.Numerals.{add-one}
use Rattle.std.specs.List.{list_all, range_with_len}
use Rattle.base.specs.Words.{all, from}

pub all-listed : {A : Type 0} (t : A → Bool) (xs : List A) → list_all t xs ≡ all t xs
unfolding all
all-listed t [] = refl
all-listed t (x ∷ xs) = ap (λ (b : Bool). t x && b) (all-listed t xs)

range-from : (a n : ℕ) → range_with_len a n ≡ from a n
unfolding from
range-from a zero = refl
range-from a (suc n) = rw add-one (ap (λ (xs : List ℕ). a ∷ xs) (range-from (suc a) n))

pub all-ranged : (t : ℕ → Bool) (n : ℕ) → list_all t (range_with_len 0 n) ≡ all t (from 0 n)
all-ranged t n = all-listed t (range_with_len 0 n) ∙ ap (all t) (range-from 0 n)

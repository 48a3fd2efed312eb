-- The small words that every definition of the project is written with.
--   unless ok r rest   the refusal r where ok fails, else what rest says: a row of these is an ordered list of refusals
--   all p xs           p holds of each element
--   any p xs           p holds of some element
--   tally p xs         how many elements p holds of
--   filter p xs        those elements, in their order
--   total xs           the sum of a list
--   largest xs         the largest number of a list, 0 of none
--   fact n             n!
--   from a n           the n numbers a, a + 1, ..
--   first_from p a n    the first of them that passes a test, and a + n where none does
--   without i xs       xs with the element at place i taken out
--   bit s i            the bit of weight 2 ^ i
use Rattle.std.specs.Prelude.{Bool, true, false, ◌&&◌, ◌||◌, cond, List, [], ◌∷◌, ◌++◌, ℕ, zero, suc, ◌+◌, ◌*◌, ◌/◌, ◌%◌, max, take, drop}

abbrev pub unless : Bool → ℕ → ℕ → ℕ
unless true r rest = rest
unless false r rest = r

module _ {A : Type 0} where
  unfoldable pub all : (A → Bool) → List A → Bool
  all p [] = true
  all p (x ∷ xs) = p x && all p xs

  unfoldable pub any : (A → Bool) → List A → Bool
  any p [] = false
  any p (x ∷ xs) = p x || any p xs

  unfoldable pub tally : (A → Bool) → List A → ℕ
  tally p [] = 0
  tally p (x ∷ xs) = cond (p x) 1 0 + tally p xs

  unfoldable pub filter : (A → Bool) → List A → List A
  filter p [] = []
  filter p (x ∷ xs) = cond (p x) (x ∷ filter p xs) (filter p xs)

  unfoldable pub without : ℕ → List A → List A
  without i xs = take i xs ++ drop (suc i) xs

unfoldable pub total : List ℕ → ℕ
total [] = 0
total (x ∷ xs) = x + total xs

unfoldable pub largest : List ℕ → ℕ
largest [] = 0
largest (x ∷ xs) = max x (largest xs)

unfoldable pub fact : ℕ → ℕ
fact zero = 1
fact (suc n) = suc n * fact n

unfoldable pub from : ℕ → ℕ → List ℕ
from a zero = []
from a (suc n) = a ∷ from (suc a) n

unfoldable pub first_from : (ℕ → Bool) → ℕ → ℕ → ℕ
first_from p a zero = a
first_from p a (suc n) = cond (p a) a (first_from p (suc a) n)

unfoldable pub bit : ℕ → ℕ → ℕ
bit s zero = s % 2
bit s (suc i) = bit (s / 2) i

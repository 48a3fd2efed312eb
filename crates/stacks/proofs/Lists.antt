-- The definitions' words on lists in std's words, in which the code's iterators say what they answer.
use mathlib.Core.Path.{◌≡◌, refl, ap}
use mathlib.Core.Bool.{Bool, ◌&&◌}
use mathlib.Core.List.{List, [], ◌∷◌}
use Rattle.std.specs.List.{list_all}
use Rattle.base.specs.Words.{all}

pub all-listed : {A : Type 0} (p : A → Bool) (xs : List A) → list_all p xs ≡ all p xs
unfolding all
all-listed p [] = refl
all-listed p (x ∷ xs) = ap (λ (b : Bool). p x && b) (all-listed p xs)

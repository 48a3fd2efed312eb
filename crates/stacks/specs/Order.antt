-- The lexicographic order that the index numbers: the unsigned order first, then the coats, up before down.
use Rattle.std.specs.Prelude.{Bool, false, ◌&&◌, ◌||◌, List, [], ◌∷◌, ◌++◌, map, ℕ, ltb, eqb, ℤ, take}
use Rattle.stacks.specs.Stack.{order_of}
use Rattle.stacks.specs.Index.{coat}

-- at the first place where two lists differ, the first has the smaller number
unfoldable pub lex_less : List ℕ → List ℕ → Bool
lex_less [] ys = false
lex_less (x ∷ xs) [] = false
lex_less (x ∷ xs) (y ∷ ys) = ltb x y || (eqb x y && lex_less xs ys)

-- stack a comes before stack b
unfoldable pub precedes : ℕ → List ℤ → List ℤ → Bool
precedes n a b = lex_less (order_of n a ++ map coat (take n a)) (order_of n b ++ map coat (take n b))

-- How a stream of characters falls into lines (document 01, "The report").
--   lines_of cs     the lines of a whole input: each ends at a 10, the last may lack its end, and nothing follows a last line end
use Rattle.std.specs.Prelude.{cond, List, [], ◌∷◌, ℕ, eqb}

-- the lines with c before them, in the first one
unfoldable pub in_first : ℕ → List (List ℕ) → List (List ℕ)
in_first c [] = (c ∷ []) ∷ []
in_first c (l ∷ ls) = (c ∷ l) ∷ ls

unfoldable pub lines_of : List ℕ → List (List ℕ)
lines_of [] = []
lines_of (c ∷ cs) = cond (eqb c 10) ([] ∷ lines_of cs) (in_first c (lines_of cs))

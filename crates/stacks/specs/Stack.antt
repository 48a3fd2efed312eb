-- What a stack is, how many there are, and which turns its kind has (document 01, "Stacks and turns").
-- A stack is a list of twelve signed places, top first: a place is a pane's number, negative for coat down, and 0 where it is unused.
--   kind       0 plain (a permutation), 1 coated (a signed permutation)
--   order_of    the unsigned order: the panes' numbers from the top
--   ordered    the ordered stack: 1 to n from the top, all coats up
--   coatings   in how many ways the coats of n panes can lie
use Rattle.std.specs.Prelude.{Bool, true, ◌&&◌, ◌||◌, cond, List, [], ◌∷◌, ◌++◌, map, ℕ, ◌-◌, ◌*◌, ◌^◌, leb, ltb, eqb, ℤ, pos, nat_abs, length, take, drop, replicate}
use Rattle.std.specs.Int.Signed.{non_neg}
use Rattle.base.specs.Words.{all, tally, fact, from}

-- the places of a stack
abbrev pub stack_places : ℕ
stack_places = 12

unfoldable pub is_kind : ℕ → Bool
is_kind kind = ltb kind 2

unfoldable pub is_coated : ℕ → Bool
is_coated kind = eqb kind 1

-- the range of n that a kind has
unfoldable pub fewest_panes : ℕ → ℕ
fewest_panes kind = 1

unfoldable pub most_panes : ℕ → ℕ
most_panes kind = cond (is_coated kind) 10 12

unfoldable pub is_pane_count : ℕ → ℕ → Bool
is_pane_count kind n = leb (fewest_panes kind) n && leb n (most_panes kind)

unfoldable pub order_of : ℕ → List ℤ → List ℕ
order_of n s = map nat_abs (take n s)

-- each pane has a number from 1 to n and is not among those met above it
unfoldable pub each_once : ℕ → List ℕ → List ℕ → Bool
each_once n met [] = true
each_once n met (x ∷ xs) = leb 1 x && leb x n && eqb (tally (eqb x) met) 0 && each_once n (x ∷ met) xs

unfoldable pub is_unused : ℤ → Bool
is_unused x = eqb (nat_abs x) 0

-- its places: n panes, 1 to n, each once; a plain one has no coat; unused places are zero
unfoldable pub is_stack : ℕ → ℕ → List ℤ → Bool
is_stack kind n s = eqb (length s) stack_places && each_once n [] (order_of n s) && (is_coated kind || all non_neg s) && all is_unused (drop n s)

unfoldable pub ordered : ℕ → List ℤ
ordered n = map pos (from 1 n) ++ replicate (stack_places - n) (pos 0)

unfoldable pub coatings : ℕ → ℕ → ℕ
coatings kind n = cond (is_coated kind) (2 ^ n) 1

-- N, the count of stacks
unfoldable pub stack_count : ℕ → ℕ → ℕ
stack_count kind n = fact n * coatings kind n

-- The lexicographic numbering of stacks, each way (document 01, "Index").
use Rattle.std.specs.Prelude.{List, [], ◌∷◌, ◌++◌, map, ℕ, zero, suc, ◌+◌, ◌-◌, ◌*◌, ◌/◌, ◌%◌, ◌^◌, ltb, ℤ, pos, negsuc, neg_ℤ, length, get_or, take, replicate}
use Rattle.base.specs.Words.{tally, fact, from, without}
use Rattle.stacks.specs.Stack.{stack_places, order_of, coatings, stack_count}

-- how many panes of a list have a smaller number than x
unfoldable pub smaller : ℕ → List ℕ → ℕ
smaller x xs = tally (λ y. ltb y x) xs

-- the place of an unsigned order: at each place the pane's number minus one, less the smaller panes already met, times the factorial of
-- the panes below it
unfoldable pub rank_from : List ℕ → List ℕ → ℕ
rank_from met [] = 0
rank_from met (x ∷ xs) = (x - 1 - smaller x met) * fact (length xs) + rank_from (x ∷ met) xs

-- 1 for coat down
unfoldable pub coat : ℤ → ℕ
coat (pos x) = 0
coat (negsuc x) = 1

-- 2 ^ (n - 1 - p) for each coat-down pane at place p of n
unfoldable pub coat_bits : List ℤ → ℕ
coat_bits [] = 0
coat_bits (x ∷ xs) = coat x * 2 ^ length xs + coat_bits xs

-- the index of a stack. A plain stack has one coating and no coat down
unfoldable pub rank_of : ℕ → ℕ → List ℤ → ℕ
rank_of kind n s = rank_from [] (order_of n s) * coatings kind n + coat_bits (take n s)

-- the unsigned order at place i among those of the m free panes, which rise: the top pane is the free one that i's quotient by the
-- factorial says, and the remainder places the others
unfoldable pub order_at : ℕ → List ℕ → ℕ → List ℕ
order_at zero free i = []
order_at (suc m) free i = get_or free (i / fact m) 0 ∷ order_at m (without (i / fact m) free) (i % fact m)

-- pane x with its coat down where the bit is 1
unfoldable pub pane_with : ℕ → ℕ → ℤ
pane_with x zero = pos x
pane_with x (suc bit) = neg_ℤ (pos x)

-- the panes with the coats that the bits say, highest bit at the top
unfoldable pub coated_by : List ℕ → ℕ → List ℤ
coated_by [] bits = []
coated_by (x ∷ xs) bits = pane_with x (bits / 2 ^ length xs % 2) ∷ coated_by xs bits

-- the stack at an index
unfoldable pub stack_at : ℕ → ℕ → ℕ → List ℤ
stack_at kind n i = coated_by (order_at n (from 1 n) (i / coatings kind n)) (i % coatings kind n) ++ replicate (stack_places - n) (pos 0)

-- all stacks in the order of their index
unfoldable pub all_stacks : ℕ → ℕ → List (List ℤ)
all_stacks kind n = map (stack_at kind n) (from 0 (stack_count kind n))

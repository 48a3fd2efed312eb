-- Index of a stack, Stack at an index and Turn: what each answers for any arguments, refusals in document 01's order.
use Rattle.std.specs.Prelude.{cond, List, ℕ, ltb, eqb, ℤ, pos, replicate}
use Rattle.base.specs.Words.{unless}
use Rattle.stacks.specs.Stack.{stack_places, is_kind, is_pane_count, is_stack, stack_count}
use Rattle.stacks.specs.Index.{rank_of, stack_at}
use Rattle.stacks.specs.Turn.{is_turn, move_of}
use Rattle.stacks.specs.Answers.{Indexed}
use Rattle.stacks.specs.Answers.{Stacked}

-- refusals 1 and 2, which every operation on a kind and n tries first, and then the rest
unfoldable pub kind_refusal : ℕ → ℕ → ℕ → ℕ
kind_refusal kind n rest = unless (is_kind kind) 1 (unless (is_pane_count kind n) 2 rest)

unfoldable pub index_refusal : ℕ → ℕ → List ℤ → ℕ
index_refusal kind n s = kind_refusal kind n (unless (is_stack kind n s) 3 0)

unfoldable pub stack_refusal : ℕ → ℕ → ℕ → ℕ
stack_refusal kind n i = kind_refusal kind n (unless (ltb i (stack_count kind n)) 4 0)

unfoldable pub turn_refusal : ℕ → ℕ → List ℤ → ℕ → ℕ
turn_refusal kind n s k = kind_refusal kind n (unless (is_stack kind n s) 3 (unless (is_turn kind n k) 4 0))

-- the answer with a refusal's number, 0 for none, and the value where there is none
abbrev pub indexed : ℕ → ℕ → Indexed
indexed r i = record { refusal = r; index = cond (eqb r 0) i 0 }

abbrev pub stacked : ℕ → List ℤ → Stacked
stacked r s = record { refusal = r; stack = cond (eqb r 0) s (replicate stack_places (pos 0)) }

-- Index of a stack
unfoldable pub index_of : ℕ → ℕ → List ℤ → Indexed
index_of kind n s = indexed (index_refusal kind n s) (rank_of kind n s)

-- Stack at an index
unfoldable pub stack_of : ℕ → ℕ → ℕ → Stacked
stack_of kind n i = stacked (stack_refusal kind n i) (stack_at kind n i)

-- Turn
unfoldable pub turned_of : ℕ → ℕ → List ℤ → ℕ → Stacked
turned_of kind n s k = stacked (turn_refusal kind n s k) (move_of kind n k s)

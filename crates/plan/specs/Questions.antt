-- What Plan's definitions say of a question, by its fields.
use Rattle.std.specs.Prelude.{◌≡◌, true, not, List, ℕ, ℤ, eqb}
use Rattle.base.specs.Words.{unless}
use Rattle.perm.specs.Panes.{kind_of}
use Rattle.stacks.specs.Index.{rank_of}
use Rattle.stacks.specs.Stack.{is_stack}
use Rattle.stacks.specs.Turn.{turns_in, move_of}
use Rattle.search.specs.Entries.{unseen}
use Rattle.search.specs.Plan.{Route, entry_of, has_plan, turn_to, route_from}
use Rattle.plan.specs.declared.question.Question.{Question}

abbrev pub kind_in : Question → ℕ
kind_in q = kind_of q.set.panes

-- a stack's index, the stack after move k, and a stack's entry
abbrev pub index_in : Question → List ℤ → ℕ
index_in q = rank_of (kind_in q) q.set.panes.n

abbrev pub moved_in : Question → ℕ → List ℤ → List ℤ
moved_in q = move_of (kind_in q) q.set.panes.n

abbrev pub entry_in : Question → List ℤ → ℕ
entry_in q = entry_of (kind_in q) q.set.panes.n q.table.now

abbrev pub moves_in : Question → List ℕ
moves_in q = turns_in (kind_in q) q.set.panes.n q.set.groups

-- the refusals that the table's entries decide
abbrev pub route_refusal : Question → ℕ
route_refusal q =
    unless (not (eqb (entry_in q q.given) unseen)) 20
    (unless (has_plan (kind_in q) q.set.panes.n q.table.now q.wanted (moves_in q) q.given) 15 0)

abbrev pub turn_of : Question → List ℤ → ℕ → ℕ
turn_of q stack v = turn_to (kind_in q) q.set.panes.n q.table.now stack v (moves_in q)

abbrev pub way_of : Question → Route
way_of q = route_from (kind_in q) q.set.panes.n q.table.now q.wanted (moves_in q) q.given

-- what the helpers ask for: a stack of that kind and n at its index
pub record StandsAt (q : Question) (stack : List ℤ) (index : ℕ) : Type 0 where
  pub is-stack : is_stack (kind_in q) q.set.panes.n stack ≡ true
  pub at : index ≡ index_in q stack

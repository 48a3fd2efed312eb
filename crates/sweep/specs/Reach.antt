-- One call of Sweep as its functions speak of it. b is the loaded segment, list its changed list.
--   reached_by   the stack at an index has a changed child in segment b
--   BitFits, ReachFits, RunFits   what looking at a child, searching a stack and a run ask
--   Sweeps      what a run leaves of the marks
use Rattle.std.specs.Prelude.{◌≡◌, Bool, List, [], ℕ, ◌+◌, ◌*◌, ◌/◌, ◌%◌, ◌<◌, length}
use Rattle.base.specs.Words.{any, filter, from}
use Rattle.stacks.specs.Stack.{stack_count}
use Rattle.stacks.specs.Turn.{turns_in}
use Rattle.search.specs.Changed.{list_bytes}
use Rattle.search.specs.Entries.{bytes_for}
use Rattle.search.specs.Expand.{children_of}
use Rattle.search.specs.JobState.{count_limit}
use Rattle.search.specs.Logs.{indexes_of}
use Rattle.search.specs.Marks.{Marks, mark_all}
use Rattle.search.specs.Segments.{stack_count_in}
use Rattle.search.specs.Sweep.{is_changed}
use Rattle.search.specs.declared.Found.{Found}
use Rattle.search.specs.declared.Terms.{Terms}
use Rattle.perm.specs.Panes.{kind_of}
use Rattle.twobit.specs.Mark.{AtMost}
use Rattle.sweep.specs.declared.reach.Pair.{Pair}

-- a child of segment b has its bit in the list
abbrev pub BitFits : ℕ → ℕ → List ℕ → ℕ → Type 0
BitFits S b list child = (0 < S) × (child / S ≡ b → child % S / 8 < length list)

abbrev pub reached_by : Pair → List ℕ → ℕ → Bool
reached_by pair list v = any (is_changed pair.size pair.b list) (children_of (kind_of pair.set.panes) pair.set.panes.n (turns_in (kind_of pair.set.panes) pair.set.panes.n pair.set.groups) v)

pub record ReachFits (pair : Pair) (list : List ℕ) (v : ℕ) : Type 0 where
  pub some : 0 < pair.size
  pub listed : length list ≡ list_bytes (stack_count_in (stack_count (kind_of pair.set.panes) pair.set.panes.n) pair.size pair.b)
  pub below : v < stack_count (kind_of pair.set.panes) pair.set.panes.n

-- the terms that a pair stands for; the others do not matter
abbrev pub pair_terms : Pair → Terms
pair_terms pair =
    record { kind = kind_of pair.set.panes; n = pair.set.panes.n; wanted = []; groups = pair.set.groups; size = pair.size; room = 0 }

-- the counts stay within 64 bits: each stack adds at most one
pub record RunFits (pair : Pair) (stacks : ℕ) (found : Found) (segment list : List ℕ) : Type 0 where
  pub some : 0 < pair.size
  pub listed : length list ≡ list_bytes (stack_count_in (stack_count (kind_of pair.set.panes) pair.set.panes.n) pair.size pair.b)
  pub starts : pair.j * pair.size < stack_count (kind_of pair.set.panes) pair.set.panes.n
  pub all : stacks ≡ stack_count_in (stack_count (kind_of pair.set.panes) pair.set.panes.n) pair.size pair.j
  pub bytes : length segment ≡ bytes_for stacks
  pub label : pair.mark < 3
  pub few : AtMost found count_limit

-- the first stacks of segment j that are reached, as offsets, and the marks that they leave
abbrev pub reached_to : Pair → List ℕ → ℕ → List ℕ
reached_to pair list stacks = filter (λ i. reached_by pair list (pair.j * pair.size + i)) (from 0 stacks)

abbrev pub Sweeps : Pair → ℕ → List ℕ → Marks → Marks → Type 0
Sweeps pair stacks list before after =
    after ≡ mark_all (pair_terms pair) pair.mark (indexes_of pair.size pair.j (reached_to pair list stacks)) before

-- What Begin is given, as one value, with document 01's letters for what follows from it.
--   Terms          kind, n, wanted stack, set of group sizes, S (size) and C (room)
--   N, G, m        the stacks, the segments, the stacks of segment j
--   begin_refusal   why Begin refuses them
use Rattle.std.specs.Prelude.{List, ℕ, ℤ}
use Rattle.base.specs.Words.{unless}
use Rattle.stacks.specs.Operations.{kind_refusal}
use Rattle.stacks.specs.Stack.{is_stack, stack_count}
use Rattle.stacks.specs.Turn.{is_group_set}
use Rattle.search.specs.Segments.{segment_count, stack_count_in, is_segment_size, is_log_room}
use Rattle.search.specs.declared.Terms.{Terms}

abbrev pub N : Terms → ℕ
N terms = stack_count terms.kind terms.n

abbrev pub G : Terms → ℕ
G terms = segment_count (N terms) terms.size

abbrev pub m : Terms → ℕ → ℕ
m terms = stack_count_in (N terms) terms.size

-- 1, 2, 3 for the wanted stack, 21 for the set, 5 for S, 6 for C
unfoldable pub begin_refusal : Terms → ℕ
begin_refusal terms =
    kind_refusal terms.kind terms.n
    (unless (is_stack terms.kind terms.n terms.wanted) 3
    (unless (is_group_set terms.kind terms.n terms.groups) 21
    (unless (is_segment_size (N terms) terms.size) 5 (unless (is_log_room terms.room) 6 0))))

-- of six values, as who has them singly gives them
abbrev pub terms_of : ℕ → ℕ → List ℤ → ℕ → ℕ → ℕ → Terms
terms_of kind n wanted groups S C = record { kind = kind; n = n; wanted = wanted; groups = groups; size = S; room = C }

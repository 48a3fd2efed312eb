-- What follows from what an accepted Begin was given.
--   moves, step   the moves, and the child by a move, as an index
--   goal          the wanted stack's index
--   D             the fewest moves from the stack at an index, cut beyond the last level
--   level_count    how many stacks are at exactly d moves
--   Given         what Begin saw to, and what follows: some stacks in a segment, few segments, and the laws of the moves
-- That every stack has a road, and a short one, is a fact about all turns, of which nothing is known here.
use mathlib.Core.Path.{◌≡◌}
use mathlib.Core.Bool.{true}
use mathlib.Core.List.{List}
use Prim.Native.Nat.{ℕ, suc, ◌<◌, ◌≤◌}
use native.Mathlib.Omega.{arith}
use Rattle.graph.proofs.Depths.{Depths}
use Rattle.graph.proofs.LevelCounts.{depth_count}
use Rattle.stacks.specs.Index.{rank_of}
use Rattle.stacks.specs.Stack.{is_kind, is_pane_count, is_stack}
use Rattle.stacks.specs.Turn.{is_group_set, turns_in}
use Rattle.search.specs.JobState.{last_level}
use Rattle.search.specs.Marks.{every_stack}
use Rattle.search.specs.Segments.{segment_limit, is_segment_size, is_log_room}
use Rattle.search.specs.Terms.{N, G}
use Rattle.search.specs.declared.Terms.{Terms}
use Rattle.search.proofs.Fewest.{depth, move-depths, goal-inside}
use Rattle.search.proofs.SegmentLaws.{SegmentSizeFacts, segment-size-facts}
use Rattle.search.proofs.Turning.{child_at, Moves, set-turns}

abbrev pub moves : Terms → List ℕ
moves terms = turns_in terms.kind terms.n terms.groups

abbrev pub step : Terms → ℕ → ℕ → ℕ
step terms = child_at terms.kind terms.n

abbrev pub goal : Terms → ℕ
goal terms = rank_of terms.kind terms.n terms.wanted

-- the depth of a stack that has no road of at most last_level moves
abbrev pub beyond : ℕ
beyond = suc last_level

abbrev pub D : Terms → ℕ → ℕ
D terms = depth terms.kind terms.n (moves terms) terms.wanted beyond

abbrev pub level_count : Terms → ℕ → ℕ
level_count terms = depth_count (every_stack terms) (N terms) (D terms)

pub record Given (terms : Terms) : Type 0 where
  pub is-kind : is_kind terms.kind ≡ true
  pub in-range : is_pane_count terms.kind terms.n ≡ true
  pub stack : is_stack terms.kind terms.n terms.wanted ≡ true
  pub of-set : is_group_set terms.kind terms.n terms.groups ≡ true
  pub segments : is_segment_size (N terms) terms.size ≡ true
  pub room : is_log_room terms.room ≡ true

module _ {terms : Terms} (given : Given terms) where
  sizes : SegmentSizeFacts (N terms) terms.size
  sizes = segment-size-facts (N terms) terms.size given.segments

  pub some : 0 < terms.size
  some = omega (arith, sizes.least)

  pub few : G terms ≤ segment_limit
  few = sizes.few

  pub laws : Moves terms.kind terms.n (moves terms)
  laws = set-turns terms.kind terms.n given.in-range terms.groups given.of-set

  pub depths : Depths (N terms) (moves terms) (step terms) (goal terms) beyond (D terms)
  depths = move-depths terms.kind terms.n terms.wanted beyond given.in-range given.stack laws (omega arith)

  pub goal-here : goal terms < N terms
  goal-here = goal-inside terms.kind terms.n terms.wanted beyond given.in-range given.stack laws

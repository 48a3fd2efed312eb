-- What a job that Begin would accept, and a coherent one, keep within bounds, so that the code's numbers fit.
use mathlib.Core.Path.{◌≡◌, refl, subst}
use mathlib.Core.Bool.{Bool, true, not, cond}
use Prim.Native.Nat.{ℕ, ◌+◌, ◌*◌, ◌≤◌, ◌<◌}
use native.Mathlib.Nat.{suc-mul, mul-le-mul, mul-le-mul_right}
use native.Mathlib.Omega.{arith}
use borrow.Author.Tests.{lt-ltb, leb-true}
use lib.Dec.{leb}
use Rattle.base.proofs.Tests.{and_left, never}
use Rattle.stacks.specs.Stack.{is_pane_count, is_stack}
use Rattle.search.specs.JobState.{last_level, count_limit, is_level, is_reverse, in_forward, in_reverse, level_of, phase_fits, stack_count_of, segment_count_of, log_length, waiting_of, is_coherent}
use Rattle.search.specs.Marks.{found_at}
use Rattle.search.specs.Segments.{segment_limit, most_size, most_room, is_segment_size, is_log_room}
use Rattle.search.specs.Terms.{N, G, begin_refusal}
use Rattle.search.specs.declared.Job.{Job}
use Rattle.search.specs.declared.Phase.{Phase}
use Rattle.search.specs.declared.Phase.TheVariants.{Blanking, Level, Finished}
use Rattle.search.proofs.Coherence.{begin-given, coherent-facts}
use Rattle.search.proofs.SegmentLaws.{segment-size-facts, log-room-facts}
use Rattle.twobit.specs.Mark.{AtMost}

pub record Bounds (job : Job) : Type 0 where
  pub is_pane_count : is_pane_count job.terms.kind job.terms.n ≡ true
  pub is-size : is_segment_size (N job.terms) job.terms.size ≡ true
  pub is-room : is_log_room job.terms.room ≡ true
  pub is-stack : is_stack job.terms.kind job.terms.n job.terms.wanted ≡ true
  pub some : 0 < job.terms.size
  pub small : job.terms.size ≤ most_size
  pub few : segment_count_of job ≤ segment_limit
  pub narrow : job.terms.room ≤ most_room

module _ (job : Job) where
  pub begun-bounds : begin_refusal job.terms ≡ 0 → Bounds job
  unfolding segment_count_of stack_count_of
  begun-bounds h =
      let g = begin-given h in
      let s = segment-size-facts (stack_count_of job) job.terms.size g.segments in
      record {
        is_pane_count = g.in-range;
        is-size = g.segments;
        is-room = g.room;
        is-stack = g.stack;
        some = omega (arith, s.least);
        small = s.most;
        few = s.few;
        narrow = (log-room-facts job.terms.room g.room).most;
      }

  pub coherent-bounds : is_coherent job ≡ true → Bounds job
  coherent-bounds h = begun-bounds (coherent-facts job h).begins

  -- what the geometry asks for
  pub coherent-begins : is_coherent job ≡ true → begin_refusal job.terms ≡ 0
  coherent-begins h = (coherent-facts job h).begins

  -- G, as the code counts it
  pub segments_are : segment_count_of job ≡ G job.terms
  unfolding segment_count_of stack_count_of
  segments_are = refl

pub ruleset coherent_rows = (coherent-begins, segments_are)

-- what a level has found is within the counts' limit
pub coherent-found : (job : Job) → is_coherent job ≡ true → (d : ℕ) → AtMost (found_at job d) count_limit
coherent-found job h d = record { count = (coherent-facts job h).counts-fit d }

-- ---- the level

level-pos : (p : Phase) → phase_fits p ≡ true → is_level p ≡ true → 1 ≤ level_of p
unfolding phase_fits level_of is_level
level-pos Blanking h k = never k refl
level-pos (Level d) h k = leb-true 1 d (and_left (leb 1 d) (leb d last_level) h)
level-pos (Finished d) h k = never k refl

module _ (job : Job) (coherent : is_coherent job ≡ true) where
  level-least : is_level job.phase ≡ true → 1 ≤ level_of job.phase
  level-least = level-pos job.phase (coherent-facts job coherent).phase-fits

  pub forward-least : in_forward job ≡ true → 1 ≤ level_of job.phase
  unfolding in_forward
  forward-least h = level-least (and_left (is_level job.phase) (not (is_reverse job.way)) h)

  pub reverse-least : in_reverse job ≡ true → 1 ≤ level_of job.phase
  unfolding in_reverse
  reverse-least h = level-least (and_left (is_level job.phase) (is_reverse job.way) h)

  -- ---- the log area, of at most 64 logs of 2^20 places

  pub area_small : log_length job ≤ segment_limit * most_room
  unfolding log_length
  area_small =
      let b = coherent-bounds job coherent in
      omega (arith, mul-le-mul b.few b.narrow)

  module _ (j : ℕ) (inside : j < segment_count_of job) where
    pub segment-below : j < segment_limit
    segment-below = omega (arith, (coherent-bounds job coherent).few)

    pub waiting-le : waiting_of job j ≤ job.terms.room
    waiting-le =
        subst (λ (t : Bool). waiting_of job j ≤ cond t job.terms.room 0) (lt-ltb j (segment_count_of job) inside)
        ((coherent-facts job coherent).waiting-fits j segment-below)

    -- the waiting part of a log is within the log area
    pub part-within : j * job.terms.room + waiting_of job j ≤ log_length job
    unfolding log_length
    part-within = omega (arith, waiting-le, suc-mul j job.terms.room, mul-le-mul_right job.terms.room inside)

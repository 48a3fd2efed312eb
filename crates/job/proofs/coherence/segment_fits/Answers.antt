-- `job::coherence::segment_fits` meets its contract: a segment from G up has no stacks.
use mathlib.Core.Path.{◌≡◌, refl, sym, ◌∙◌}
use mathlib.Core.Bool.{◌&&◌}
use Prim.Native.Nat.{ℕ, zero, suc, ◌≤◌, ◌<◌}
use native.Mathlib.Nat.{suc-ne-zero}
use native.Mathlib.Omega.{arith}
use borrow.Author.Tests.{lt-ltb, le-ltb, le-leb, lt-leb, eq-eqb, ne_eqb}
use lib.Dec.{leb, eqb}
use lib.ListN.{get_or}
use Rattle.search.specs.JobState.{segment_fits, segment_count_of, stack_count_at, stack_count_of, passed_of, waiting_of}
use Rattle.search.specs.Terms.{N, G, m, begin_refusal}
use Rattle.search.specs.declared.Job.{Job}
use Rattle.search.proofs.Coherence.{begin-given}
use Rattle.search.proofs.Given.{some}
use Rattle.search.proofs.SegmentLaws.{segment-none}
use Rattle.job.proofs.coherence.segment_fits.Goals as goal

none_is : (x : ℕ) → eqb x 0 ≡ leb x 0
none_is zero = refl
none_is (suc x) = ne_eqb (suc x) 0 (suc-ne-zero x) ∙ sym (lt-leb (suc x) 0 (omega arith))

-- by the numbers of the segment
module _ (job : Job) (j : ℕ) where
  inside : j < G job.terms → segment_fits job j ≡ (leb (passed_of job j) (m job.terms j) && leb (waiting_of job j) job.terms.room)
  unfolding segment_fits segment_count_of stack_count_at stack_count_of
  inside h = rw (lt-ltb j (G job.terms) h)

  outside : begin_refusal job.terms ≡ 0 → G job.terms ≤ j → segment_fits job j ≡ (eqb (passed_of job j) 0 && eqb (waiting_of job j) 0)
  unfolding segment_fits segment_count_of stack_count_at stack_count_of
  outside begins h =
      rw (le-ltb j (G job.terms) h, segment-none (N job.terms) job.terms.size (some (begin-given begins)) j h, none_is (passed_of job j), none_is (waiting_of job j))

pub returns-then-passed-eq0 : goal.returns-then-passed-eq0
unfolding passed_of waiting_of
returns-then-passed-eq0 c =
    let job = c.args.job.now in
    let h : G job.terms ≤ c.args.j = omega (arith, c.requires.1, c.if-segments-j.true) in
    rw (outside job c.args.j c.requires.0 h, eq-eqb (get_or job.passed c.args.j 0) 0 c.if-passed-eq0.true)

pub returns-else-passed-eq0 : goal.returns-else-passed-eq0
unfolding passed_of waiting_of
returns-else-passed-eq0 c =
    let job = c.args.job.now in
    let h : G job.terms ≤ c.args.j = omega (arith, c.requires.1, c.if-segments-j.true) in
    rw (outside job c.args.j c.requires.0 h, ne_eqb (get_or job.passed c.args.j 0) 0 c.if-passed-eq0.false)

pub returns-then-passed-stack_count_at : goal.returns-then-passed-stack_count_at
unfolding passed_of waiting_of
returns-then-passed-stack_count_at c =
    let job = c.args.job.now in
    let h : c.args.j < G job.terms = omega (arith, c.requires.1, c.if-segments-j.false) in
    rw (inside job c.args.j h, ← c.stack_count_at.ensures, le-leb (get_or job.passed c.args.j 0) c.stack_count_at.result c.if-passed-stack_count_at.true)

pub returns-else-passed-stack_count_at : goal.returns-else-passed-stack_count_at
unfolding passed_of waiting_of
returns-else-passed-stack_count_at c =
    let job = c.args.job.now in
    let h : c.args.j < G job.terms = omega (arith, c.requires.1, c.if-segments-j.false) in
    rw (inside job c.args.j h, ← c.stack_count_at.ensures, lt-leb (get_or job.passed c.args.j 0) c.stack_count_at.result c.if-passed-stack_count_at.false)

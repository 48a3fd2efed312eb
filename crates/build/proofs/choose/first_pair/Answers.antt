-- `build::choose::first_pair` meets its contract: what is found is the driver's first, where a segment is loaded.
use mathlib.Core.Path.{refl}
use mathlib.Core.Bool.{not}
use lib.Dec.{ltb}
use Rattle.base.proofs.Tests.{and-fails-left}
use borrow.Author.Rules.{rules}
use borrow.Author.Tests.{tests}
use Rattle.search.specs.Drive.{first_pair}
use Rattle.search.specs.JobState.{is_loaded, stack_count_of, segment_count_of, swept_of, is_swept}
use Rattle.build.proofs.Choosing.{found, paired, loaded-none, loaded-some, loaded-inside}
use Rattle.build.proofs.choose.first_pair.Goals as goal

pub returns-then-job-eq-NO_SEGMENT : goal.returns-then-job-eq-NO_SEGMENT
returns-then-job-eq-NO_SEGMENT c =
    let job = c.args.job.now in
    and-fails-left (is_loaded job) (ltb (first_pair job) (segment_count_of job)) (loaded-none job c.if-job-eq-NO_SEGMENT.true)

pub bounds-job-job : goal.bounds-job-job
bounds-job-job c = loaded-inside c.args.job.now c.requires c.if-job-eq-NO_SEGMENT.false

pub returns : goal.returns
unfolding first_pair is_swept swept_of segment_count_of stack_count_of
returns c =
    let job = c.args.job.now in
    paired job (loaded-some job c.if-job-eq-NO_SEGMENT.false) c.find.result
    (found (λ j. not (is_swept job job.loaded j)) (segment_count_of job) _ _ _ c.find.result c.find.ensures.ran (λ x b q k. search (rules, tests)) refl
    c.segment_count_of-segments.ensures.0)

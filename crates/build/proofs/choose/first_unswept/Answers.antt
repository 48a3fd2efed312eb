-- `build::choose::first_unswept` meets its contract: what is found is the driver's first.
use mathlib.Core.Path.{refl}
use borrow.Author.Rules.{rules}
use borrow.Author.Tests.{tests}
use Rattle.search.specs.Drive.{is_unswept, first_unswept}
use Rattle.search.specs.Close.{is_swept_whole}
use Rattle.search.specs.JobState.{stack_count_of, segment_count_of, swept_of, is_swept}
use Rattle.build.proofs.Choosing.{found}
use Rattle.build.proofs.choose.first_unswept.Goals as goal

pub returns : goal.returns
unfolding is_unswept is_swept_whole is_swept swept_of first_unswept segment_count_of stack_count_of
returns c =
    let job = c.args.job.now in
    found (is_unswept job) (segment_count_of job) _ _ _ c.find.result c.find.ensures.ran (λ x b q k. search (rules, tests)) refl c.segment_count_of-segments.ensures.0

-- `build::choose::first_pending` meets its contract: what is found is the driver's first.
use mathlib.Core.Path.{refl}
use borrow.Author.Rules.{rules}
use borrow.Author.Tests.{tests}
use Rattle.search.specs.Drive.{is_pending, first_pending}
use Rattle.search.specs.JobState.{stack_count_of, segment_count_of, waiting_of}
use Rattle.build.proofs.Choosing.{found}
use Rattle.build.proofs.choose.first_pending.Goals as goal

pub returns : goal.returns
unfolding is_pending waiting_of first_pending segment_count_of stack_count_of
returns c =
    let job = c.args.job.now in
    found (is_pending job) (segment_count_of job) _ _ _ c.find.result c.find.ensures.ran (λ x b q k. search (rules, tests)) refl c.segment_count_of-segments.ensures.0

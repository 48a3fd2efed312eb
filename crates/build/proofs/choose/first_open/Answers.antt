-- `build::choose::first_open` meets its contract: what is found is the driver's first.
use mathlib.Core.Path.{◌≡◌, refl}
use borrow.Author.Rules.{rules}
use borrow.Author.Tests.{tests}
use Rattle.std.proofs.iter.Serving.{serving}
use Rattle.search.specs.Terms.{begin_refusal}
use Rattle.search.specs.Drive.{is_open, first_open}
use Rattle.search.specs.JobState.{stack_count_of, segment_count_of, stack_count_at, passed_of}
use Rattle.job.proofs.Bounds.{coherent-begins}
use Rattle.build.proofs.Choosing.{found}
use Rattle.build.proofs.choose.first_open.Goals as goal

pub find-requires-clause-callable : goal.find-requires-clause-callable
find-requires-clause-callable c = let begins : begin_refusal c.args.job.now.terms ≡ 0 = coherent-begins c.args.job.now c.requires in grind serving

pub returns : goal.returns
unfolding is_open passed_of stack_count_at first_open segment_count_of stack_count_of
returns c =
    let job = c.args.job.now in
    found (is_open job) (segment_count_of job) _ _ _ c.find.result c.find.ensures.ran (λ x b q k. search (rules, tests)) refl c.segment_count_of-segments.ensures.0

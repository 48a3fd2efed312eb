-- `job::coherence::segments_fit` meets its contract.
use mathlib.Core.Path.{refl, ◌∙◌}
use borrow.Author.Rules.{rules}
use borrow.Author.Tests.{tests}
use Rattle.std.proofs.lemmas.Iterator.{YieldsList-from_range}
use Rattle.std.proofs.lemmas.Iterator.Search.{all_from_yields_List}
use Rattle.search.specs.JobState.{segment_fits}
use Rattle.search.specs.Segments.{segment_limit}
use Rattle.job.proofs.Scans.{all-ranged}
use Rattle.job.proofs.coherence.segments_fit.Goals as goal

pub returns : goal.returns
returns c =
    let t = segment_fits c.args.job.now in
    all_from_yields_List t _ _ c.all.result c.all.ensures.ran (YieldsList-from_range 0 segment_limit segment_limit refl refl) (λ x b q k. search (rules, tests))
    ∙ all-ranged t segment_limit

-- `job::coherence::counts_fit` meets its contract.
use mathlib.Core.Path.{◌∙◌}
use borrow.Author.Rules.{rules}
use borrow.Author.Tests.{tests}
use Prim.Native.Nat.{ℕ}
use lib.Dec.{leb}
use Rattle.std.proofs.lemmas.Iterator.{YieldsList-from_slice}
use Rattle.std.proofs.lemmas.Iterator.Search.{all_from_yields_List}
use Rattle.search.specs.JobState.{count_limit, count_in_limit}
use Rattle.job.proofs.Scans.{all-listed}
use Rattle.job.proofs.coherence.counts_fit.Goals as goal

pub returns : goal.returns
unfolding count_in_limit count_limit
returns c =
    let counts = c.args.counts.now in
    all_from_yields_List (λ (x : ℕ). leb x count_limit) _ _ c.all.result c.all.ensures.ran (YieldsList-from_slice counts cc) (λ x b q k. search (rules, tests))
    ∙ all-listed count_in_limit counts

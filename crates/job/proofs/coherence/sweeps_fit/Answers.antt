-- `job::coherence::sweeps_fit` meets its contract.
use mathlib.Core.Path.{refl, ap, ◌∙◌}
use mathlib.Core.Bool.{Bool, cond}
use borrow.Author.Rules.{rules}
use borrow.Author.Tests.{tests}
use Prim.Native.Nat.{ℕ, ◌^◌}
use lib.Dec.{ltb}
use lib.ListN.{get_or}
use Rattle.std.proofs.lemmas.Iterator.{YieldsList-from_range}
use Rattle.std.proofs.lemmas.Iterator.Search.{all_from_yields_List}
use Rattle.base.specs.Words.{all, from}
use Rattle.search.specs.JobState.{swept_fits, swept_of, segment_count_of, stack_count_of}
use Rattle.search.specs.Segments.{segment_limit}
use Rattle.search.specs.declared.Job.{Job}
use Rattle.job.proofs.Scans.{all-ranged}
use Rattle.job.proofs.coherence.sweeps_fit.Goals as goal

-- swept_fits of a job with G segments
abbrev fits : Job → ℕ → ℕ → Bool
fits job G b = ltb (get_or job.swept b 0) (cond (ltb b G) (2 ^ G) 1)

pub returns : goal.returns
unfolding swept_fits swept_of segment_count_of stack_count_of
returns c =
    let job = c.args.job.now in
    let t = fits job c.segment_count_of-segments.result in
    all_from_yields_List t _ _ c.all.result c.all.ensures.ran (YieldsList-from_range 0 segment_limit segment_limit refl refl) (λ x b q k. search (rules, tests))
    ∙ all-ranged t segment_limit ∙ ap (λ (g : ℕ). all (fits job g) (from 0 segment_limit)) c.segment_count_of-segments.ensures.0

-- `close::close::are_done` meets its contract: the first G segments.
use mathlib.Core.Path.{refl, ap, ◌∙◌}
use Prim.Native.Nat.{ℕ}
use native.Mathlib.Omega.{arith}
use borrow.Author.Rules.{rules}
use borrow.Author.Tests.{tests}
use Rattle.base.specs.Words.{all, from}
use Rattle.std.proofs.lemmas.Iterator.{YieldsList-from_range}
use Rattle.std.proofs.lemmas.Iterator.Search.{all_from_yields_List}
use Rattle.search.specs.Close.{is_done}
use Rattle.search.specs.JobState.{segment_count_of, stack_count_of}
use Rattle.job.proofs.Scans.{all-ranged}
use Rattle.close.proofs.close.are_done.Goals as goal

pub returns : goal.returns
unfolding segment_count_of stack_count_of
returns c =
    let job = c.args.job.now in
    let s = c.segment_count_of-segments in
    all_from_yields_List (is_done job) _ _ _ c.all.ensures.ran (YieldsList-from_range 0 s.result s.result refl (omega arith))
    (λ x b q k. search (rules, tests))
    ∙ all-ranged (is_done job) s.result
    ∙ ap (λ (g : ℕ). all (is_done job) (from 0 g)) s.ensures.0

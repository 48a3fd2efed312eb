-- `close::close::are_swept` meets its contract: the numbers of the first G segments.
use mathlib.Core.Path.{ap, ◌∙◌}
use mathlib.Core.Bool.{Bool}
use Prim.Native.Nat.{ℕ}
use native.Mathlib.Omega.{arith}
use borrow.Author.Rules.{rules}
use borrow.Author.Tests.{tests}
use lib.ListN.{take, get_or}
use Rattle.base.specs.Words.{all, from}
use Rattle.std.proofs.lemmas.Iterator.{YieldsList-from_slice}
use Rattle.std.proofs.lemmas.Iterator.Search.{all_from_yields_List}
use Rattle.search.specs.Close.{is_swept_whole}
use Rattle.search.specs.JobState.{is_swept, swept_of, segment_count_of, stack_count_of}
use Rattle.close.specs.Ready.{row_whole}
use Rattle.close.proofs.Closing.{all-taken}
use Rattle.close.proofs.close.are_swept.Goals as goal

pub returns : goal.returns
unfolding is_swept_whole is_swept swept_of segment_count_of stack_count_of
returns c =
    let job = c.args.job.now in
    let s = c.segment_count_of-segments in
    let whole : ℕ → Bool = row_whole s.result in
    all_from_yields_List whole _ _ _ c.all.ensures.ran (YieldsList-from_slice (take s.result job.swept) c.iter.ensures.rest)
    (λ x b q k. search (rules, tests))
    ∙ all-taken whole job.swept s.result (omega (arith, s.ensures.1))
    ∙ ap (λ (g : ℕ). all (λ b. row_whole g (get_or job.swept b 0)) (from 0 g)) s.ensures.0

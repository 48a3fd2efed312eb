-- `close::close::is_swept_whole` meets its contract.
use mathlib.Core.Path.{refl, ◌∙◌}
use mathlib.Core.Bool.{Bool}
use Prim.Native.Nat.{ℕ, ◌/◌, ◌%◌, ◌^◌}
use native.Mathlib.Omega.{arith}
use borrow.Author.Rules.{rules}
use borrow.Author.Tests.{tests}
use lib.Dec.{eqb}
use Rattle.std.proofs.lemmas.Iterator.{YieldsList-from_range}
use Rattle.std.proofs.lemmas.Iterator.Search.{all_from_yields_List}
use Rattle.job.proofs.Scans.{all-ranged}
use Rattle.close.proofs.close.is_swept_whole.Goals as goal

pub returns : goal.returns
returns c =
    let a = c.args in
    let t : ℕ → Bool = λ j. eqb (a.row / 2 ^ j % 2) 1 in
    all_from_yields_List t _ _ _ c.all.ensures.ran (YieldsList-from_range 0 a.segments a.segments refl (omega arith)) (λ x b q k. search (rules, tests))
    ∙ all-ranged t a.segments

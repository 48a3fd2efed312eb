-- `calls::settle::offsets_fit` meets its contract: std's test of all offsets is the definition's.
use mathlib.Core.Path.{◌∙◌}
use mathlib.Core.Bool.{Bool}
use Prim.Native.Nat.{ℕ}
use borrow.Author.Rules.{rules}
use lib.Dec.{ltb}
use Rattle.std.proofs.Common.{tests}
use Rattle.std.proofs.lemmas.Iterator.{YieldsList-from_slice}
use Rattle.std.proofs.lemmas.Iterator.Search.{all_from_yields_List}
use Rattle.stacks.proofs.Lists.{all-listed}
use Rattle.calls.proofs.settle.offsets_fit.Goals as goal

pub returns : goal.returns
returns c =
    let a = c.args in
    let t : ℕ → Bool = λ i. ltb i a.stacks in
    all_from_yields_List t _ _ _ c.all.ensures.ran (YieldsList-from_slice a.offsets.now cc) (λ x b q k. search (rules, tests))
    ∙ all-listed t a.offsets.now

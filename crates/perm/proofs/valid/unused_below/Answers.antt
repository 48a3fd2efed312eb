-- `perm::valid::unused_below` meets its contract.
use mathlib.Core.Path.{◌≡◌, refl, ap, ◌∙◌}
use borrow.Author.Rules.{rules}
use borrow.Author.Tests.{tests}
use lib.ListN.{length, drop, length-drop}
use lib.Seq.{take_all}
use Prim.Native.Nat.{◌-◌}
use native.Mathlib.Omega.{arith}
use Rattle.std.proofs.lemmas.Iterator.{YieldsList-from_slice}
use Rattle.std.proofs.lemmas.Iterator.Search.{all_from_yields_List}
use Rattle.base.specs.Words.{all}
use Rattle.stacks.specs.Stack.{is_unused}
use Rattle.stacks.proofs.Lists.{all-listed}
use Rattle.perm.proofs.valid.unused_below.Goals as goal

pub returns : goal.returns
unfolding is_unused
returns c =
    let n = c.args.n in
    let s = c.args.stack in
    let twelve : length s ≡ 12 = search rules in
    let e : c.iter.result.rest.now ≡ drop n s = c.iter.ensures.rest ∙ take_all (12 - n) (drop n s) (omega (arith, length-drop n s)) in
    all_from_yields_List is_unused _ _ _ c.all.ensures.ran (YieldsList-from_slice c.iter.result.rest.now refl) (λ x b q k. search (rules, tests))
    ∙ all-listed is_unused c.iter.result.rest.now ∙ ap (all is_unused) e

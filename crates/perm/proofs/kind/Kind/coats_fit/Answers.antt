-- `perm::kind::Kind::coats_fit` meets its contract: a plain stack is asked at each place.
use mathlib.Core.Path.{◌∙◌}
use borrow.Author.Rules.{rules}
use borrow.Author.Tests.{tests}
use lib.Signed.{non_neg}
use Rattle.std.proofs.lemmas.Iterator.{YieldsList-from_slice}
use Rattle.std.proofs.lemmas.Iterator.Search.{all_from_yields_List}
use Rattle.stacks.specs.Stack.{is_coated}
use Rattle.stacks.proofs.Lists.{all-listed}
use Rattle.perm.proofs.kind.Kind.coats_fit.Goals as goal

pub returns-in-Plain : goal.returns-in-Plain
unfolding is_coated
returns-in-Plain c =
    rw c.in-Plain.is
    (all_from_yields_List non_neg _ _ _ c.all.ensures.ran (YieldsList-from_slice c.args.stack (search rules)) (λ x b q k. search (rules, tests))
    ∙ all-listed non_neg c.args.stack)

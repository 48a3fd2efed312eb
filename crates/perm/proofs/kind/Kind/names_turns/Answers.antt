-- `perm::kind::Kind::names_turns` meets its contract: each size is asked that the set names.
use mathlib.Core.Path.{◌∙◌}
use borrow.Author.Rules.{rules}
use borrow.Author.Tests.{tests}
use Rattle.std.proofs.lemmas.Iterator.Consumers.{YieldsList-from_first}
use Rattle.std.proofs.lemmas.Iterator.Search.{all_from_yields_List}
use Rattle.stacks.specs.Turn.{is_turn}
use Rattle.stacks.proofs.Lists.{all-listed}
use Rattle.perm.specs.Kinds.{number_of}
use Rattle.perm.specs.Sizes.{sizes_of, sizes_left}
use Rattle.perm.proofs.SizeLaws.{sizes-all}
use Rattle.perm.proofs.kind.Kind.names_turns.Goals as goal

pub returns : goal.returns
returns c =
    let a = c.args in
    let test = is_turn (number_of a.self) a.n in
    all_from_yields_List test _ _ _ c.all.ensures.ran (YieldsList-from_first (λ x. x) sizes_left (sizes_of a.groups) c.of.ensures) (λ x b q k. search (rules, tests))
    ∙ all-listed test (sizes_of a.groups) ∙ sizes-all test a.groups

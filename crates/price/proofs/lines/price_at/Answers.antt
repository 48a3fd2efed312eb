-- `price::lines::price_at` meets its contract.
use borrow.Author.Rules.{rules}
use borrow.Author.Tests.{tests}
use Rattle.std.proofs.lemmas.Iterator.{YieldsList-from_slice}
use Rattle.std.proofs.lemmas.Iterator.Search.{find_from_yields_List}
use Rattle.tariff.specs.Tariffs.{covers}
use Rattle.price.proofs.Chains.{found_price}
use Rattle.price.proofs.lines.price_at.Goals as goal

pub returns : goal.returns
returns c =
    found_price c.args.k c.args.lines.now c.find.result c.map_or.result
    (find_from_yields_List (covers c.args.k) _ _ c.find.result c.find.ensures.ran (YieldsList-from_slice c.args.lines.now cc) (λ x b q k. search (rules, tests)))
    (search rules)

-- `price::lines::check_tariff` meets its contract: the tests in the definition's order.
use mathlib.Core.Path.{◌≡◌, sym, ◌∙◌}
use borrow.Author.Rules.{rules}
use borrow.Author.Tests.{lt-leb, le-leb, tests}
use Rattle.std.proofs.lemmas.Iterator.{YieldsList-from_slice}
use Rattle.std.proofs.lemmas.Iterator.Search.{all_from_yields_List}
use Rattle.base.specs.Words.{all}
use Rattle.stacks.specs.Refusals.{number}
use Rattle.stacks.proofs.Lists.{all-listed}
use Rattle.tariff.specs.Tariffs.{line_limit, tariff_lines, is_line, tariff_refusal}
use Rattle.price.proofs.lines.check_tariff.Goals.{After-all}
use Rattle.price.proofs.lines.check_tariff.Goals as goal

pub returns-then-tariff-gt-LINE_LIMIT : goal.returns-then-tariff-gt-LINE_LIMIT
unfolding number tariff_refusal
returns-then-tariff-gt-LINE_LIMIT c = rw (lt-leb c.args.tariff.now.count line_limit c.if-tariff-gt-LINE_LIMIT.true)

-- what is asked of all the lines
all_fit : (c : After-all) → c.all.result ≡ all (is_line c.args.last) (tariff_lines c.args.tariff.now)
all_fit c =
    all_from_yields_List (is_line c.args.last) _ _ _ c.all.ensures.ran (YieldsList-from_slice _ (c.iter.ensures.rest ∙ c.listed-lines.ensures)) (λ x b q k. search (rules, tests))
    ∙ all-listed (is_line c.args.last) (tariff_lines c.args.tariff.now)

pub returns-then-not-all : goal.returns-then-not-all
unfolding number tariff_refusal
returns-then-not-all c =
    rw (le-leb c.args.tariff.now.count line_limit c.if-tariff-gt-LINE_LIMIT.false, sym (all_fit (goal.at.returns-then-not-all c).After-all) ∙ c.if-not-all.true)

pub returns : goal.returns
unfolding tariff_refusal
returns c =
    rw (
      le-leb c.args.tariff.now.count line_limit c.if-tariff-gt-LINE_LIMIT.false,
      sym (all_fit (goal.at.returns c).After-all) ∙ c.if-not-all.false,
      ← c.listed-lines.ensures,
    )
    c.check_cover.ensures

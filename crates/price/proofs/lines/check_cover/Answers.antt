-- `price::lines::check_cover` meets its contract: a line for each size, and then no second one.
use mathlib.Core.Path.{◌≡◌, sym, ◌∙◌}
use borrow.Author.Rules.{rules}
use borrow.Author.Tests.{tests}
use Rattle.std.proofs.lemmas.Iterator.Search.{all_from_yields_List}
use Rattle.base.specs.Words.{all, from}
use Rattle.stacks.specs.Refusals.{number}
use Rattle.stacks.proofs.Lists.{all-listed}
use Rattle.tariff.specs.Tariffs.{has_line, has_no_second, cover_refusal}
use Rattle.price.proofs.Chains.{sizes_yielded}
use Rattle.price.proofs.lines.check_cover.Goals.{After-all, After-all-2}
use Rattle.price.proofs.lines.check_cover.Goals as goal

covered : (c : After-all) → c.all.result ≡ all (has_line c.args.lines.now) (from 1 c.args.last)
unfolding has_line
covered c =
    all_from_yields_List (has_line c.args.lines.now) _ _ _ c.all.ensures.ran
    (sizes_yielded c.args.last c.new.result c.new.ensures.start c.new.ensures.end c.new.ensures.exhausted) (λ x b q k. search (rules, tests))
    ∙ all-listed (has_line c.args.lines.now) (from 1 c.args.last)

single : (c : After-all-2) → c.all-2.result ≡ all (has_no_second c.args.lines.now) (from 1 c.args.last)
unfolding has_no_second
single c =
    all_from_yields_List (has_no_second c.args.lines.now) _ _ _ c.all-2.ensures.ran
    (sizes_yielded c.args.last c.new-2.result c.new-2.ensures.start c.new-2.ensures.end c.new-2.ensures.exhausted) (λ x b q k. search (rules, tests))
    ∙ all-listed (has_no_second c.args.lines.now) (from 1 c.args.last)

pub returns-then-not-all : goal.returns-then-not-all
unfolding number cover_refusal
returns-then-not-all c = rw (sym (covered (goal.at.returns-then-not-all c).After-all) ∙ c.if-not-all.true)

pub returns-then-not-all-2 : goal.returns-then-not-all-2
unfolding number cover_refusal
returns-then-not-all-2 c =
    rw (
      sym (covered (goal.at.returns-then-not-all-2 c).After-all) ∙ c.if-not-all.false,
      sym (single (goal.at.returns-then-not-all-2 c).After-all-2) ∙ c.if-not-all-2.true,
    )

pub returns : goal.returns
unfolding cover_refusal
returns c =
    rw (
      sym (covered (goal.at.returns c).After-all) ∙ c.if-not-all.false,
      sym (single (goal.at.returns c).After-all-2) ∙ c.if-not-all-2.false,
    )

-- `price::price::price` meets its contract: what Plan refuses, what the tariff refuses, or the draft's turns with their price.
use mathlib.Core.Path.{◌≡◌, sym, ap, ◌∙◌}
use native.Mathlib.Omega.{arith}
use lib.ListN.{length}
use Rattle.std.proofs.lemmas.Result.{err_from_is_err_and}
use Rattle.stacks.specs.Turn.{last_turn, turns_in}
use Rattle.search.specs.Plan.{plan_refusal, route_from}
use Rattle.plan.specs.Turns.{turns_listed}
use Rattle.plan.proofs.Answers.{draft-short, draft-fits}
use Rattle.tariff.specs.Tariffs.{tariff_lines, tariff_refusal}
use Rattle.tariff.proofs.TariffLaws.{TariffFacts, tariff-facts, price-limit}
use Rattle.price.proofs.Answers.{plan-refuses, tariff-refuses, priced}
use Rattle.price.proofs.price.price.Goals.{In_ok-turns, After-last_turn, In_ok-check_tariff}
use Rattle.price.proofs.price.price.Goals as goal

pub returns-in_err-turns : goal.returns-in_err-turns
returns-in_err-turns c =
    let a = c.args in
    let p = err_from_is_err_and c.from_residual.result c.from_residual.ensures.1 in
    rw (p.1, p.2) (plan-refuses a.kind a.n a.wanted a.given a.groups a.table.now a.list.now a.tariff _ c.in_err-turns.ensures)

-- Plan refuses nothing
accepted : (c : In_ok-turns)
    → let a = c.args in
    (0 ≡ plan_refusal a.kind a.n a.wanted a.given a.groups a.table.now (length a.list.now) 0)
    × (turns_listed c.in_ok-turns.turns ≡ (route_from a.kind a.n a.table.now a.wanted (turns_in a.kind a.n a.groups) a.given).turns)
accepted c = c.in_ok-turns.ensures

-- the last turn that the code asks for
last_is : (c : After-last_turn) → let a = c.args in c.last_turn.result ≡ last_turn a.kind a.n
unfolding last_turn
last_is c = c.last_turn.ensures

pub returns-in_err-check_tariff : goal.returns-in_err-check_tariff
returns-in_err-check_tariff c =
    let a = c.args in
    let p = err_from_is_err_and c.from_residual-in_err-check_tariff.result c.from_residual-in_err-check_tariff.ensures.1 in
    rw (p.1, p.2)
    (tariff-refuses a.kind a.n a.wanted a.given a.groups a.table.now a.list.now a.tariff
    (turns_listed c.in_ok-turns.turns) (accepted (goal.at.returns-in_err-check_tariff c).In_ok-turns) _
    (c.in_err-check_tariff.ensures ∙ ap (λ last. tariff_refusal last a.tariff) (last_is (goal.at.returns-in_err-check_tariff c).After-last_turn)))

-- the tariff refuses nothing
taken : (c : In_ok-check_tariff) → let a = c.args in tariff_refusal (last_turn a.kind a.n) a.tariff ≡ 0
taken c =
    sym (c.in_ok-check_tariff.ensures
    ∙ ap (λ last. tariff_refusal last c.args.tariff) (last_is (goal.at.In_ok-check_tariff c).After-last_turn))

facts : (c : In_ok-check_tariff) → let a = c.args in TariffFacts (last_turn a.kind a.n) a.tariff
facts c = tariff-facts (last_turn c.args.kind c.args.n) c.args.tariff (taken c)

pub listed-requires : goal.listed-requires
listed-requires c = (facts (goal.at.listed-requires c).In_ok-check_tariff).counted

pub sum_of-requires : goal.sum_of-requires
sum_of-requires c =
    let a = c.args in
    let drafted = accepted (goal.at.sum_of-requires c).In_ok-turns in
    let short = draft-short a.kind a.n a.wanted a.given a.groups a.table.now a.list.now (turns_listed c.in_ok-turns.turns) drafted in (
      omega (arith, ap length c.as_slice.ensures, short),
      rw c.listed.ensures (λ k. price-limit (last_turn a.kind a.n) k (tariff_lines a.tariff) (facts (goal.at.sum_of-requires c).In_ok-check_tariff).lines),
    )

pub copy_to-requires : goal.copy_to-requires
copy_to-requires c =
    let a = c.args in
    draft-fits a.kind a.n a.wanted a.given a.groups a.table.now a.list.now (turns_listed c.in_ok-turns.turns) (accepted (goal.at.copy_to-requires c).In_ok-turns)

pub returns : goal.returns
returns c =
    let a = c.args in
    rw c.len.ensures.long
    (priced a.kind a.n a.wanted a.given a.groups a.table.now a.list.now a.tariff (turns_listed c.in_ok-turns.turns) (accepted (goal.at.returns c).In_ok-turns)
    (taken (goal.at.returns c).In_ok-check_tariff) c.copy_to.new.list c.copy_to.ensures c.sum_of.result c.rounded-pennies.result
    (rw (c.listed.ensures, c.as_slice.ensures) at c.sum_of.ensures) c.rounded-pennies.ensures)

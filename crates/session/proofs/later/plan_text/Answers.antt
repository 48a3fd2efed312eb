-- `session::later::plan_text` meets its contract.
use mathlib.Core.Path.{refl, ap, ◌∙◌}
use mathlib.Core.List.{List}
use Prim.Native.Nat.{ℕ}
use lib.ListN.{replicate}
use Rattle.std.specs.Prelude.{Ok, Err}
use Rattle.stacks.proofs.Numbers.{number-some}
use Rattle.search.specs.Plan.{plan_limit, plan_of}
use Rattle.search.specs.Results.{as_planned}
use Rattle.search.specs.Answers.{Planned}
use Rattle.text.proofs.AnswerLaws.{wrote-same, plan-refused, plan-accepted}
use Rattle.session.proofs.later.plan_text.Goals.{After-plan-planned}
use Rattle.session.proofs.later.plan_text.Goals as goal

abbrev plans : After-plan-planned → ℕ → List ℕ × Planned
plans p groups =
    let a = p.args in
    let r = a.reader.now in plan_of r.kind r.n r.wanted a.given groups a.table.now (replicate plan_limit 0)

pub returns-in-Ok : goal.returns-in-Ok
returns-in-Ok c =
    let a = c.args in
    let r = a.reader.now in
    wrote-same _ _ _ _ _
    (plan-accepted r.kind r.n r.wanted a.table.now a.given _ (as_planned (Ok c.in-Ok.count))
    (c.in-Ok.ensures ∙ ap (plans (goal.at.returns-in-Ok c).After-plan-planned) c.report_groups-groups.ensures) refl)
    c.write_plan.ensures

pub returns-in-Err : goal.returns-in-Err
returns-in-Err c =
    let a = c.args in
    let r = a.reader.now in
    wrote-same _ _ _ _ _
    (plan-refused r.kind r.n r.wanted a.table.now a.given _ (as_planned (Err c.in-Err.refusal))
    (c.in-Err.ensures ∙ ap (plans (goal.at.returns-in-Err c).After-plan-planned) c.report_groups-groups.ensures) (number-some c.in-Err.refusal))
    c.write_refusal.ensures

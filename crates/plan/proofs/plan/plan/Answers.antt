-- `plan::plan::plan` meets its contract: what the draft refuses, or its turns at the front of the list.
use Rattle.std.proofs.lemmas.Result.{err_from_is_err_and}
use Rattle.plan.specs.Turns.{turns_listed}
use Rattle.plan.proofs.Answers.{draft-fits, plan-refused, plan-accepted}
use Rattle.plan.proofs.plan.plan.Goals as goal

pub returns-in_err-turns : goal.returns-in_err-turns
returns-in_err-turns c =
    let a = c.args in
    let p = err_from_is_err_and c.from_residual.result c.from_residual.ensures.1 in
    rw (p.1, p.2) (plan-refused a.kind a.n a.wanted a.given a.groups a.table.now a.list.now _ c.in_err-turns.ensures)

pub copy_to-requires : goal.copy_to-requires
copy_to-requires c =
    let a = c.args in draft-fits a.kind a.n a.wanted a.given a.groups a.table.now a.list.now (turns_listed c.in_ok-turns.turns) c.in_ok-turns.ensures

pub returns : goal.returns
returns c =
    let a = c.args in
    rw c.len.ensures.long
    (plan-accepted a.kind a.n a.wanted a.given a.groups a.table.now a.list.now (turns_listed c.in_ok-turns.turns) c.in_ok-turns.ensures
    c.copy_to.new.list c.copy_to.ensures)

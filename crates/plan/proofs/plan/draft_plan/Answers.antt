-- `plan::plan::draft_plan` meets its contract: what the question refuses, or what its draft is.
use Rattle.std.proofs.lemmas.Result.{err_from_is_err_and}
use Rattle.plan.proofs.Answers.{row-refused, draft-turns-is}
use Rattle.plan.proofs.plan.draft_plan.Goals as goal

pub returns-in_err-question : goal.returns-in_err-question
returns-in_err-question c =
    let a = c.args in
    let p = err_from_is_err_and c.from_residual.result c.from_residual.ensures.1 in
    rw (p.1, p.2) (row-refused a.kind a.n a.wanted a.given a.groups a.table.now a.slots _ c.in_err-question.ensures.refusal)

pub returns : goal.returns
returns c =
    let a = c.args in
    let told = c.in_ok-question.ensures in
    draft-turns-is a.kind a.n a.wanted a.given a.groups a.table.now a.slots
    told.refusal c.in_ok-question.question told.set told.rest c.drafted.result c.drafted.ensures

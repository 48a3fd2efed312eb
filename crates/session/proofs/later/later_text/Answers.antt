-- `session::later::later_text` meets its contract.
use Rattle.std.specs.Prelude.{Ok, Err}
use Rattle.stacks.specs.Refusals.{as_stacked}
use Rattle.stacks.proofs.Numbers.{number-some}
use Rattle.text.specs.Kept.{text_of}
use Rattle.text.proofs.AnswerLaws.{wrote-same, later-refused, later-accepted}
use mathlib.Core.Path.{refl}
use Rattle.session.proofs.later.later_text.Goals as goal

pub returns-in-Ok : goal.returns-in-Ok
returns-in-Ok c =
    let r = c.args.reader.now in
    wrote-same _ _ _ _ _
    (later-accepted r.kind r.n r.wanted c.args.table.now (text_of r.line) (as_stacked (Ok c.in-Ok.given)) c.in-Ok.ensures refl)
    c.plan_text.ensures

pub returns-in-Err : goal.returns-in-Err
returns-in-Err c =
    let r = c.args.reader.now in
    wrote-same _ _ _ _ _
    (later-refused r.kind r.n r.wanted c.args.table.now (text_of r.line) (as_stacked (Err c.in-Err.refusal)) c.in-Err.ensures (number-some c.in-Err.refusal))
    c.write_refusal.ensures

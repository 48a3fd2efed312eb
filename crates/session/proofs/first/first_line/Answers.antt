-- `session::first::first_line` meets its contract.
use mathlib.Core.Path.{refl}
use Rattle.std.specs.Prelude.{Ok, Err}
use Rattle.stacks.proofs.Numbers.{number-some}
use Rattle.text.specs.Frame.{as_first}
use Rattle.text.specs.Reader.{new_reader, after_first}
use Rattle.text.proofs.ReadLaws.{shows-refused, shows-accepted}
use Rattle.session.proofs.first.first_line.Goals as goal

pub returns-in-Ok : goal.returns-in-Ok
returns-in-Ok c =
    let a = c.args in
    let b = c.build_in-job in
    let h = c.head_text-length in
    shows-accepted a.line.now a.table.now (as_first (Ok c.in-Ok.first)) c.in-Ok.ensures c.after_first.result a.out.now
    h.new.out h.result refl c.after_first.ensures b.new.table b.result b.ensures h.ensures

pub returns-in-Err : goal.returns-in-Err
unfolding after_first new_reader
returns-in-Err c =
    let a = c.args in
    shows-refused a.line.now a.table.now (as_first (Err c.in-Err.refusal)) c.in-Err.ensures _ a.out.now
    c.write_refusal.new.out c.write_refusal.result (number-some c.in-Err.refusal) (rw c.new.ensures)
    c.write_refusal.ensures

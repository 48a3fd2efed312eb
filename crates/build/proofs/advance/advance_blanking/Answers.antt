-- `build::advance::advance_blanking` meets its contract: it makes the call that the driver chooses in Blanking.
use Rattle.build.proofs.Advances.{advance-blanks}
use Rattle.build.proofs.advance.advance_blanking.Goals as goal

pub returns-in-Some : goal.returns-in-Some
returns-in-Some c log list =
    let a = c.args in
    let first = c.in-Some in
    let done = c.blank_part in
    advance-blanks a.job.now a.table.now log list first.j first.ensures.0 c.requires.2 first.ensures.1 done.new.table done.new.job _ done.ensures

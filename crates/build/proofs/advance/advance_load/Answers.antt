-- `build::advance::advance_load` meets its contract: it makes the call that the driver chooses where no pair of the loaded segment is left.
use Rattle.build.proofs.Advances.{advance-loads}
use Rattle.build.proofs.advance.advance_load.Goals as goal

pub returns-in-Some : goal.returns-in-Some
returns-in-Some c log =
    let a = c.args in
    let level = c.requires.level in
    let first = c.in-Some in
    let done = c.load_part in
    advance-loads a.job.now a.table.now log a.list.now level.step.coherent level.step.bytes level.blanked level.reverse c.requires.none first.b
    first.ensures.0 first.ensures.1 done.new.list done.new.job _ done.ensures

-- `build::advance::advance_reverse` meets its contract: it makes the call that the driver chooses in a reverse level.
use Rattle.build.proofs.Advances.{advance-sweeps}
use Rattle.build.proofs.advance.advance_reverse.Goals as goal

pub returns-in-Some : goal.returns-in-Some
returns-in-Some c log =
    let a = c.args in
    let pair = c.in-Some in
    let done = c.sweep_part in
    advance-sweeps a.job.now a.table.now log a.list.now c.requires.blanked c.requires.reverse pair.ensures.0 pair.j pair.ensures.1 pair.ensures.2
    done.new.table done.new.job _ done.ensures

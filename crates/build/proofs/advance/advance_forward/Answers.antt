-- `build::advance::advance_forward` meets its contract: it makes the call that the driver chooses in a forward level.
use Rattle.build.proofs.Advances.{advance-settles, advance-expands}
use Rattle.build.proofs.advance.advance_forward.Goals as goal

pub returns-in-Some : goal.returns-in-Some
returns-in-Some c list =
    let a = c.args in
    let first = c.in-Some in
    let done = c.settle_part in
    advance-settles a.job.now a.table.now a.log.now list c.requires.2 c.requires.3 first.t first.ensures.0 first.ensures.1 done.new.table done.new.job _
    done.ensures

pub returns-in-Some-first_open : goal.returns-in-Some-first_open
returns-in-Some-first_open c list =
    let a = c.args in
    let first = c.in-Some-first_open in
    let done = c.expand_part in
    advance-expands a.job.now a.table.now a.log.now list c.requires.2 c.requires.3 first.j first.ensures.0 c.in_default.ensures first.ensures.1
    done.new.table done.new.log done.new.job done.result done.ensures

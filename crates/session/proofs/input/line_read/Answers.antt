-- `session::input::line_read` meets its contract.
use mathlib.Core.Path.{ap, ◌∙◌}
use Rattle.text.specs.Kept.{new_line}
use Rattle.text.specs.Reader.{with_line}
use Rattle.text.proofs.ReadLaws.{shown-as, line_first, line-later, line-over, shows-quiet}
use Rattle.session.proofs.input.line_read.Goals as goal

pub returns-in-Start : goal.returns-in-Start
returns-in-Start c =
    let a = c.args in
    shown-as (line_first a.reader a.table.now c.in-Start.is) c.first_line.ensures

pub returns-in-Later : goal.returns-in-Later
returns-in-Later c =
    let a = c.args in
    shown-as (line-later a.reader a.table.now c.in-Later.is) c.later_line.ensures

pub returns-in-Over : goal.returns-in-Over
returns-in-Over c =
    let a = c.args in
    shown-as (line-over a.reader a.table.now c.in-Over.is)
    (shows-quiet a.reader c.with_line.result new_line a.table.now a.out.now
    (c.with_line.ensures ∙ ap (with_line a.reader) c.new.ensures))

-- `session::input::end_read` meets its contract.
use mathlib.Core.Path.{sym, ap, ◌∙◌}
use borrow.Author.Tests.{eqb-true, eqb-false}
use Rattle.text.specs.Kept.{new_line}
use Rattle.text.specs.Reader.{with_line}
use Rattle.text.proofs.ReadLaws.{shown-as, end-missing, end-last, end_quiet, shows-quiet}
use Rattle.session.proofs.input.end_read.Goals.{then-is_start-via-then-is_start, then-is_start-via-else-is_start+then-not-is_empty}
use Rattle.session.proofs.input.end_read.Goals as goal

pub returns-then-is_start : goal.returns-then-is_start
returns-then-is_start c =
    let a = c.args in
    shown-as (elim c.then-is_start.branch [
      | then-is_start-via-then-is_start w ↦ end-missing a.reader a.table.now (sym c.is_start.ensures ∙ w.if-is_start.true)
      | then-is_start-via-else-is_start+then-not-is_empty w ↦
          end-last a.reader a.table.now (sym c.is_start.ensures ∙ w.if-is_start.false)
          (eqb-false a.reader.line.length 0 (sym w.is_empty.ensures ∙ w.if-not-is_empty.true))
    ]) c.line_read.ensures

pub returns : goal.returns
returns c =
    let a = c.args in
    shown-as
    (end_quiet a.reader a.table.now (sym c.is_start.ensures ∙ c.if-is_start.false)
    (eqb-true a.reader.line.length 0 (sym c.is_empty.ensures ∙ c.if-not-is_empty.false)))
    (shows-quiet a.reader c.with_line.result new_line a.table.now a.out.now
    (c.with_line.ensures ∙ ap (with_line a.reader) c.new.ensures))

-- `session::input::later_line` meets its contract.
use mathlib.Core.Path.{ap, ◌∙◌}
use Rattle.text.specs.Reader.{with_line}
use Rattle.text.proofs.ReadLaws.{shows_later}
use Rattle.session.proofs.input.later_line.Goals as goal

pub returns : goal.returns
returns c =
    let t = c.later_text-length in
    let a = c.args in
    shows_later a.reader c.with_line.result a.table.now a.out.now t.new.out
    c.table_bytes-bytes.result t.result c.table_bytes-bytes.ensures.0
    (c.with_line.ensures ∙ ap (with_line a.reader) c.new.ensures) t.ensures

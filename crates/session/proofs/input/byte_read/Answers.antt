-- `session::input::byte_read` meets its contract.
use mathlib.Core.Path.{ap, ◌∙◌}
use Rattle.text.specs.Kept.{pushed}
use Rattle.text.specs.Reader.{with_line}
use Rattle.text.proofs.ReadLaws.{shown-as, byte-end, byte_more, shows-quiet}
use Rattle.session.proofs.input.byte_read.Goals as goal

pub returns-then-byte-eq10 : goal.returns-then-byte-eq10
returns-then-byte-eq10 c =
    let a = c.args in
    shown-as (byte-end a.reader a.table.now a.byte c.if-byte-eq10.true) c.line_read.ensures

pub returns : goal.returns
returns c =
    let a = c.args in
    shown-as (byte_more a.reader a.table.now a.byte c.if-byte-eq10.false)
    (shows-quiet a.reader c.with_line.result (pushed a.reader.line a.byte) a.table.now a.out.now
    (c.with_line.ensures ∙ ap (with_line a.reader) c.push.ensures))

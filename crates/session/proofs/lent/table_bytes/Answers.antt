-- `session::lent::table_bytes` meets its contract.
use mathlib.Core.Path.{ap, ◌∙◌}
use native.Mathlib.Omega.{arith}
use Rattle.search.specs.Entries.{bytes_for}
use Rattle.text.proofs.LentLaws.{table_none, table-some}
use Rattle.session.proofs.lent.table_bytes.Goals as goal

pub returns-in-Some : goal.returns-in-Some
returns-in-Some c =
    let a = c.args in
    table-some a.kind a.n c.bytes_for.result c.in-Some.ensures.0 (c.bytes_for.ensures ∙ ap bytes_for c.in-Some.ensures.1)

pub returns-in-None : goal.returns-in-None
returns-in-None c = (table_none c.args.kind c.args.n c.in-None.ensures, omega arith)

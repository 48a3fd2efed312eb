-- `session::lent::changed_bytes` meets its contract.
use mathlib.Core.Path.{ap, ◌∙◌}
use native.Mathlib.Omega.{arith}
use Rattle.search.specs.Changed.{list_bytes}
use Rattle.search.specs.Segments.{stack_count_in}
use Rattle.text.proofs.LentLaws.{changed-none, changed-some}
use Rattle.session.proofs.lent.changed_bytes.Goals as goal

pub returns-in-Some : goal.returns-in-Some
returns-in-Some c =
    let a = c.args in
    changed-some a.kind a.n a.size c.list_bytes.result c.in-Some.ensures.0
    (c.list_bytes.ensures ∙ ap list_bytes (c.stack_count_in.ensures ∙ ap (λ m. stack_count_in m a.size 0) c.in-Some.ensures.1))

pub returns-in-None : goal.returns-in-None
returns-in-None c = (changed-none c.args.kind c.args.n c.args.size c.in-None.ensures, omega arith)

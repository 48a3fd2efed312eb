-- `session::lent::report_groups` meets its contract.
use mathlib.Core.Path.{sym, ◌∙◌}
use Rattle.text.proofs.LentLaws.{groups_none, groups-some}
use Rattle.session.proofs.lent.report_groups.Goals as goal

pub returns-in-Some : goal.returns-in-Some
returns-in-Some c = c.all_groups.ensures ∙ c.in-Some.ensures.2 ∙ sym (groups-some c.args.kind c.args.n c.in-Some.ensures.0)

pub returns-in-None : goal.returns-in-None
returns-in-None c = groups_none c.args.kind c.args.n c.in-None.ensures

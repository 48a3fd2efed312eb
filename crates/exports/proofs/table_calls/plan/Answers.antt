-- `exports::table_calls::plan` meets its contract: what the export states.
use Rattle.hokrund.specs.Calls.{plan_call}
use Rattle.hokrund.proofs.Refused.{plan-keeps}
use Rattle.exports.proofs.Mirrors.{given}
use borrow.Author.Rules.{rules}
use Rattle.exports.proofs.table_calls.plan.Goals as goal

pub hokrund_plan-requires : goal.hokrund_plan-requires
hokrund_plan-requires c = search rules

pub returns : goal.returns
unfolding plan_call
returns c = given _ _ _ _ c.hokrund_plan.ensures (plan-keeps _ _ _ _ _ _ _)

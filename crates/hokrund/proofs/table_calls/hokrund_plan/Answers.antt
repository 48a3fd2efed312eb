-- `hokrund::table_calls::hokrund_plan` meets its contract: the outcome of the operation, its answer converted.
use Rattle.mirror.specs.Mirror.{planned_of}
use Rattle.hokrund.specs.Calls.{plan_call}
use Rattle.hokrund.proofs.Wrapped.{converted}
use Rattle.hokrund.proofs.table_calls.hokrund_plan.Goals as goal

pub returns : goal.returns
unfolding plan_call
returns c = converted planned_of _ _ _ _ c.plan.ensures c.into.ensures

-- `hokrund::table_calls::hokrund_build_table` meets its contract: the outcome of the operation, its answer converted.
use Rattle.mirror.specs.Mirror.{answer_of}
use Rattle.hokrund.specs.Calls.{build_call}
use Rattle.hokrund.proofs.Wrapped.{converted-3}
use Rattle.hokrund.proofs.table_calls.hokrund_build_table.Goals as goal

pub returns : goal.returns
unfolding build_call
returns c = converted-3 answer_of _ _ _ _ _ _ c.build_table.ensures c.into.ensures

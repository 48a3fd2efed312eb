-- `hokrund::table_calls::hokrund_price` meets its contract: the outcome of the operation, its answer converted.
use Rattle.mirror.specs.Mirror.{priced_of}
use Rattle.hokrund.specs.Calls.{price_call}
use Rattle.hokrund.proofs.Wrapped.{converted}
use Rattle.hokrund.proofs.table_calls.hokrund_price.Goals as goal

pub returns : goal.returns
unfolding price_call
returns c = converted priced_of _ _ _ _ c.price.ensures c.into.ensures

-- `exports::table_calls::price` meets its contract: what the export states.
use Rattle.hokrund.specs.Calls.{price_call}
use Rattle.hokrund.proofs.Refused.{price-keeps}
use Rattle.exports.proofs.Mirrors.{given}
use borrow.Author.Rules.{rules}
use Rattle.exports.proofs.table_calls.price.Goals as goal

pub hokrund_price-requires : goal.hokrund_price-requires
hokrund_price-requires c = search rules

pub returns : goal.returns
unfolding price_call
returns c = given _ _ _ _ c.hokrund_price.ensures (price-keeps _ _ _ _ _ _ _ _)

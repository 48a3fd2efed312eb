-- `exports::job_calls::settle` meets its contract: what the export states, of the job whose mirror it is given.
use Rattle.hokrund.specs.Calls.{settle_call}
use Rattle.hokrund.proofs.Refused.{settle-keeps}
use Rattle.exports.proofs.Mirrors.{mirrored}
use borrow.Author.Rules.{rules}
use Rattle.exports.proofs.job_calls.settle.Goals as goal

pub hokrund_settle-requires : goal.hokrund_settle-requires
hokrund_settle-requires c = search rules

pub returns : goal.returns
unfolding settle_call
returns c = mirrored _ _ _ _ _ c.hokrund_settle.ensures (settle-keeps _ _ _ _)

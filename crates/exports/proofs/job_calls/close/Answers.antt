-- `exports::job_calls::close` meets its contract: what the export states, of the job whose mirror it is given.
use Rattle.hokrund.specs.Calls.{close_call}
use Rattle.hokrund.proofs.Refused.{close-keeps}
use Rattle.exports.proofs.Mirrors.{mirrored}
use borrow.Author.Rules.{rules}
use Rattle.exports.proofs.job_calls.close.Goals as goal

pub hokrund_close-requires : goal.hokrund_close-requires
hokrund_close-requires c = search rules

pub returns : goal.returns
unfolding close_call
returns c = mirrored _ _ _ _ _ c.hokrund_close.ensures (close-keeps _ _)

-- `exports::job_calls::blank` meets its contract: what the export states, of the job whose mirror it is given.
use Rattle.hokrund.specs.Calls.{blank_call}
use Rattle.hokrund.proofs.Refused.{blank-keeps}
use Rattle.exports.proofs.Mirrors.{mirrored}
use borrow.Author.Rules.{rules}
use Rattle.exports.proofs.job_calls.blank.Goals as goal

pub hokrund_blank-requires : goal.hokrund_blank-requires
hokrund_blank-requires c = search rules

pub returns : goal.returns
unfolding blank_call
returns c = mirrored _ _ _ _ _ c.hokrund_blank.ensures (blank-keeps _ _ _)

-- `exports::job_calls::expand` meets its contract: what the export states, of the job whose mirror it is given.
use Rattle.hokrund.specs.Calls.{expand_call}
use Rattle.hokrund.proofs.Refused.{expand-keeps}
use Rattle.exports.proofs.Mirrors.{mirrored}
use borrow.Author.Rules.{rules}
use Rattle.exports.proofs.job_calls.expand.Goals as goal

pub hokrund_expand-requires : goal.hokrund_expand-requires
hokrund_expand-requires c = search rules

pub returns : goal.returns
unfolding expand_call
returns c = mirrored _ _ _ _ _ c.hokrund_expand.ensures (expand-keeps _ _ _ _)

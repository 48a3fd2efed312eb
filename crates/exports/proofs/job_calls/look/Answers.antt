-- `exports::job_calls::look` meets its contract: what the export states, of the job whose mirror it is given.
use Rattle.mirror.specs.Mirror.{job_of}
use Rattle.hokrund.specs.Calls.{look_call}
use Rattle.hokrund.proofs.Refused.{look-keeps}
use Rattle.exports.proofs.Mirrors.{mirrored}
use borrow.Author.Rules.{rules}
use Rattle.exports.proofs.job_calls.look.Goals as goal

pub hokrund_look-requires : goal.hokrund_look-requires
hokrund_look-requires c = search rules

pub returns : goal.returns
unfolding look_call job_of
returns c = mirrored _ _ _ _ _ c.hokrund_look.ensures (look-keeps _ _ _)

-- `exports::job_calls::load` meets its contract: what the export states, of the job whose mirror it is given.
use Rattle.hokrund.specs.Calls.{load_call}
use Rattle.hokrund.proofs.Refused.{load-keeps}
use Rattle.exports.proofs.Mirrors.{mirrored}
use borrow.Author.Rules.{rules}
use Rattle.exports.proofs.job_calls.load.Goals as goal

pub hokrund_load-requires : goal.hokrund_load-requires
hokrund_load-requires c = search rules

pub returns : goal.returns
unfolding load_call
returns c = mirrored _ _ _ _ _ c.hokrund_load.ensures (load-keeps _ _ _ _)

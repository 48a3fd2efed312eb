-- `exports::job_calls::sweep` meets its contract: what the export states, of the job whose mirror it is given.
use Rattle.hokrund.specs.Calls.{sweep_call}
use Rattle.hokrund.proofs.Refused.{sweep-keeps}
use Rattle.exports.proofs.Mirrors.{mirrored}
use borrow.Author.Rules.{rules}
use Rattle.exports.proofs.job_calls.sweep.Goals as goal

pub hokrund_sweep-requires : goal.hokrund_sweep-requires
hokrund_sweep-requires c = search rules

pub returns : goal.returns
unfolding sweep_call
returns c = mirrored _ _ _ _ _ c.hokrund_sweep.ensures (sweep-keeps _ _ _ _)

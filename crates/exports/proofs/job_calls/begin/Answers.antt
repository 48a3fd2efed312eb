-- `exports::job_calls::begin` meets its contract: what the export states.
use Rattle.search.specs.Begin.{begun}
use Rattle.search.specs.JobState.{level_of}
use Rattle.mirror.specs.Mirror.{phase_number, way_number, mirror_of}
use Rattle.hokrund.proofs.Refused.{begin-keeps}
use Rattle.exports.proofs.Mirrors.{given}
use borrow.Author.Rules.{rules}
use Rattle.exports.proofs.job_calls.begin.Goals as goal

pub hokrund_begin-requires : goal.hokrund_begin-requires
hokrund_begin-requires c = search rules

pub returns : goal.returns
unfolding mirror_of begun phase_number level_of way_number
returns c = given _ _ _ _ c.hokrund_begin.ensures (begin-keeps _ _ _ _ _ _)

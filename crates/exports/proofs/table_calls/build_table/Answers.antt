-- `exports::table_calls::build_table` meets its contract: what the export states.
use Rattle.search.specs.Begin.{begun}
use Rattle.search.specs.JobState.{level_of}
use Rattle.hokrund.specs.Calls.{build_call}
use Rattle.mirror.specs.Mirror.{phase_number, way_number, mirror_of}
use Rattle.hokrund.proofs.Refused.{build-keeps}
use Rattle.exports.proofs.Mirrors.{given}
use borrow.Author.Rules.{rules}
use Rattle.exports.proofs.table_calls.build_table.Goals as goal

pub hokrund_build_table-requires : goal.hokrund_build_table-requires
hokrund_build_table-requires c = search rules

pub returns : goal.returns
unfolding build_call mirror_of begun phase_number level_of way_number
returns c = given _ _ _ _ c.hokrund_build_table.ensures (build-keeps _ _ _ _ _ _ _ _ _)

-- `build::build::build_table` meets its contract: the loop drives the build to its end.
use Rattle.search.specs.Drive.{store_of}
use Rattle.search.specs.Terms.{N}
use Rattle.search.proofs.WholeTable.{Driving}
use Rattle.search.proofs.WorkLeft.{work_left}
use Rattle.build.proofs.build.build_table.Given as goal

abbrev pub invariant-loop-job : goal.invariant-loop-job
invariant-loop-job l = Driving l.fn.terms l.fn.table l.fn.log l.fn.list (store_of l.job l.table l.log l.list)

abbrev pub decreases-loop-job : goal.decreases-loop-job
decreases-loop-job l = work_left (N l.fn.terms) l.fn.terms.size l.job

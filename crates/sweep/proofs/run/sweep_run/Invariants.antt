-- `sweep::run::sweep_run` meets its contract. The loop's invariant: the marks that the stacks before `at` leave.
use Rattle.sweep.proofs.Running.{SweptTo}
use Rattle.sweep.proofs.run.sweep_run.Given as goal

abbrev pub invariant-loop-at : goal.invariant-loop-at
invariant-loop-at l = SweptTo l.pair l.stacks l.initial.segment l.initial.found l.list l.segment l.found l.at

-- `expand::place::Running::run` meets its contract. The loop's invariant: what is left to run from stack `at` on is what there was to run.
use Rattle.expand.proofs.Running.{RunTo}
use Rattle.expand.proofs.place.Running.run.Given as goal

abbrev pub invariant-loop-at : goal.invariant-loop-at
invariant-loop-at l = RunTo l.scan l.first l.stacks l.initial.self l.self l.at

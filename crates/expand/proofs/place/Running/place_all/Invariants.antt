-- `expand::place::Running::place_all` meets its contract. The loop's invariant: the first children are placed, and the logs have room for the rest.
use Rattle.expand.proofs.Placing.{PlacedTo}
use Rattle.expand.proofs.place.Running.place_all.Given as goal

abbrev pub invariant-loop-child : goal.invariant-loop-child
invariant-loop-child l = PlacedTo l.scan l.children l.initial.self l.self l.child-index

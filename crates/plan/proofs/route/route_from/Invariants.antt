-- `plan::route::route_from` meets its contract. The loop's invariant: the whole run goes on from the route that is made so far.
use Rattle.plan.specs.Turns.{turns_listed}
use Rattle.plan.proofs.Routes.{Travelled}
use Rattle.plan.proofs.route.route_from.Given as goal

abbrev pub invariant-loop : goal.invariant-loop
invariant-loop l = Travelled l.question l.stack l.index (turns_listed l.turns) l.counter

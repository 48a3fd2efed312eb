-- `plan::route::turn_to` meets its contract. The loop's invariant: no turn of the set above k leads there.
use Rattle.plan.proofs.Routes.{NoneAbove}
use Rattle.plan.proofs.route.turn_to.Given as goal

abbrev pub invariant-loop-k : goal.invariant-loop-k
invariant-loop-k l = NoneAbove l.question l.stack l.v l.k

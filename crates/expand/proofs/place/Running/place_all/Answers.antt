-- `expand::place::Running::place_all` meets its contract. The loop's invariant: the first children are placed, and the logs have room for the rest.
use Rattle.expand.proofs.Placing.{placed-none, placed-child, placed-more, placed_end}
use Rattle.expand.proofs.place.Running.place_all.Goals as goal

pub loop-child-init : goal.loop-child-init
loop-child-init c = placed-none c.requires

pub place_child-requires : goal.place_child-requires
place_child-requires c = placed-child c.loop-child.invariant c.loop-child-test.true

pub loop-child-preserved : goal.loop-child-preserved
loop-child-preserved c = placed-more c.loop-child.invariant c.loop-child-test.true c.place_child.ensures.same c.place_child.ensures.placed

pub returns-clause-placed : goal.returns-clause-placed
returns-clause-placed c = placed_end c.loop-child.invariant c.loop-child-test.false

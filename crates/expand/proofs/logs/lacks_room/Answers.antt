-- `expand::logs::lacks_room` meets its contract: no more children fall in a segment than there are.
use native.Mathlib.Omega.{arith}
use Rattle.std.proofs.lemmas.Grind.{common_steps}
use Rattle.search.specs.Logs.{lacks_room}
use Rattle.search.proofs.ExpandCases.{falling-le}
use Rattle.expand.proofs.Fitting.{scan-facts}
use Rattle.expand.proofs.logs.lacks_room.Goals as goal

pub bounds-waiting-t : goal.bounds-waiting-t
bounds-waiting-t c = omega (arith, scan-facts c.args.scan c.requires.0)

pub falling_in-requires : goal.falling_in-requires
falling_in-requires c = (scan-facts c.args.scan c.requires.0).some

pub returns-then-free-children : goal.returns-then-free-children
unfolding lacks_room
returns-then-free-children c = grind (arith, common_steps)

pub returns-else-free-children : goal.returns-else-free-children
unfolding lacks_room
returns-else-free-children c = let a = c.args in grind (arith, common_steps, falling-le a.scan.size a.t a.children.now)

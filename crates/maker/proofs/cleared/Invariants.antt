-- `maker::cleared` meets its contract. The loop's invariant: the ones that are cleared and those that are left are the set's.
use mathlib.Core.Path.{◌≡◌}
use Prim.Native.Nat.{◌+◌, ◌<◌}
use lib.Count.{ones}
use Rattle.ones.specs.Ones.{set_count}
use Rattle.maker.proofs.cleared.Given as goal

abbrev pub invariant-loop-rest : goal.invariant-loop-rest
invariant-loop-rest l = (l.set < set_count) × (l.rest < set_count) × (l.count + ones l.rest ≡ ones l.set)

abbrev pub decreases-loop-rest : goal.decreases-loop-rest
decreases-loop-rest l = l.rest

-- `maker::cleared` meets its contract. The loop's invariant: the ones that are cleared and those that are left are the set's.
use native.Mathlib.Nat.{lt_of_le_of_lt}
use native.Mathlib.Omega.{arith}
use lib.Bits.{and_le_l, and_le_r}
use lib.Count.{ones-le}
use Rattle.ones.specs.Ones.{set_places}
use Rattle.ones.proofs.Clearing.{clear-ones, clearings-ones}
use Rattle.maker.proofs.cleared.Goals as goal

pub loop-rest-init : goal.loop-rest-init
loop-rest-init c = (c.requires, c.requires, omega arith)

pub overflow_add-count : goal.overflow_add-count
overflow_add-count c =
    record { fits = omega (arith, c.loop-rest.invariant.2, ones-le set_places c.args.set c.loop-rest.invariant.0) }

pub loop-rest-smaller : goal.loop-rest-smaller
loop-rest-smaller c = lt_of_le_of_lt (and_le_r c.loop-rest.rest _) (omega arith)

pub loop-rest-preserved : goal.loop-rest-preserved
loop-rest-preserved c =
    let r = c.loop-rest.rest in
    (c.loop-rest.invariant.0, lt_of_le_of_lt (and_le_l r _) c.loop-rest.invariant.1, omega (arith, clear-ones r (omega arith), c.loop-rest.invariant.2))

pub returns : goal.returns
returns c =
    omega (arith, c.loop-rest.invariant.2, ones-le 0 c.loop-rest.rest (omega arith), clearings-ones c.args.set c.loop-rest.invariant.0)

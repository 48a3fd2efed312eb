-- `Sizes::next` meets its contract: the lowest bit is the first size, and is cleared.
use mathlib.Core.Path.{ap}
use native.Mathlib.Omega.{arith}
use lib.ListN.{length}
use Rattle.perm.proofs.SizeLaws.{sizes-none, sizes-first}
use Rattle.perm.proofs.sizes.SizesIterator.next.Goals as goal

pub returns-then-self-eq0-clause-steps : goal.returns-then-self-eq0-clause-steps
returns-then-self-eq0-clause-steps c = rw c.if-self-eq0.true (sizes-none, sizes-none)

pub returns-clause-steps : goal.returns-clause-steps
returns-clause-steps c = sizes-first c.args.self.now.rest (omega arith) (omega arith)

pub returns-clause-goes : goal.returns-clause-goes
returns-clause-goes c =
    let e = sizes-first c.args.self.now.rest (omega arith) (omega arith) in
    record { on = λ h. (tt, tt, omega (arith, ap length e)); keeps = tt; rests = λ _. tt }

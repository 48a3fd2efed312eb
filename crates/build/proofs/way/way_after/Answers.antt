-- `build::way::way_after` meets its contract: N and G are so small that the product fits.
use mathlib.Core.Path.{ap}
use Prim.Native.Nat.{ℕ, ◌*◌, ◌≤◌}
use native.Mathlib.Nat.{mul-le-mul}
use native.Mathlib.Omega.{arith}
use Rattle.build.proofs.way.way_after.Goals.{After-level}
use Rattle.build.proofs.way.way_after.Goals as goal

pub overflow_mul-unseen : goal.overflow_mul-unseen
overflow_mul-unseen c =
    let u = c.unseen_of-unseen in
    let few : u.result ≤ 4294967296 = omega (arith, u.ensures) in
    omega (arith, mul-le-mul few c.segment_count_of-segments.ensures.1, ap (λ (g : ℕ). u.result * g) c.from.ensures)

-- The counts of the levels, taken off a number one after the other.
use mathlib.Core.Path.{◌≡◌}
use mathlib.Core.List.{List, [], ◌∷◌}
use Prim.Native.Nat.{ℕ, ◌-◌}
use native.Mathlib.Omega.{arith}
use Rattle.std.specs.List.{fold}
use Rattle.base.specs.Words.{total}

-- counts taken off a number one after the other
pub taken_off : (counts : List ℕ) (n : ℕ) → fold (λ left count. left - count) n counts ≡ n - total counts
unfolding total
taken_off [] n = omega arith
taken_off (x ∷ xs) n = omega (arith, taken_off xs (n - x))

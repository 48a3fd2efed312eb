-- Rounding is to the nearest penny, halves up. This and the proof of the code's leaf are all that looks into `rounded`.
use mathlib.Core.Path.{◌≡◌, refl}
use mathlib.Core.Bool.{Bool, true, false, cond}
use mathlib.Core.List.{map}
use Prim.Native.Nat.{ℕ, ◌+◌, ◌*◌, ◌/◌, ◌%◌, ◌≤◌, ◌<◌}
use native.Mathlib.Omega.{arith}
use borrow.Author.Tests.{leb-true, leb-false}
use Rattle.base.specs.Words.{total}
use Rattle.tariff.specs.Price.{cost_of}
use Rattle.tariff.specs.Promise.{RoundedOnce}
use Rattle.tariff.specs.Rounding.{rounded}

nearest : (t : ℕ) → (1000 * rounded t ≤ t + 500) × (t + 500 < 1000 * (rounded t + 1))
unfolding rounded
nearest t = go _ (leb-true _ _) (leb-false _ _)
  where
    -- one more exactly where half a penny or more is left
    go : (more : Bool) → (more ≡ true → 500 ≤ t % 1000) → (more ≡ false → t % 1000 < 500)
        → (1000 * (t / 1000 + cond more 1 0) ≤ t + 500) × (t + 500 < 1000 * (t / 1000 + cond more 1 0 + 1))
    go true high low = (omega (arith, high refl), omega (arith, high refl))
    go false high low = (omega (arith, low refl), omega (arith, low refl))

pub rounded-once : RoundedOnce
unfolding RoundedOnce cost_of
rounded-once price turns = nearest (total (map price turns))

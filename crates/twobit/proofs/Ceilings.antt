-- A quotient rounded up, as std's division says it and as the definitions do.
use mathlib.Core.Path.{◌≡◌, ap, ◌∙◌}
use mathlib.Core.Logic.{◌⊎◌, inl, inr}
use Prim.Native.Nat.{ℕ, ◌+◌, ◌-◌, ◌*◌, ◌/◌, ◌%◌, ◌<◌, min}
use native.Mathlib.Omega.{arith}
use Rattle.std.proofs.lemmas.Nat.{div-mul-add}
use Rattle.base.proofs.Tests.{eq-or-ne}

pub ceiling-is : (a b : ℕ) → 0 < b → a / b + min 1 (a % b) ≡ (a + (b - 1)) / b
ceiling-is a b h = go (eq-or-ne (a % b) 0)
  where
    go : (a % b ≡ 0) ⊎ (a % b ≡ 0 → ⊥) → a / b + min 1 (a % b) ≡ (a + (b - 1)) / b
    go (inl e) =
        let whole : a + (b - 1) ≡ a / b * b + (b - 1) = omega arith in
        omega (arith, ap (λ (x : ℕ). x / b) whole ∙ div-mul-add (a / b) b (b - 1) (omega arith))
    go (inr d) =
        let more : a + (b - 1) ≡ (a / b + 1) * b + (a % b - 1) = omega arith in
        omega (arith, ap (λ (x : ℕ). x / b) more ∙ div-mul-add (a / b + 1) b (a % b - 1) (omega arith))

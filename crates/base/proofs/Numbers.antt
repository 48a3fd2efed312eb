-- Laws on numbers: factorials, and a number written as a quotient and a remainder.
use mathlib.Core.Path.{◌≡◌, refl}
use Prim.Native.Nat.{ℕ, zero, suc, ◌+◌, ◌*◌, ◌<◌, ◌≤◌}
use native.Mathlib.Nat.{mul-pos, zero-lt-suc, suc-mul, mul-le-mul_right, le_refl, le_trans}
use native.Mathlib.Decide.{le_ind}
use native.Mathlib.Omega.{arith}
use Rattle.base.specs.Words.{fact}

pub fact-pos : (n : ℕ) → 0 < fact n
unfolding fact
fact-pos zero = zero-lt-suc 0
fact-pos (suc n) = mul-pos (zero-lt-suc n) (fact-pos n)

pub fact-suc : (n : ℕ) → fact (suc n) ≡ suc n * fact n
unfolding fact
fact-suc n = refl

-- a digit of at most n before a lower part below n! stays below (n + 1)!
pub fact-digit : (n d r : ℕ) → d ≤ n → r < fact n → d * fact n + r < fact (suc n)
fact-digit n d r h k = rw (fact-suc, suc-mul) (omega (arith, mul-le-mul_right (fact n) h))

pub fact_mono : (m n : ℕ) → m ≤ n → fact m ≤ fact n
fact_mono m n h = le_ind (λ (k : ℕ). fact m ≤ fact k) (le_refl (fact m)) (λ k l e. le_trans e (fact-step k)) n h
  where
    fact-step : (k : ℕ) → fact k ≤ fact (suc k)
    fact-step k = rw (fact-suc, suc-mul) (omega arith)

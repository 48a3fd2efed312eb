-- A number as a quotient and a remainder: how two such numbers compare.
use mathlib.Core.Path.{◌≡◌}
use mathlib.Core.Logic.{◌⊎◌, inl, inr}
use mathlib.Core.Bool.{◌&&◌, ◌||◌}
use Prim.Native.Nat.{ℕ, ◌+◌, ◌*◌, ◌<◌, ◌≤◌}
use native.Mathlib.Nat.{suc-mul, mul-le-mul_right}
use native.Mathlib.Omega.{arith}
use lib.Dec.{ltb, eqb}
use borrow.Author.Tests.{lt-ltb, le-ltb, ltb-true, eq-eqb, ne_eqb}
use Rattle.base.proofs.Tests.{same_test, lt-or-ge, eq-or-ne}

pub ltb-add : (a r v : ℕ) → ltb (a + r) (a + v) ≡ ltb r v
ltb-add a r v =
    same_test (ltb (a + r) (a + v)) (ltb r v) (λ t. lt-ltb r v (omega (arith, ltb-true (a + r) (a + v) t)))
    (λ t. lt-ltb (a + r) (a + v) (omega (arith, ltb-true r v t)))

-- the first of two digits decides
pub digits-less : (m q r u v : ℕ) → r < m → q < u → q * m + r < u * m + v
digits-less m q r u v h l = omega (arith, suc-mul q m, mul-le-mul_right m l)

-- the remainders decide only where the quotients are the same
pub digits-ltb : (m q r u v : ℕ) → r < m → v < m → ltb (q * m + r) (u * m + v) ≡ (ltb q u || (eqb q u && ltb r v))
digits-ltb m q r u v h k = go (lt-or-ge q u) (eq-or-ne q u)
  where
    go : (q < u) ⊎ (u ≤ q) → (q ≡ u) ⊎ (q ≡ u → ⊥) → ltb (q * m + r) (u * m + v) ≡ (ltb q u || (eqb q u && ltb r v))
    go (inl l) e = rw (lt-ltb q u l) (lt-ltb (q * m + r) (u * m + v) (digits-less m q r u v h l))
    go (inr l) (inl e) = rw (le-ltb q u l, eq-eqb q u e, e) (ltb-add (u * m) r v)
    go (inr l) (inr e) =
        rw (le-ltb q u l, ne_eqb q u e) (le-ltb (q * m + r) (u * m + v) (omega (arith, digits-less m u v q r k (omega arith))))

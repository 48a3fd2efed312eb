-- `perm::factorial::factorial` meets its contract: each entry computes.
use mathlib.Core.Path.{◌≡◌, refl}
use mathlib.Core.List.{[], ◌∷◌}
use Prim.Native.Nat.{ℕ, zero, suc, ◌≤◌}
use native.Mathlib.Omega.{arith}
use lib.ListN.{get_or}
use Rattle.base.specs.Words.{fact}
use Rattle.perm.proofs.factorial.factorial.Goals as goal

entry : (n : ℕ) → n ≤ 12
    → get_or {A = ℕ} (1 ∷ 1 ∷ 2 ∷ 6 ∷ 24 ∷ 120 ∷ 720 ∷ 5040 ∷ 40320 ∷ 362880 ∷ 3628800 ∷ 39916800 ∷ 479001600 ∷ []) n 0 ≡ fact n
unfolding fact
entry zero h = refl
entry (suc zero) h = refl
entry (suc (suc zero)) h = refl
entry (suc (suc (suc zero))) h = refl
entry (suc (suc (suc (suc zero)))) h = refl
entry (suc (suc (suc (suc (suc zero))))) h = refl
entry (suc (suc (suc (suc (suc (suc zero)))))) h = refl
entry (suc (suc (suc (suc (suc (suc (suc zero))))))) h = refl
entry (suc (suc (suc (suc (suc (suc (suc (suc zero)))))))) h = refl
entry (suc (suc (suc (suc (suc (suc (suc (suc (suc zero))))))))) h = refl
entry (suc (suc (suc (suc (suc (suc (suc (suc (suc (suc zero)))))))))) h = refl
entry (suc (suc (suc (suc (suc (suc (suc (suc (suc (suc (suc zero))))))))))) h = refl
entry (suc (suc (suc (suc (suc (suc (suc (suc (suc (suc (suc (suc zero)))))))))))) h = refl
entry (suc (suc (suc (suc (suc (suc (suc (suc (suc (suc (suc (suc (suc n))))))))))))) h = absurd (omega arith)

pub returns : goal.returns
returns c = entry c.args.n c.requires

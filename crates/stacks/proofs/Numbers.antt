-- The numbers of the refusals: none is 0. What a row of refusals says once the row at its front, as a call that answers a result, is through.
use mathlib.Core.Path.{◌≡◌, refl, sym, ap, ◌∙◌}
use Prim.Native.Nat.{ℕ}
use native.Mathlib.Omega.{arith}
use Rattle.base.proofs.Rows.{Row, row-refuses, row-goes-on}
use Rattle.stacks.specs.Refusals.{number}
use Rattle.stacks.specs.declared.refusal.Refusal.{Refusal}

pub number-some : (r : Refusal) → number r ≡ 0 → ⊥
unfolding number
number-some r h = grind arith

module _ {row : ℕ → ℕ} {Asks : Type 0} (law : Row row Asks) (rest : ℕ) where
  -- the row refuses, whatever is behind it
  pub row-errs : (r : Refusal) → number r ≡ row 0 → number r ≡ row rest
  row-errs r e = row-refuses law rest (number r) e (number-some r)

  -- it does not, and what is behind it decides
  pub row-oks : 0 ≡ row 0 → rest ≡ row rest
  row-oks e = row-goes-on law rest 0 e refl

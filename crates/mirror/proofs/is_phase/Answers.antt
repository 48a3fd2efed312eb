-- `mirror::is_phase` meets its contract: Blanking has level 0, and no number from 3 on is a phase.
use borrow.Author.Rules.{rules}
use mathlib.Core.Path.{◌≡◌, refl}
use Prim.Native.Nat.{ℕ, zero, suc}
use native.Mathlib.Omega.{arith}
use lib.Dec.{ltb}
use borrow.Author.Tests.{le-ltb}
use Rattle.mirror.specs.Mirror.{is_phase}
use Rattle.mirror.proofs.is_phase.Goals as goal

others : (number level : ℕ) → (number ≡ 0 → ⊥) → ltb number 3 ≡ is_phase number level
unfolding is_phase
others zero level not-0 = absurd (not-0 refl)
others (suc zero) level not-0 = refl
others (suc (suc zero)) level not-0 = refl
others (suc (suc (suc k))) level not-0 = le-ltb (suc (suc (suc k))) 3 (omega arith)

pub returns-in-0 : goal.returns-in-0
unfolding is_phase
returns-in-0 c = rw c.in-0.is refl

pub returns-in_default : goal.returns-in_default
returns-in_default c = others c.args.number c.args.level (search rules)

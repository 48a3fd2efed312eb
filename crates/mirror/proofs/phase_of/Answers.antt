-- `mirror::phase_of` meets its contract: 0, 1, and every other number.
use borrow.Author.Rules.{rules}
use mathlib.Core.Path.{◌≡◌, refl}
use Prim.Native.Nat.{ℕ, zero, suc}
use Rattle.search.specs.declared.Phase.TheVariants.{Finished}
use Rattle.mirror.specs.Mirror.{phase_of}
use Rattle.mirror.proofs.phase_of.Goals as goal

others : (number level : ℕ) → (number ≡ 0 → ⊥) → (number ≡ 1 → ⊥) → Finished level ≡ phase_of number level
unfolding phase_of
others zero level not-0 not-1 = absurd (not-0 refl)
others (suc zero) level not-0 not-1 = absurd (not-1 refl)
others (suc (suc k)) level not-0 not-1 = refl

pub returns-in-0 : goal.returns-in-0
unfolding phase_of
returns-in-0 c = rw c.in-0.is refl

pub returns-in-1 : goal.returns-in-1
unfolding phase_of
returns-in-1 c = rw c.in-1.is refl

pub returns-in_default : goal.returns-in_default
returns-in_default c = others c.args.number c.args.level (search rules) (search rules)

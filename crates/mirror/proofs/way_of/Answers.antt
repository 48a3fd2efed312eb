-- `mirror::way_of` meets its contract: 0, and every other number.
use borrow.Author.Rules.{rules}
use mathlib.Core.Path.{◌≡◌, refl}
use Prim.Native.Nat.{ℕ, zero, suc}
use Rattle.search.specs.declared.Way.TheVariants.{Reverse}
use Rattle.mirror.specs.Mirror.{way_of}
use Rattle.mirror.proofs.way_of.Goals as goal

others : (number : ℕ) → (number ≡ 0 → ⊥) → Reverse ≡ way_of number
unfolding way_of
others zero not-0 = absurd (not-0 refl)
others (suc k) not-0 = refl

pub returns-in-0 : goal.returns-in-0
unfolding way_of
returns-in-0 c = rw c.in-0.is refl

pub returns-in_default : goal.returns-in_default
returns-in_default c = others c.args.number (search rules)

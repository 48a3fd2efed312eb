-- `perm::place::coat_bit` meets its contract: the machine's sign test is the coat.
use mathlib.Core.Path.{ap, sym, ◌∙◌}
use lib.IntN.{ℤ, pos}
use lib.Signed.{lt_z}
use mir.Facts.{to_z-of_z}
use Rattle.perm.proofs.Signed.{below-zero, not-below-zero}
use Rattle.perm.proofs.place.coat_bit.Goals as goal

pub returns-then-x-lt0 : goal.returns-then-x-lt0
returns-then-x-lt0 c =
    (below-zero c.args.x (ap (λ (z : ℤ). lt_z z (pos 0)) (sym (to_z-of_z c.ranges.x)) ∙ c.if-x-lt0.true)).0

pub returns-else-x-lt0 : goal.returns-else-x-lt0
returns-else-x-lt0 c =
    (not-below-zero c.args.x (ap (λ (z : ℤ). lt_z z (pos 0)) (sym (to_z-of_z c.ranges.x)) ∙ c.if-x-lt0.false)).0

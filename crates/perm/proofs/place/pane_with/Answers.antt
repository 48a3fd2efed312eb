-- `perm::place::pane_with` meets its contract: a pane of at most 12 is an i8 with either sign.
use mathlib.Core.Path.{ap, ◌∙◌, subst⁻¹}
use native.Mathlib.Omega.{arith}
use lib.IntN.{ℤ, pos, ◌-ℤ◌}
use mir.Syntax.{w8}
use mir.Val.{SFits, to_z, of_z}
use mir.Facts.{to_z-of_z, to_z_pos}
use Rattle.perm.proofs.Signed.{zero-sub, neg-fits, pane-up, pane-down}
use Rattle.perm.proofs.place.pane_with.Goals as goal

pub overflow_sub-result : goal.overflow_sub-result
overflow_sub-result c =
    subst⁻¹ (SFits w8) (ap (λ (y : ℤ). pos 0 -ℤ y) (to_z_pos w8 {n = c.args.x} (omega arith)) ∙ zero-sub (pos c.args.x))
    (neg-fits w8 (pos c.args.x) (omega arith))

pub returns-then-bit-eq0 : goal.returns-then-bit-eq0
returns-then-bit-eq0 c = to_z_pos w8 (omega arith) ∙ pane-up c.args.x c.args.bit c.if-bit-eq0.true

pub returns-else-bit-eq0 : goal.returns-else-bit-eq0
returns-else-bit-eq0 c =
    ap (λ (y : ℤ). to_z w8 (of_z w8 y)) (ap (λ (y : ℤ). pos 0 -ℤ y) (to_z_pos w8 {n = c.args.x} (omega arith)) ∙ zero-sub (pos c.args.x))
    ∙ to_z-of_z (neg-fits w8 (pos c.args.x) (omega arith))
    ∙ pane-down c.args.x c.args.bit c.if-bit-eq0.false

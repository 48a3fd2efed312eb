-- `frames::frame::pane_of` meets its contract: a number below 128 is an i8 with either sign.
use Rattle.std.proofs.Common.{◌/◌, ◌%◌, ℤ, pos, ap, ◌∙◌, arith, to_z-of_z, w8, SFits, to_z, of_z, rules}
use mathlib.Core.Path.{subst⁻¹}
use mir.Facts.{to_z_pos}
use Rattle.perm.proofs.Signed.{byte-negated, neg-fits, pane-up, pane-down}
use Rattle.text.specs.Frame.{pane_of}
use Rattle.frames.proofs.frame.pane_of.Goals as goal

pub overflow_cast-up : goal.overflow_cast-up
overflow_cast-up c = search rules

pub overflow_sub-result : goal.overflow_sub-result
overflow_sub-result c =
    let b = c.args.byte in
    subst⁻¹ (SFits w8) (byte-negated b) (neg-fits w8 (pos (b % 128)) (omega arith))

pub returns-then-byte-lt128 : goal.returns-then-byte-lt128
unfolding pane_of
returns-then-byte-lt128 c =
    let b = c.args.byte in
    to_z_pos w8 (omega arith) ∙ pane-up (b % 128) (b / 128) (omega arith)

pub returns-else-byte-lt128 : goal.returns-else-byte-lt128
unfolding pane_of
returns-else-byte-lt128 c =
    let b = c.args.byte in
    ap (λ (y : ℤ). to_z w8 (of_z w8 y)) (byte-negated b)
    ∙ to_z-of_z (neg-fits w8 (pos (b % 128)) (omega arith))
    ∙ pane-down (b % 128) (b / 128) (omega arith)

-- `frames::frame::places_at` meets its contract. The loop's invariant: the first p panes are placed, and zeros stand below them.
use Rattle.std.proofs.Common.{◌≡◌, ℕ, ◌/◌, ◌%◌, get_or, length, ℤ, nat_abs, sym, ap, ◌∙◌, arith, w8, to_z, of_z}
use Rattle.stacks.proofs.CoatLaws.{pane-number}
use Rattle.perm.proofs.Signed.{mag-abs, place-back}
use Rattle.text.specs.Frame.{pane_of}
use Rattle.text.proofs.FrameLaws.{placed-none, placed-more, placed-all, part_length, part_at}
use Rattle.frames.proofs.frame.places_at.Invariants.{part}
use Rattle.frames.proofs.frame.places_at.Goals as goal

-- a pane that a byte says is written and read back as it is
pane-kept : (b : ℕ) (z : ℤ) → z ≡ pane_of b → to_z w8 (of_z w8 z) ≡ pane_of b
unfolding pane_of
pane-kept b z e = place-back z (omega (arith, mag-abs z, ap nat_abs e, pane-number (b % 128) (b / 128))) ∙ e

pub loop-p-init : goal.loop-p-init
loop-p-init c = placed-none (part c.args.text.now c.args.i c.args.n)

pub loop-p-preserved : goal.loop-p-preserved
loop-p-preserved c =
    let a = c.args in
    let bs = part a.text.now a.i a.n in
    let long : length bs ≡ a.n = part_length a.text.now a.i a.n c.requires.1 in
    let b : c.byte_at.result ≡ get_or bs c.loop-p.p 0 = c.byte_at.ensures ∙ sym (part_at a.text.now a.i a.n c.loop-p.p (omega arith)) in
    placed-more bs c.loop-p.p c.loop-p.places (to_z w8 (of_z w8 c.pane_of.result)) (omega arith) (omega arith) c.loop-p.invariant
    (pane-kept (get_or bs c.loop-p.p 0) c.pane_of.result (c.pane_of.ensures ∙ ap pane_of b))

pub returns : goal.returns
returns c =
    let a = c.args in
    let long = part_length a.text.now a.i a.n c.requires.1 in
    placed-all (part a.text.now a.i a.n) c.loop-p.p c.loop-p.places (omega arith) c.loop-p.invariant

-- `frames::frame::frame_text` meets its contract: within the limit a frame is pairs of digits.
use Rattle.std.proofs.Common.{sym, refl, ap, ◌∙◌}
use Rattle.text.specs.Kept.{text_of}
use Rattle.text.proofs.FrameLaws.{pairs-is-frame, overlong-none}
use Rattle.text.specs.Frame.{is_frame}
use Rattle.frames.proofs.frame.frame_text.Goals.{in_default-via-in-Some+else-is_pairs, in_default-via-in_default}
use Rattle.frames.proofs.frame.frame_text.Goals as goal

pub returns-in-Some : goal.returns-in-Some
returns-in-Some c =
    let text = c.in-Some.text.now in
    let t = c.in-Some.ensures in
    (t.0, t.1, ap is_frame (sym t.0) ∙ sym (pairs-is-frame text t.1) ∙ sym c.is_pairs.ensures ∙ c.if-is_pairs.true)

pub returns-in_default : goal.returns-in_default
returns-in_default c = elim c.in_default.branch [
  | in_default-via-in-Some+else-is_pairs w ↦ (
    refl,
    ap is_frame (sym w.in-Some.ensures.0) ∙ sym (pairs-is-frame w.in-Some.text.now w.in-Some.ensures.1) ∙ sym w.is_pairs.ensures ∙ w.if-is_pairs.false,
  )
  | in_default-via-in_default w ↦ (refl, overlong-none (text_of c.args.line.now) w.in_default.ensures)
]

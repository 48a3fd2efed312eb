-- `frames::frame::first_frame` meets its contract: the line, the kind and n, and then the fields.
use Rattle.std.proofs.Common.{◌≡◌, ℕ, List, length, ap, ◌∙◌, arith}
use Rattle.std.proofs.lemmas.Result.{err_from_is_err_and}
use Rattle.stacks.specs.Operations.{kind_refusal}
use Rattle.stacks.specs.Refusals.{number}
use Rattle.stacks.specs.declared.refusal.Refusal.TheVariants.{Frame}
use Rattle.stacks.proofs.Numbers.{row-errs, row-oks}
use Rattle.stacks.proofs.Refusals.{kind_row}
use Rattle.text.specs.Frame.{kind_in, panes_in, fields_refusal, first_refusal, first_with, first_of, as_first}
use Rattle.text.specs.Hex.{bytes_of}
use Rattle.text.specs.Kept.{text_of}
use Rattle.text.proofs.FrameRefusals.{first-none, first-few, first-row, no-first}
use Rattle.text.proofs.HexLaws.{bytes-length}
use Rattle.frames.proofs.frame.first_frame.Goals.{In_ok-text, After-byte_at-n}
use Rattle.frames.proofs.frame.first_frame.Goals as goal

pub returns-in_err-text : goal.returns-in_err-text
unfolding first_of number
returns-in_err-text c =
    let p = err_from_is_err_and c.from_residual.result c.from_residual.ensures.1 in
    rw (p.1, p.2) (no-first _ _ _ (ap number c.in_err-text.ensures.0 ∙ first-none (text_of c.args.line.now) c.in_err-text.ensures.1))

pub returns-then-count-lt2 : goal.returns-then-count-lt2
unfolding first_of number
returns-then-count-lt2 c =
    let t = c.in_ok-text.ensures in
    let text = text_of c.args.line.now in
    no-first _ _ Frame (first-few text t.2 (omega (arith, bytes-length text, ap length t.0)))

-- the kind and n, as the line's bytes have them
kind-is : (c : After-byte_at-n) → c.byte_at-kind.result ≡ kind_in (bytes_of (text_of c.args.line.now))
unfolding kind_in
kind-is c = c.byte_at-kind.ensures ∙ ap (λ (cs : List ℕ). kind_in (bytes_of cs)) c.in_ok-text.ensures.0

panes-is : (c : After-byte_at-n) → c.byte_at-n.result ≡ panes_in (bytes_of (text_of c.args.line.now))
unfolding panes_in
panes-is c = c.byte_at-n.ensures ∙ ap (λ (cs : List ℕ). panes_in (bytes_of cs)) c.in_ok-text.ensures.0

-- what they decide
row : (c : After-byte_at-n) → (let bs = bytes_of (text_of c.args.line.now) in
    let kind = c.byte_at-kind.result in
    let n = c.byte_at-n.result in
    kind_refusal kind n (fields_refusal kind n bs) ≡ first_refusal (text_of c.args.line.now))
row c =
    let text = text_of c.args.line.now in
    let t = c.in_ok-text.ensures in
    rw (kind-is c, panes-is c) (first-row text t.2 (omega (arith, bytes-length text, ap length t.0)))

pub returns-in_err-panes : goal.returns-in_err-panes
unfolding first_of
returns-in_err-panes c =
    let g = (goal.at.returns-in_err-panes c).After-byte_at-n in
    let f = c.from_residual-in_err-panes in
    let p = err_from_is_err_and f.result f.ensures.1 in
    rw (p.1, p.2)
    (no-first _ _ _ (row-errs (kind_row c.byte_at-kind.result c.byte_at-n.result) _ _ c.in_err-panes.ensures.refusal ∙ row g))

pub fields-requires : goal.fields-requires
unfolding kind_in panes_in
fields-requires c =
    let e = c.in_ok-panes.ensures.panes in
    (e.0 ∙ c.byte_at-kind.ensures, e.1 ∙ c.byte_at-n.ensures)

pub returns : goal.returns
unfolding first_of
returns c =
    let g = (goal.at.returns c).After-byte_at-n in
    let text = text_of c.args.line.now in
    let e = c.in_ok-panes.ensures in
    let told : as_first c.fields.result
    ≡ first_with (fields_refusal c.byte_at-kind.result c.byte_at-n.result (bytes_of text)) (bytes_of text)
    = rw (c.in_ok-text.ensures.0, e.panes.0, e.panes.1) at c.fields.ensures in
    told ∙ ap (λ (q : ℕ). first_with q (bytes_of text)) (row-oks (kind_row c.byte_at-kind.result c.byte_at-n.result) _ e.refusal ∙ row g)

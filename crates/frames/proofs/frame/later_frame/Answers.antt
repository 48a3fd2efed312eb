-- `frames::frame::later_frame` meets its contract: the tests in the definition's order, and then the stack.
use Rattle.std.proofs.Common.{◌≡◌, ℕ, ◌/◌, Bool, List, length, take, sym, ap, ◌∙◌, arith, take_all}
use Rattle.std.proofs.lemmas.Result.{err_from_is_err_and}
use Rattle.base.specs.Words.{unless}
use Rattle.stacks.specs.Refusals.{number}
use Rattle.stacks.specs.declared.refusal.Refusal.TheVariants.{Frame, Stack}
use Rattle.stacks.specs.Stack.{is_stack}
use Rattle.perm.proofs.Answers.{no_stack, a-stack}
use Rattle.text.specs.Frame.{places_of, later_refusal, later_of}
use Rattle.text.specs.Hex.{bytes_of}
use Rattle.text.specs.Kept.{text_of}
use Rattle.text.proofs.FrameRefusals.{later-none, later-length-wrong, later-many, later-rest}
use Rattle.text.proofs.HexLaws.{bytes-length}
use Rattle.frames.proofs.frame.later_frame.Goals.{In_ok-text, After-is_stack}
use Rattle.frames.proofs.frame.later_frame.Goals as goal

pub returns-in_err-text : goal.returns-in_err-text
unfolding later_of number
returns-in_err-text c =
    let a = c.args in
    let p = err_from_is_err_and c.from_residual.result c.from_residual.ensures.1 in
    rw (p.1, p.2) (no_stack _ _ (ap number c.in_err-text.ensures.0 ∙ later-none a.kind a.n (text_of a.line.now) c.in_err-text.ensures.1) _)

-- how many bytes there are
count : (c : In_ok-text) → length (bytes_of (text_of c.args.line.now)) ≡ length c.in_ok-text.text.now / 2
count c = bytes-length (text_of c.args.line.now) ∙ ap (λ (cs : List ℕ). length cs / 2) (sym c.in_ok-text.ensures.0)

pub returns-then-text-panes : goal.returns-then-text-panes
unfolding later_of number
returns-then-text-panes c =
    let a = c.args in
    let g = (goal.at.returns-then-text-panes c).In_ok-text in
    no_stack _ Frame
    (later-length-wrong a.kind a.n (text_of a.line.now) c.in_ok-text.ensures.2 (λ e. c.if-text-panes.true (sym (count g) ∙ e))) _

pub returns-then-panes-gt-PLACES : goal.returns-then-panes-gt-PLACES
unfolding later_of number
returns-then-panes-gt-PLACES c =
    let a = c.args in
    let g = (goal.at.returns-then-panes-gt-PLACES c).In_ok-text in
    no_stack _ Stack
    (later-many a.kind a.n (text_of a.line.now) c.in_ok-text.ensures.2 (count g ∙ c.if-text-panes.false) c.if-panes-gt-PLACES.true) _

-- the stack is that of all the bytes
stack : (c : After-is_stack) → c.places_at-stack.result ≡ places_of (bytes_of (text_of c.args.line.now))
stack c =
    let a = c.args in
    let text = text_of a.line.now in
    c.places_at-stack.ensures
    ∙ ap (λ (cs : List ℕ). places_of (take a.n (bytes_of cs))) c.in_ok-text.ensures.0
    ∙ ap places_of (take_all a.n (bytes_of text) (omega (arith, count (goal.at.After-is_stack c).In_ok-text, c.if-text-panes.false)))

-- the length passes, and the stack's test decides
rest : (c : After-is_stack) → let a = c.args in unless c.is_stack.result 3 0 ≡ later_refusal a.kind a.n (text_of a.line.now)
rest c =
    let a = c.args in
    ap (λ (t : Bool). unless t 3 0) (c.is_stack.ensures ∙ ap (is_stack a.kind a.n) (stack c))
    ∙ later-rest a.kind a.n (text_of a.line.now) c.in_ok-text.ensures.2 (count (goal.at.After-is_stack c).In_ok-text ∙ c.if-text-panes.false)

pub returns-then-not-is_stack : goal.returns-then-not-is_stack
unfolding later_of number
returns-then-not-is_stack c =
    no_stack _ Stack (ap (λ (t : Bool). unless t 3 0) (sym (c.if-not-is_stack.true)) ∙ rest (goal.at.returns-then-not-is_stack c).After-is_stack) _

pub returns : goal.returns
unfolding later_of
returns c =
    let g = (goal.at.returns c).After-is_stack in
    a-stack _ (ap (λ (t : Bool). unless t 3 0) (sym (c.if-not-is_stack.false)) ∙ rest g) _ _ (stack g)

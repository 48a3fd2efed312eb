-- `frames::frame::fields` meets its contract: the tests in the definition's order, and then the fields.
use Rattle.std.proofs.Common.{◌≡◌, ℕ, ◌+◌, ◌≤◌, Bool, length, sym, refl, ap, ◌∙◌, ap₂, arith}
use Rattle.base.specs.Words.{unless}
use Rattle.stacks.specs.Refusals.{number}
use Rattle.stacks.specs.declared.refusal.Refusal.TheVariants.{Frame, Stack, Size}
use Rattle.stacks.specs.Stack.{is_stack, stack_count}
use Rattle.stacks.proofs.KindLaws.{panes-twelve}
use Rattle.search.specs.Segments.{is_segment_size}
use Rattle.perm.specs.Panes.{kind_of}
use Rattle.text.specs.Frame.{stack_limit, kind_in, wanted_in, size_in, fields_refusal}
use Rattle.text.specs.Hex.{bytes_of}
use Rattle.text.proofs.FrameRefusals.{fields-length, fields-limit, fields-rest, size-is, no-first, a_first}
use Rattle.text.proofs.HexLaws.{bytes-length}
use Rattle.frames.proofs.frame.fields.Goals.{After-is_segment_size, After-is_stack, Else-text-n}
use Rattle.frames.proofs.frame.fields.Goals as goal

pub returns-then-text-n : goal.returns-then-text-n
unfolding number
returns-then-text-n c =
    let a = c.args in
    let bs = bytes_of a.text.now in
    no-first _ bs Frame (fields-length (kind_of a.panes) a.panes.n bs (λ e. c.if-text-n.true (sym (bytes-length a.text.now) ∙ e)))

-- the length is right
long : (c : Else-text-n) → length (bytes_of c.args.text.now) ≡ c.args.panes.n + 6
long c = bytes-length c.args.text.now ∙ c.if-text-n.false

pub returns-then-stacks-gt-STACK_LIMIT : goal.returns-then-stacks-gt-STACK_LIMIT
unfolding number
returns-then-stacks-gt-STACK_LIMIT c =
    let a = c.args in
    let bs = bytes_of a.text.now in
    let g = (goal.at.returns-then-stacks-gt-STACK_LIMIT c).Else-text-n in
    no-first _ bs Frame (fields-limit (kind_of a.panes) a.panes.n bs (long g) (omega (arith, c.stack_count-stacks.ensures)))

pub places_at-wanted-requires : goal.places_at-wanted-requires
places_at-wanted-requires c = let l = panes-twelve (kind_of c.args.panes) c.args.panes.n c.args.panes.in_range in (l, omega arith)

-- the length and the count of stacks pass, and the stack's and the size's tests decide
rest : (c : After-is_stack) (t : Bool) → (let bs = bytes_of c.args.text.now in
    let kind = kind_of c.args.panes in
    let n = c.args.panes.n in
    t ≡ is_segment_size (stack_count kind n) (size_in n bs) → unless c.is_stack.result 3 (unless t 5 0) ≡ fields_refusal kind n bs)
unfolding wanted_in
rest c t q =
    let kind = kind_of c.args.panes in
    let n = c.args.panes.n in
    let limit : stack_count kind n ≤ stack_limit = omega (arith, c.stack_count-stacks.ensures, c.if-stacks-gt-STACK_LIMIT.false) in
    fields-rest kind n (bytes_of c.args.text.now) (long (goal.at.After-is_stack c).Else-text-n) limit c.is_stack.result t
    (c.is_stack.ensures ∙ ap (is_stack kind n) c.places_at-wanted.ensures) q

pub returns-then-not-is_stack : goal.returns-then-not-is_stack
unfolding number
returns-then-not-is_stack c =
    let a = c.args in
    let bs = bytes_of a.text.now in
    let t = is_segment_size (stack_count (kind_of a.panes) a.panes.n) (size_in a.panes.n bs) in
    no-first _ bs Stack
    (ap (λ (s : Bool). unless s 3 (unless t 5 0)) (sym (c.if-not-is_stack.true)) ∙ rest (goal.at.returns-then-not-is_stack c).After-is_stack t refl)

-- the size, and its test, which alone decides
size : (c : After-is_segment_size) → c.number_at-size.result ≡ size_in c.args.panes.n (bytes_of c.args.text.now)
size c =
    let a = c.args in
    let g = (goal.at.After-is_segment_size c).Else-text-n in
    c.number_at-size.ensures ∙ size-is (kind_of a.panes) a.panes.n (bytes_of a.text.now) (long g)

last : (c : After-is_segment_size)
    → unless c.is_segment_size.result 5 0 ≡ fields_refusal (kind_of c.args.panes) c.args.panes.n (bytes_of c.args.text.now)
last c =
    ap (λ (s : Bool). unless s 3 (unless c.is_segment_size.result 5 0)) (sym (c.if-not-is_stack.false))
    ∙ rest (goal.at.After-is_segment_size c).After-is_stack c.is_segment_size.result
    (c.is_segment_size.ensures ∙ ap₂ is_segment_size c.stack_count-stacks.ensures (size c))

pub returns-then-not-is_segment_size : goal.returns-then-not-is_segment_size
unfolding number
returns-then-not-is_segment_size c =
    no-first _ (bytes_of c.args.text.now) Size
    (ap (λ (t : Bool). unless t 5 0) (sym (c.if-not-is_segment_size.true)) ∙ last (goal.at.returns-then-not-is_segment_size c).After-is_segment_size)

pub returns : goal.returns
unfolding wanted_in kind_in
returns c =
    let a = c.args in
    let g = (goal.at.returns c).After-is_segment_size in
    a_first _ (bytes_of a.text.now) (ap (λ (t : Bool). unless t 5 0) (sym (c.if-not-is_segment_size.false)) ∙ last g)
    c.byte_at.result a.panes.n c.places_at-wanted.result c.number_at-size.result c.byte_at.ensures c.requires.1
    (c.places_at-wanted.ensures ∙ ap (λ (k : ℕ). wanted_in k (bytes_of a.text.now)) c.requires.1)
    (size g ∙ ap (λ (k : ℕ). size_in k (bytes_of a.text.now)) c.requires.1)

-- `session::lent::log_words` meets its contract.
use mathlib.Core.Path.{◌≡◌, sym, ap, ◌∙◌}
use mathlib.Core.Bool.{true}
use native.Mathlib.Omega.{arith}
use borrow.Author.Rules.{rules}
use Rattle.stacks.specs.Stack.{stack_count}
use Rattle.search.specs.Segments.{segment_count, is_segment_size}
use Rattle.search.proofs.SegmentLaws.{segment-size-facts}
use Rattle.text.proofs.LentLaws.{log-unreported, log-none, log-some}
use Rattle.session.proofs.lent.log_words.Goals.{Then-is_segment_size}
use Rattle.session.proofs.lent.log_words.Goals as goal

-- S makes segments
sized : (c : Then-is_segment_size) → (let a = c.args in is_segment_size (stack_count a.kind a.n) a.size ≡ true)
sized c =
    let a = c.args in
    ap (λ m. is_segment_size m a.size) (sym c.in-Some.ensures.1)
    ∙ sym c.is_segment_size.ensures
    ∙ c.if-is_segment_size.true

pub segment_count-requires : goal.segment_count-requires
segment_count-requires c =
    let a = c.args in
    omega (arith, (segment-size-facts (stack_count a.kind a.n) a.size (sized (goal.at.segment_count-requires c).Then-is_segment_size)).least)

pub returns-in-Some : goal.returns-in-Some
returns-in-Some c =
    let a = c.args in
    log-some a.kind a.n a.size c.segment_count.result c.in-Some.ensures.0 (sized (goal.at.returns-in-Some c).Then-is_segment_size)
    (c.segment_count.ensures ∙ ap (λ m. segment_count m a.size) c.in-Some.ensures.1)

pub overflow_mul-result : goal.overflow_mul-result
overflow_mul-result c = let few = (returns-in-Some c).1 in search rules

pub returns-in_default : goal.returns-in_default
returns-in_default c =
    let a = c.args in (
      log-none a.kind a.n a.size
          (ap (λ m. is_segment_size m a.size) (sym c.in-Some.ensures.1) ∙ sym c.is_segment_size.ensures ∙ c.if-is_segment_size.false),
      omega arith,
    )

pub returns-in_default-2 : goal.returns-in_default-2
returns-in_default-2 c = (log-unreported c.args.kind c.args.n c.args.size c.in_default.ensures, omega arith)

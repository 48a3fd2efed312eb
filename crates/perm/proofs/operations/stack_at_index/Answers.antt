-- `perm::operations::stack_at_index` meets its contract: the kind and n, and then the index.
use mathlib.Core.Path.{sym, ap, ◌∙◌}
use mathlib.Core.Bool.{Bool}
use Prim.Native.Nat.{◌≤◌, ◌<◌}
use borrow.Author.Tests.{lt-ltb, le-ltb}
use Rattle.std.proofs.lemmas.Result.{err_from_is_err_and}
use Rattle.base.specs.Words.{unless}
use Rattle.stacks.specs.Operations.{stack_refusal, stack_of}
use Rattle.stacks.specs.Refusals.{number}
use Rattle.stacks.specs.Stack.{stack_count}
use Rattle.stacks.specs.declared.refusal.Refusal.TheVariants.{IndexOrTurn}
use Rattle.stacks.proofs.Numbers.{row-errs, row-oks}
use Rattle.stacks.proofs.Refusals.{kind_row}
use Rattle.perm.proofs.Answers.{no_stack, a-stack}
use Rattle.perm.proofs.operations.stack_at_index.Goals as goal

pub returns-in_err-panes : goal.returns-in_err-panes
unfolding stack_of stack_refusal
returns-in_err-panes c =
    let p = err_from_is_err_and c.from_residual.result c.from_residual.ensures.1 in
    rw (p.1, p.2) (no_stack _ _ (row-errs (kind_row c.args.kind c.args.n) _ _ c.in_err-panes.ensures.refusal) _)

pub returns-then-stack_count-index : goal.returns-then-stack_count-index
unfolding stack_of stack_refusal number
returns-then-stack_count-index c =
    let a = c.args in
    let told = c.in_ok-panes.ensures in
    let past : stack_count a.kind a.n ≤ a.index = rw (c.stack_count.ensures, told.panes.0, told.panes.1) at c.if-stack_count-index.true in
    no_stack _ IndexOrTurn
    (ap (λ (t : Bool). unless t 4 0) (sym (le-ltb a.index (stack_count a.kind a.n) past)) ∙ row-oks (kind_row a.kind a.n) _ told.refusal) _

pub returns : goal.returns
unfolding stack_of stack_refusal
returns c =
    let a = c.args in
    let told = c.in_ok-panes.ensures in
    let below : a.index < stack_count a.kind a.n = rw (c.stack_count.ensures, told.panes.0, told.panes.1) at c.if-stack_count-index.false in
    a-stack _ (ap (λ (t : Bool). unless t 4 0) (sym (lt-ltb a.index (stack_count a.kind a.n) below)) ∙ row-oks (kind_row a.kind a.n) _ told.refusal)
    _ _ (rw (told.panes.0, told.panes.1) at c.unrank.ensures)

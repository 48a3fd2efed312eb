-- `perm::panes::Panes::with_stack` meets its contract: the kind and n, and then the stack.
use mathlib.Core.Path.{◌≡◌, sym, ap, ◌∙◌}
use mathlib.Core.Bool.{Bool, true, false}
use Rattle.std.proofs.lemmas.Result.{err_from_is_err_and}
use Rattle.base.specs.Words.{unless}
use Rattle.stacks.specs.Operations.{index_refusal}
use Rattle.stacks.specs.Refusals.{number}
use Rattle.stacks.specs.Stack.{is_stack}
use Rattle.stacks.proofs.Numbers.{row-errs, row-oks}
use Rattle.stacks.proofs.Refusals.{kind_row}
use Rattle.perm.proofs.panes.Panes.with_stack.Goals as goal

pub returns-in_err-panes-clause-refusal : goal.returns-in_err-panes-clause-refusal
unfolding index_refusal
returns-in_err-panes-clause-refusal c =
    let p = err_from_is_err_and c.from_residual.result c.from_residual.ensures.1 in
    rw (p.1, p.2) (row-errs (kind_row c.args.kind c.args.n) _ _ c.in_err-panes.ensures.refusal)

pub returns-then-not-is_stack-clause-refusal : goal.returns-then-not-is_stack-clause-refusal
unfolding index_refusal number
returns-then-not-is_stack-clause-refusal c =
    let a = c.args in
    let same = c.in_ok-panes.ensures.panes in
    let none : is_stack a.kind a.n a.stack ≡ false = rw (same.0, same.1) at (sym c.is_stack.ensures ∙ c.if-not-is_stack.true) in
    ap (λ (t : Bool). unless t 3 0) (sym none) ∙ row-oks (kind_row a.kind a.n) _ c.in_ok-panes.ensures.refusal

pub returns-clause-refusal : goal.returns-clause-refusal
unfolding index_refusal
returns-clause-refusal c =
    let a = c.args in
    let same = c.in_ok-panes.ensures.panes in
    let one : is_stack a.kind a.n a.stack ≡ true = rw (same.0, same.1) at (sym c.is_stack.ensures ∙ c.if-not-is_stack.false) in
    ap (λ (t : Bool). unless t 3 0) (sym one) ∙ row-oks (kind_row a.kind a.n) _ c.in_ok-panes.ensures.refusal

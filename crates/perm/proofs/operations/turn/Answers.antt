-- `perm::operations::turn` meets its contract: the refusals of a stack, and then the turn.
use mathlib.Core.Path.{◌≡◌, sym, ap, ◌∙◌}
use mathlib.Core.Bool.{Bool, true, false}
use Rattle.std.proofs.lemmas.Result.{err_from_is_err_and}
use Rattle.base.specs.Words.{unless}
use Rattle.stacks.specs.Operations.{index_refusal, turn_refusal, turned_of}
use Rattle.stacks.specs.Refusals.{number}
use Rattle.stacks.specs.Turn.{is_turn}
use Rattle.stacks.specs.declared.refusal.Refusal.TheVariants.{IndexOrTurn}
use Rattle.stacks.proofs.Numbers.{row-errs, row-oks}
use Rattle.stacks.proofs.Refusals.{stack-row}
use Rattle.perm.proofs.Answers.{no_stack, a-stack}
use Rattle.perm.proofs.operations.turn.Goals as goal

pub returns-in_err-panes : goal.returns-in_err-panes
unfolding index_refusal turn_refusal turned_of
returns-in_err-panes c =
    let a = c.args in
    let p = err_from_is_err_and c.from_residual.result c.from_residual.ensures.1 in
    rw (p.1, p.2) (no_stack _ _ (row-errs (stack-row a.kind a.n a.stack) _ _ c.in_err-panes.ensures.refusal) _)

pub returns-then-not-is_turn : goal.returns-then-not-is_turn
unfolding index_refusal turn_refusal turned_of number
returns-then-not-is_turn c =
    let a = c.args in
    let told = c.in_ok-panes.ensures in
    let none : is_turn a.kind a.n a.k ≡ false = rw (told.panes.0, told.panes.1) at (sym c.is_turn.ensures ∙ c.if-not-is_turn.true) in
    no_stack _ IndexOrTurn (ap (λ (t : Bool). unless t 4 0) (sym none) ∙ row-oks (stack-row a.kind a.n a.stack) _ told.refusal) _

pub returns : goal.returns
unfolding index_refusal turn_refusal turned_of
returns c =
    let a = c.args in
    let told = c.in_ok-panes.ensures in
    let one : is_turn a.kind a.n a.k ≡ true = rw (told.panes.0, told.panes.1) at (sym c.is_turn.ensures ∙ c.if-not-is_turn.false) in
    a-stack _ (ap (λ (t : Bool). unless t 4 0) (sym one) ∙ row-oks (stack-row a.kind a.n a.stack) _ told.refusal)
    _ _ (rw (told.panes.0, told.panes.1) at c.moved.ensures)

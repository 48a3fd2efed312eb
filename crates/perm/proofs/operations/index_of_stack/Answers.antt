-- `perm::operations::index_of_stack` meets its contract: the refusal's number alone, or the index.
use Rattle.std.proofs.lemmas.Result.{err_from_is_err_and}
use Rattle.stacks.specs.Operations.{index_of}
use Rattle.perm.proofs.Answers.{no_index, an-index}
use Rattle.perm.proofs.operations.index_of_stack.Goals as goal

pub returns-in_err-panes : goal.returns-in_err-panes
unfolding index_of
returns-in_err-panes c =
    let p = err_from_is_err_and c.from_residual.result c.from_residual.ensures.1 in
    rw (p.1, p.2) (no_index _ _ c.in_err-panes.ensures.refusal _)

pub returns : goal.returns
unfolding index_of
returns c =
    let told = c.in_ok-panes.ensures in
    an-index _ told.refusal _ _ (rw (told.panes.0, told.panes.1) at c.rank.ensures)

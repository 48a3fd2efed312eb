-- `perm::valid::has_panes` meets its contract. The loop's invariant: the set holds the panes above the place, and the rest decides for all.
use Rattle.stacks.specs.Stack.{order_of}
use Rattle.perm.proofs.Places.{Met}
use Rattle.perm.proofs.valid.has_panes.Given as goal

abbrev pub invariant-loop-x : goal.invariant-loop-x
invariant-loop-x l = Met l.n (order_of l.n l.fn.stack) l.met l.x-index

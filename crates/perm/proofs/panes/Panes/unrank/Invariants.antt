-- `perm::panes::Panes::unrank` meets its contract. The loop's invariant: the free panes are in the set, and what is left of the index orders them.
use Rattle.stacks.specs.Index.{stack_at}
use Rattle.perm.specs.Panes.{kind_of}
use Rattle.perm.proofs.Unranking.{Unranked}
use Rattle.perm.proofs.panes.Panes.unrank.Given as goal

abbrev pub invariant-loop-p : goal.invariant-loop-p
invariant-loop-p l = Unranked l.fn.self.n l.coats (stack_at (kind_of l.fn.self) l.fn.self.n l.index) l.left l.free l.stack l.p

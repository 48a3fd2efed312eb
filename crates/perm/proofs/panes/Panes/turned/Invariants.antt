-- `perm::panes::Panes::turned` meets its contract. The loop's invariant: the group is reversed, and its places above x are flipped.
use Rattle.std.proofs.Common.{◌≡◌}
use Rattle.perm.specs.Panes.{kind_of}
use Rattle.perm.proofs.Group.{half_turned}
use Rattle.perm.proofs.panes.Panes.turned.Given as goal

abbrev pub invariant-loop-x : goal.invariant-loop-x
invariant-loop-x l = l.x-items ≡ half_turned (kind_of l.self) l.k l.fn.stack l.x-index

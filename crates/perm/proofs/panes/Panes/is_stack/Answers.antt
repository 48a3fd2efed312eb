-- `perm::panes::Panes::is_stack` meets its contract.
use native.Mathlib.Omega.{arith}
use Rattle.stacks.proofs.KindLaws.{panes-twelve}
use Rattle.perm.specs.Panes.{kind_of}
use Rattle.perm.proofs.panes.Panes.is_stack.Goals as goal

pub has_panes-requires : goal.has_panes-requires
has_panes-requires c = panes-twelve (kind_of c.args.self) c.args.self.n c.args.self.in_range

pub unused_below-requires : goal.unused_below-requires
unused_below-requires c = let a = c.args in omega (arith, panes-twelve (kind_of a.self) a.self.n a.self.in_range)

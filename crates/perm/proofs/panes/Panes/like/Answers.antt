-- `perm::panes::Panes::like` meets its contract.
use mathlib.Core.Path.{refl, ◌∙◌}
use Rattle.perm.proofs.Alike.{panes-as}
use Rattle.perm.proofs.panes.Panes.like.Goals as goal

pub invariant_of-result : goal.invariant_of-result
invariant_of-result c = record { in_range = panes-as _ _ _ _ c.like.ensures refl ∙ c.requires }

-- `perm::groups::is_group_set` meets its contract.
use mathlib.Core.Path.{refl, ◌∙◌}
use Rattle.perm.proofs.Alike.{set-as}
use Rattle.perm.proofs.groups.is_group_set.Goals as goal

pub returns : goal.returns
returns c = c.is_group_set.ensures ∙ set-as _ _ _ _ c.like.ensures refl c.args.groups

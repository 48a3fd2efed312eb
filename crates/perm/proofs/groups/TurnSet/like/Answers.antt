-- `perm::groups::TurnSet::like` meets its contract.
use mathlib.Core.Path.{◌∙◌}
use Rattle.perm.proofs.Alike.{set-as}
use Rattle.perm.proofs.groups.TurnSet.like.Goals as goal

pub of-requires : goal.of-requires
of-requires c = set-as _ _ _ _ c.like.ensures.0 c.like.ensures.1 c.args.groups ∙ c.requires.1

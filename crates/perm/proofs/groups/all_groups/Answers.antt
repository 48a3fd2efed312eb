-- `perm::groups::all_groups` meets its contract.
use mathlib.Core.Path.{◌∙◌}
use Rattle.perm.proofs.Alike.{all-as}
use Rattle.perm.proofs.groups.all_groups.Goals as goal

pub returns : goal.returns
returns c = c.all_groups.ensures ∙ all-as _ _ _ _ c.like.ensures.0 c.like.ensures.1

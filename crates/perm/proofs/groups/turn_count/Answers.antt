-- `perm::groups::turn_count` meets its contract.
use mathlib.Core.Path.{ap, ◌∙◌}
use lib.ListN.{length}
use Rattle.perm.proofs.Alike.{named-as}
use Rattle.perm.proofs.groups.turn_count.Goals as goal

pub returns : goal.returns
returns c =
    let like = c.like.ensures in
    c.count.ensures ∙ ap length (rw like.2 (named-as _ _ _ _ like.0 like.1 c.args.groups))

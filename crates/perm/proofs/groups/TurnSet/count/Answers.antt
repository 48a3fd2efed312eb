-- `perm::groups::TurnSet::count` meets its contract: the sizes that a set of turns names are its turns.
use mathlib.Core.Path.{sym, ap, ◌∙◌}
use native.Mathlib.Omega.{arith}
use lib.ListN.{length}
use Rattle.perm.specs.Panes.{kind_of}
use Rattle.perm.proofs.SizeLaws.{sizes-count, sizes-turns}
use Rattle.perm.proofs.groups.TurnSet.count.Goals as goal

pub returns : goal.returns
returns c =
    let s = c.args.self in
    sym (sizes-count s.groups (omega arith)) ∙ ap length (sizes-turns (kind_of s.panes) s.panes.n s.groups s.panes.in_range s.named (omega arith))

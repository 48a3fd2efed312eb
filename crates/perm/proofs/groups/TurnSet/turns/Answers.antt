-- `perm::groups::TurnSet::turns` meets its contract: the sizes that a set of turns names are its turns.
use mathlib.Core.Path.{◌∙◌}
use native.Mathlib.Omega.{arith}
use Rattle.perm.specs.Panes.{kind_of}
use Rattle.perm.proofs.SizeLaws.{sizes-turns}
use Rattle.perm.proofs.groups.TurnSet.turns.Goals as goal

pub returns : goal.returns
returns c =
    let s = c.args.self in
    c.of.ensures ∙ sizes-turns (kind_of s.panes) s.panes.n s.groups s.panes.in_range s.named (omega arith)

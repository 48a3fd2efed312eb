-- `expand::children::children_of` meets its contract. The loop's invariant: the children by the turns that are passed stand in the array, and
-- those by the turns ahead are still to come.
use mathlib.Core.Path.{◌≡◌}
use mathlib.Core.Bool.{true}
use Rattle.base.specs.Words.{all}
use Rattle.stacks.specs.Turn.{is_turn, turns_in}
use Rattle.search.specs.Expand.{children_of}
use Rattle.perm.specs.Panes.{kind_of}
use Rattle.perm.specs.Sizes.{sizes_left}
use Rattle.expand.proofs.Filling.{Filled}
use Rattle.expand.proofs.children.children_of.Given as goal

abbrev pub invariant-loop-i : goal.invariant-loop-i
invariant-loop-i l = (all (is_turn (kind_of l.set.panes) l.set.panes.n) (sizes_left l.i-iterator.iter) ≡ true)
    × Filled (children_of (kind_of l.set.panes) l.set.panes.n (turns_in (kind_of l.set.panes) l.set.panes.n l.set.groups) l.index) l.children l.i-iterator.count
    (children_of (kind_of l.set.panes) l.set.panes.n (sizes_left l.i-iterator.iter) l.index)

-- `sweep::reach::Pair::is_reached` meets its contract. The loop's invariant: the sizes ahead are turns, and the stack is reached if one of them
-- leads to a changed stack.
use mathlib.Core.Path.{◌≡◌}
use mathlib.Core.Bool.{true}
use Rattle.base.specs.Words.{all, any}
use Rattle.search.specs.Expand.{children_of}
use Rattle.search.specs.Sweep.{is_changed}
use Rattle.stacks.specs.Turn.{is_turn}
use Rattle.perm.specs.Panes.{kind_of}
use Rattle.perm.specs.Sizes.{sizes_left}
use Rattle.sweep.specs.Reach.{reached_by}
use Rattle.sweep.proofs.reach.Pair.is_reached.Given as goal

abbrev pub invariant-loop-k : goal.invariant-loop-k
invariant-loop-k l = (all (is_turn (kind_of l.self.set.panes) l.self.set.panes.n) (sizes_left l.k-iterator) ≡ true)
    × (reached_by l.self l.list l.index
    ≡ any (is_changed l.self.size l.self.b l.list) (children_of (kind_of l.self.set.panes) l.self.set.panes.n (sizes_left l.k-iterator) l.index))

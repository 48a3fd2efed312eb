-- `sweep::reach::Pair::is_reached` meets its contract. The loop's invariant: the sizes ahead are turns, and the stack is reached if one of them
-- leads to a changed stack.
use mathlib.Core.Path.{◌≡◌, sym, ap, ◌∙◌}
use mathlib.Core.List.{List}
use Prim.Native.Nat.{ℕ}
use native.Mathlib.Omega.{arith}
use Rattle.base.specs.Words.{all, any}
use Rattle.stacks.specs.Turn.{is_turn, turns_in}
use Rattle.search.specs.Expand.{children_of}
use Rattle.search.specs.Sweep.{is_changed}
use Rattle.search.proofs.Children.{children-next}
use Rattle.perm.specs.Panes.{kind_of}
use Rattle.perm.specs.Sizes.{sizes_left}
use Rattle.perm.proofs.SizeLaws.{sizes-turns, sizes-are-turns, turns-next}
use Rattle.job.proofs.Walked.{unranked}
use Rattle.sweep.proofs.Reaching.{child-bit}
use Rattle.sweep.proofs.reach.Pair.is_reached.Goals as goal

pub loop-k-init : goal.loop-k-init
loop-k-init c =
    let pair = c.args.self in
    let set = pair.set in
    let kind = kind_of set.panes in
    let n = set.panes.n in
    let e : sizes_left c.into_iter-k-iterator.result ≡ turns_in kind n set.groups =
    ap sizes_left c.into_iter-k-iterator.ensures.into_iter_gives ∙ c.turns-k-items.ensures in (
      ap (all (is_turn kind n)) (e ∙ sym (sizes-turns kind n set.groups set.panes.in_range set.named (omega arith)))
          ∙ sizes-are-turns kind n set.groups set.named,
      sym (ap (λ (ks : List ℕ). any (is_changed pair.size pair.b c.args.list.now) (children_of kind n ks c.args.index)) e),
    )

pub rank_moved-child-requires : goal.rank_moved-child-requires
rank_moved-child-requires c =
    let panes = c.args.self.set.panes in
    let kind = kind_of panes in
    let u = unranked kind panes.n c.args.index panes.in_range c.requires.below c.unrank-stack.ensures in
    (u.0, (turns-next kind panes.n c.in-Some.k _ _ c.in-Some.ensures.steps c.loop-k.invariant.0).0, u.1)

pub is_changed-requires : goal.is_changed-requires
is_changed-requires c =
    let u = c.unrank-stack in
    let pair = c.args.self in
    let t = turns-next (kind_of pair.set.panes) pair.set.panes.n c.in-Some.k _ _ c.in-Some.ensures.steps c.loop-k.invariant.0 in
    child-bit c.requires c.in-Some.k c.rank_moved-child.result u.result t.0 u.ensures c.rank_moved-child.ensures

pub returns-then-is_changed : goal.returns-then-is_changed
unfolding any
returns-then-is_changed c =
    let a = c.args in
    let pair = a.self in
    sym
    (c.loop-k.invariant.1
    ∙ ap (any (is_changed pair.size pair.b a.list.now))
    (children-next (kind_of pair.set.panes) pair.set.panes.n _ a.index c.in-Some.k _ c.in-Some.ensures.steps c.unrank-stack.result c.unrank-stack.ensures
    c.rank_moved-child.result c.rank_moved-child.ensures)
    ∙ rw (← c.is_changed.ensures, c.if-is_changed.true))

pub loop-k-preserved : goal.loop-k-preserved
unfolding any
loop-k-preserved c =
    let a = c.args in
    let pair = a.self in
    let t = turns-next (kind_of pair.set.panes) pair.set.panes.n c.in-Some.k _ _ c.in-Some.ensures.steps c.loop-k.invariant.0 in (
      t.1,
      c.loop-k.invariant.1
          ∙ ap (any (is_changed pair.size pair.b a.list.now))
          (children-next (kind_of pair.set.panes) pair.set.panes.n _ a.index c.in-Some.k _ c.in-Some.ensures.steps c.unrank-stack.result c.unrank-stack.ensures
          c.rank_moved-child.result c.rank_moved-child.ensures)
          ∙ rw (← c.is_changed.ensures, c.if-is_changed.false),
    )

pub returns : goal.returns
unfolding any children_of
returns c =
    let a = c.args in
    let pair = a.self in
    sym
    (c.loop-k.invariant.1
    ∙ ap (λ (ks : List ℕ). any (is_changed pair.size pair.b a.list.now) (children_of (kind_of pair.set.panes) pair.set.panes.n ks a.index)) c.in-None.ensures.steps.0)

-- `expand::children::children_of` meets its contract. The loop's invariant: the children by the turns that are passed stand in the array, and
-- those by the turns ahead are still to come.
use mathlib.Core.Path.{◌≡◌, sym, ap, ◌∙◌}
use mathlib.Core.List.{List, ◌∷◌, ◌++◌}
use mathlib.Core.Logic.{inl}
use Prim.Native.Nat.{ℕ, ◌-◌, ◌≤◌}
use native.Mathlib.Omega.{arith}
use lib.ListN.{length, replicate}
use Rattle.base.specs.Words.{all}
use Rattle.std.specs.declared.iter.Enumerate.{Enumerate}
use Rattle.stacks.specs.Turn.{is_turn}
use Rattle.search.specs.Expand.{children_of}
use Rattle.search.proofs.Children.{children-length, children-next}
use Rattle.search.proofs.Turning.{set-turns}
use Rattle.perm.specs.Moves.{most_moves}
use Rattle.perm.specs.Panes.{kind_of}
use Rattle.perm.specs.Sizes.{sizes_left}
use Rattle.perm.specs.declared.sizes.Sizes.{Sizes}
use Rattle.perm.proofs.SizeLaws.{sizes-turns, sizes-are-turns, turns-next}
use Rattle.job.proofs.Walked.{unranked}
use Rattle.expand.specs.Scan.{moves_in}
use Rattle.expand.proofs.Filling.{filled_none, filled-room, filled_more, filled-all}
use Rattle.expand.proofs.children.children_of.Goals.{After-into_iter-i-iterator, After-rank_moved}
use Rattle.expand.proofs.children.children_of.Goals as goal

-- the sizes that the loop begins with are the turns of the set, and few
turns : (c : After-into_iter-i-iterator) → let set = c.args.set in
    (sizes_left c.into_iter-i-iterator.result.iter ≡ moves_in set) × (length (moves_in set) ≤ most_moves)
turns c =
    let set = c.args.set in (
      ap (λ (it : Enumerate Sizes). sizes_left it.iter) c.into_iter-i-iterator.ensures.into_iter_gives
          ∙ ap sizes_left c.enumerate-i-items.ensures.source ∙ c.turns.ensures,
      (set-turns (kind_of set.panes) set.panes.n set.panes.in_range set.groups set.named).few,
    )

front : (c : After-into_iter-i-iterator) → c.into_iter-i-iterator.result.count ≡ 0
front c = ap (λ (it : Enumerate Sizes). it.count) c.into_iter-i-iterator.ensures.into_iter_gives ∙ c.enumerate-i-items.ensures.count

pub loop-i-init-derived : goal.loop-i-init-derived
loop-i-init-derived c =
    let t = turns c in
    ((tt, tt, inl (omega (arith, front c, ap length t.0, t.1))), tt)

pub loop-i-init : goal.loop-i-init
loop-i-init c =
    let set = c.args.set in
    let kind = kind_of set.panes in
    let n = set.panes.n in
    let t = turns c in (
      ap (all (is_turn kind n)) (t.0 ∙ sym (sizes-turns kind n set.groups set.panes.in_range set.named (omega arith)))
          ∙ sizes-are-turns kind n set.groups set.named,
      rw (front c) (filled_none (ap (λ (ks : List ℕ). children_of kind n ks c.args.index) (sym t.0))
          (omega (arith, children-length kind n (moves_in set) c.args.index, t.1))),
    )

pub rank_moved-requires : goal.rank_moved-requires
rank_moved-requires c =
    let panes = c.args.set.panes in
    let kind = kind_of panes in
    let u = unranked kind panes.n c.args.index panes.in_range c.requires c.unrank-stack.ensures in
    (u.0, (turns-next kind panes.n c.in-Some.k _ _ c.in-Some.ensures.steps.0 c.loop-i.invariant.0).0, u.1)

-- the child that is made is the first of those ahead
next : (c : After-rank_moved)
    → let panes = c.args.set.panes in
    children_of (kind_of panes) panes.n (sizes_left c.loop-i.i-iterator.iter) c.args.index
    ≡ c.rank_moved.result ∷ children_of (kind_of panes) panes.n (sizes_left c.next.new.self.iter) c.args.index
next c =
    let panes = c.args.set.panes in
    children-next (kind_of panes) panes.n _ c.args.index c.in-Some.k _ c.in-Some.ensures.steps.0 c.unrank-stack.result c.unrank-stack.ensures
    c.rank_moved.result c.rank_moved.ensures

pub bounds-children-i : goal.bounds-children-i
bounds-children-i c =
    omega (arith, c.in-Some.ensures.steps.1, filled-room c.loop-i.invariant.1 c.rank_moved.result _ (next (goal.at.bounds-children-i c).After-rank_moved))

pub offset_bounds-children-i : goal.offset_bounds-children-i
offset_bounds-children-i c =
    omega (arith, c.in-Some.ensures.steps.1, filled-room c.loop-i.invariant.1 c.rank_moved.result _ (next (goal.at.offset_bounds-children-i c).After-rank_moved))

pub loop-i-preserved : goal.loop-i-preserved
loop-i-preserved c =
    let panes = c.args.set.panes in
    let s = c.in-Some.ensures.steps in
    let t = turns-next (kind_of panes) panes.n c.in-Some.k _ _ s.0 c.loop-i.invariant.0 in
    (t.1, rw (s.1, s.2) (filled_more c.loop-i.invariant.1 c.rank_moved.result _ (next c)))

pub returns : goal.returns
unfolding children_of
returns c =
    let set = c.args.set in
    let kind = kind_of set.panes in
    let n = set.panes.n in
    let moves = moves_in set in
    filled-all c.loop-i.invariant.1 (ap (λ (ks : List ℕ). children_of kind n ks c.args.index) c.in-None.ensures.steps.0.0)
    ∙ ap (λ (m : ℕ). children_of kind n moves c.args.index ++ replicate (most_moves - m) 0) (children-length kind n moves c.args.index)

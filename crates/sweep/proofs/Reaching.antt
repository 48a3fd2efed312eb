-- A stack searched for a changed child, turn by turn of a set that is halved.
use mathlib.Core.Path.{◌≡◌, subst}
use mathlib.Core.Bool.{true}
use mathlib.Core.List.{List}
use Prim.Native.Nat.{ℕ, ◌/◌, ◌%◌, ◌<◌}
use native.Mathlib.Omega.{arith}
use lib.IntN.{ℤ}
use Rattle.stacks.specs.Index.{rank_of, stack_at}
use Rattle.stacks.specs.Stack.{stack_count}
use Rattle.stacks.specs.Turn.{is_turn, move_of}
use Rattle.stacks.proofs.Numbering.{rank_lt, unrank-stack}
use Rattle.stacks.proofs.MoveLaws.{move-stack}
use Rattle.search.specs.Changed.{list_bytes}
use Rattle.search.specs.Segments.{stack_count_in}
use Rattle.search.proofs.SegmentLaws.{stack-offset}
use Rattle.perm.specs.Panes.{kind_of}
use Rattle.sweep.specs.Reach.{BitFits, ReachFits}
use Rattle.sweep.specs.declared.reach.Pair.{Pair}

-- ---- one child

pub bit-inside : (i m : ℕ) → i < m → i / 8 < list_bytes m
unfolding list_bytes
bit-inside i m h = omega arith

-- ---- the children of a stack

-- a stack that a turn leads to has its bit, if it is one of segment b
pub child-bit : {pair : Pair} {v : ℕ} {list : List ℕ} → ReachFits pair list v → (k child : ℕ) (stack : List ℤ)
    → (let kind = kind_of pair.set.panes in let n = pair.set.panes.n in
    is_turn kind n k ≡ true → stack ≡ stack_at kind n v → child ≡ rank_of kind n (move_of kind n k stack) → BitFits pair.size pair.b list child)
child-bit {pair} {v} fits k child stack turn is made =
    let kind = kind_of pair.set.panes in
    let n = pair.set.panes.n in
    let S = pair.size in
    let b = pair.b in
    let N = stack_count kind n in
    let moved = move-stack kind n pair.set.panes.in_range k (stack_at kind n v) turn (unrank-stack kind n v pair.set.panes.in_range fits.below) in
    let inside : child < N = rw (made, is) (rank_lt kind n (move_of kind n k (stack_at kind n v)) pair.set.panes.in_range moved) in (
      fits.some,
      λ e. rw fits.listed
          (bit-inside (child % S) (stack_count_in N S b) (subst (λ (t : ℕ). child % S < stack_count_in N S t) e (stack-offset N S fits.some child inside))),
    )

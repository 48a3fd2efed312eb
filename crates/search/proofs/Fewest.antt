-- The fewest moves from a stack to the wanted one, as a depth in the graph of indexes, of stacks that have a road; counting them by it; there
-- and back, and by a third stack.
use mathlib.Core.Path.{◌≡◌, ◌∙◌, subst}
use mathlib.Core.Bool.{Bool, true}
use mathlib.Core.List.{List, map, reverse}
use Prim.Native.Nat.{ℕ, suc, ◌+◌, ◌<◌, ◌≤◌}
use native.Mathlib.Omega.{arith}
use lib.Dec.{eqb}
use lib.IntN.{ℤ}
use lib.ListN.{length, length-map, length-reverse}
use borrow.Author.Tests.{eqb-true, eq-eqb}
use Rattle.base.specs.Words.{tally, from}
use Rattle.graph.specs.Walks.{is_move, dist}
use Rattle.graph.proofs.Distance.{walk-dist, dist-walk, dist-back, dist-third}
use Rattle.graph.proofs.Depths.{Depths, dist-depths}
use Rattle.stacks.specs.Counts.{TellsWhere, CountsBy}
use Rattle.stacks.specs.Stack.{is_pane_count, is_stack, stack_count}
use Rattle.stacks.specs.Index.{rank_of}
use Rattle.stacks.specs.Turn.{undo_of, RoadBy, FewestBy}
use Rattle.stacks.proofs.MoveLaws.{road-back}
use Rattle.stacks.proofs.Numbering.{rank_lt}
use Rattle.search.proofs.AllStacks.{told-counts}
use Rattle.search.proofs.Turning.{child_at, Moves, move-graph, road-walk, walk-road}

-- the fewest moves from the stack at index v to w, cut at b
abbrev pub depth : ℕ → ℕ → List ℕ → List ℤ → ℕ → ℕ → ℕ
depth kind n moves w b v = dist moves (child_at kind n) (rank_of kind n w) b v

pub fewest-unique : {kind n : ℕ} {is_move : ℕ → Bool} {s w : List ℤ} {d e : ℕ} → FewestBy kind n is_move s w d → FewestBy kind n is_move s w e → d ≡ e
fewest-unique f g = omega (arith, f.least g.road g.leads, g.least f.road f.leads, f.long, g.long)

module _ (kind n : ℕ) (w : List ℤ) (b : ℕ) (in-range : is_pane_count kind n ≡ true) (wanted : is_stack kind n w ≡ true) {moves : List ℕ} (laws : Moves kind n moves) where
  pub goal-inside : rank_of kind n w < stack_count kind n
  goal-inside = rank_lt kind n w in-range wanted

  pub move-depths : 0 < b → Depths (stack_count kind n) moves (child_at kind n) (rank_of kind n w) b (depth kind n moves w b)
  move-depths some = dist-depths (move-graph kind n in-range laws) (rank_of kind n w) b some

  -- a stack whose depth is below the bound has a road; a stack that has a road is no deeper than the road is long
  module _ (s : List ℤ) (h : is_stack kind n s ≡ true) where
    pub depth-road : (ks : List ℕ) → RoadBy kind n (is_move moves) ks s w → depth kind n moves w b (rank_of kind n s) ≤ length ks
    depth-road ks road =
        walk-dist moves (child_at kind n) (rank_of kind n w) b ks (rank_of kind n s) (road-walk kind n in-range laws ks s w h road)

    pub depth-fewest : depth kind n moves w b (rank_of kind n s) < b → FewestBy kind n (is_move moves) s w (depth kind n moves w b (rank_of kind n s))
    depth-fewest near =
        let r = dist-walk moves (child_at kind n) (rank_of kind n w) b (rank_of kind n s) near in
        record {
          road = r.0;
          leads = walk-road kind n in-range laws r.0 s w h wanted r.1;
          long = r.2;
          least = depth-road;
        }

    pub fewest-depth : {d : ℕ} → FewestBy kind n (is_move moves) s w d → d < b → depth kind n moves w b (rank_of kind n s) ≡ d
    fewest-depth f near = fewest-unique (depth-fewest (omega (arith, depth-road f.road f.leads, f.long))) f

  -- the depth tells the stacks at d moves, so it counts them
  module _ (d : ℕ) (near : d < b) where
    depth_is : (s : List ℤ) → is_stack kind n s ≡ true → depth kind n moves w b (rank_of kind n s) ≡ d → FewestBy kind n (is_move moves) s w d
    depth_is s h e = subst (FewestBy kind n (is_move moves) s w) e (depth-fewest s h (omega (arith, e)))

    pub depth-tells : TellsWhere kind n (λ s. FewestBy kind n (is_move moves) s w d) (λ s. eqb (depth kind n moves w b (rank_of kind n s)) d)
    depth-tells =
        record {
          only = λ s h t. depth_is s h (eqb-true (depth kind n moves w b (rank_of kind n s)) d t);
          every = λ s h f. eq-eqb (depth kind n moves w b (rank_of kind n s)) d (fewest-depth s h f near);
        }

    pub counts-by : (count : ℕ) → count ≡ tally (λ v. eqb (depth kind n moves w b v) d) (from 0 (stack_count kind n))
        → CountsBy kind n (is_move moves) w d count
    counts-by = told-counts kind n in-range (λ v. eqb (depth kind n moves w b v) d) depth-tells

-- there and back they are equally many, and by a third stack never fewer
module _ (kind n : ℕ) (in-range : is_pane_count kind n ≡ true) {moves : List ℕ} (laws : Moves kind n moves) (s w : List ℤ)
    (hs : is_stack kind n s ≡ true) (hw : is_stack kind n w ≡ true) {d : ℕ} (fewest : FewestBy kind n (is_move moves) s w d) where
  pub fewest-back : FewestBy kind n (is_move moves) w s d
  fewest-back =
      record {
        road = map (undo_of kind) (reverse fewest.road);
        leads = road-back kind n in-range laws.turns laws.undone hs fewest.leads;
        long = length-map (reverse fewest.road) (undo_of kind) ∙ length-reverse fewest.road ∙ fewest.long;
        least = λ ks road. omega (
          arith,
          depth-road kind n s (suc d) in-range hs laws w hw ks road,
          dist-back (move-graph kind n in-range laws) (rank_of kind n s) (rank_of kind n w) (suc d)
              (rank_lt kind n s in-range hs) (rank_lt kind n w in-range hw),
          fewest-depth kind n w (suc d) in-range hw laws s hs fewest (omega arith),
        );
      }

  pub fewest-third : (t : List ℤ) {e f : ℕ} → is_stack kind n t ≡ true → FewestBy kind n (is_move moves) s t e
      → FewestBy kind n (is_move moves) t w f → d ≤ e + f
  fewest-third t {e} {f} ht first second =
      let b : ℕ = suc (d + e + f) in
      omega (
        arith,
        dist-third moves (child_at kind n) (rank_of kind n t) (rank_of kind n s) (rank_of kind n w) b,
        fewest-depth kind n w b in-range hw laws s hs fewest (omega arith),
        fewest-depth kind n t b in-range ht laws s hs first (omega arith),
        fewest-depth kind n w b in-range hw laws t ht second (omega arith),
      )

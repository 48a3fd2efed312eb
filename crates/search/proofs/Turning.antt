-- The stacks of a kind and n as a graph, as its search sees them: a vertex is an index, a move is one of a list of turns, and a road by
-- these is a walk.
use mathlib.Core.Path.{◌≡◌, refl, sym, ap, ◌∙◌}
use mathlib.Core.Bool.{true, ◌&&◌}
use mathlib.Core.List.{List, [], ◌∷◌}
use Prim.Native.Nat.{ℕ, suc, ◌-◌, ◌<◌, ◌≤◌}
use native.Mathlib.Nat.{le_trans}
use native.Mathlib.Omega.{arith}
use lib.IntN.{ℤ}
use lib.ListN.{length}
use Rattle.base.specs.Words.{all}
use Rattle.base.proofs.Tests.{and_left, and_right, and_both, same_test}
use Rattle.graph.specs.Walks.{walk, is_move, Walk, Graph}
use Rattle.graph.proofs.Moves.{is_move-from, from-is_move, is_move-filter}
use Rattle.base.proofs.Lists.{length-filter}
use Rattle.stacks.specs.Stack.{stack_places, is_pane_count, is_stack, stack_count}
use Rattle.stacks.specs.Index.{rank_of, stack_at}
use Rattle.stacks.specs.Turn.{first_turn, last_turn, is_turn, turns_of, lifts, is_group_set, turns_in, undo_of, move_of, moves_from, RoadBy}
use Rattle.stacks.proofs.Numbering.{rank_lt, rank-injective, unrank-stack, rank-unrank, unrank-rank}
use Rattle.stacks.proofs.TurnLaws.{turn-first, turn_last, turn-between, last-places, turns-count}
use Rattle.stacks.proofs.MoveLaws.{move-stack, undo-move, undo-lifted, move-undone, moves-stack}

-- where move k takes the stack at index v, as an index
unfoldable pub child_at : ℕ → ℕ → ℕ → ℕ → ℕ
child_at kind n k v = rank_of kind n (move_of kind n k (stack_at kind n v))

-- the moves are the turns
module _ (kind n k : ℕ) where
  pub turn-move : is_turn kind n k ≡ true → is_move (turns_of kind n) k ≡ true
  unfolding turns_of
  turn-move h =
      let first = turn-first kind n k h in
      let last = turn_last kind n k h in
      from-is_move (first_turn kind) (suc (last_turn kind n) - first_turn kind) k first (omega arith)

  pub move-turn : is_move (turns_of kind n) k ≡ true → is_turn kind n k ≡ true
  unfolding turns_of
  move-turn h =
      let r = is_move-from (first_turn kind) (suc (last_turn kind n) - first_turn kind) k h in
      turn-between kind n k r.0 (omega arith)

  pub turn-is-move : is_turn kind n k ≡ is_move (turns_of kind n) k
  turn-is-move = same_test (is_turn kind n k) (is_move (turns_of kind n) k) turn-move move-turn

-- those of a set are the turns that it names
module _ (kind n groups k : ℕ) where
  is-in-set : is_move (turns_in kind n groups) k ≡ (is_move (turns_of kind n) k && lifts groups k)
  unfolding turns_in
  is-in-set = is_move-filter (lifts groups) (turns_of kind n) k

  pub in-set : is_move (turns_in kind n groups) k ≡ true → (is_turn kind n k ≡ true) × (lifts groups k ≡ true)
  in-set m =
      let h = sym is-in-set ∙ m in
      (move-turn kind n k (and_left (is_move (turns_of kind n) k) (lifts groups k) h), and_right (is_move (turns_of kind n) k) (lifts groups k) h)

  pub turn-in-set : is_turn kind n k ≡ true → lifts groups k ≡ true → is_move (turns_in kind n groups) k ≡ true
  turn-in-set h l = is-in-set ∙ and_both (is_move (turns_of kind n) k) (lifts groups k) (turn-move kind n k h) l

-- what the search and Plan need of a list of moves, and nothing else
pub record Moves (kind n : ℕ) (moves : List ℕ) : Type 0 where
  -- each is a turn, and what undoes it is a move too
  pub turns : (k : ℕ) → is_move moves k ≡ true → is_turn kind n k ≡ true
  pub undone : (k : ℕ) → is_move moves k ≡ true → is_move moves (undo_of kind k) ≡ true
  pub few : length moves ≤ stack_places

module _ (kind n : ℕ) (in-range : is_pane_count kind n ≡ true) where
  -- all turns are such a list
  pub all-turns : Moves kind n (turns_of kind n)
  all-turns =
      record {
        turns = move-turn kind n;
        undone = λ k m. turn-move kind n (undo_of kind k) (undo-move kind n in-range k (move-turn kind n k m));
        few = le_trans (turns-count kind n) (last-places kind n in-range);
      }

  -- and so are the turns of a set, as far as it is one
  pub set-turns : (groups : ℕ) → is_group_set kind n groups ≡ true → Moves kind n (turns_in kind n groups)
  unfolding turns_in
  set-turns groups of-set =
      record {
        turns = λ k m. (in-set kind n groups k m).0;
        undone = λ k m.
            let t = in-set kind n groups k m in
            turn-in-set kind n groups (undo_of kind k) (undo-move kind n in-range k t.0)
            (undo-lifted kind n in-range groups k of-set t.0 t.1);
        few = le_trans (length-filter (lifts groups) (turns_of kind n)) all-turns.few;
      }

  -- a child of a stack's index is the index of the moved stack
  pub child-rank : (k : ℕ) (s : List ℤ) → is_stack kind n s ≡ true → child_at kind n k (rank_of kind n s) ≡ rank_of kind n (move_of kind n k s)
  unfolding child_at
  child-rank k s h = ap (λ (t : List ℤ). rank_of kind n (move_of kind n k t)) (unrank-rank kind n s in-range h)

  module _ {moves : List ℕ} (laws : Moves kind n moves) where
    pub moved-stack : (k : ℕ) (s : List ℤ) → is_move moves k ≡ true → is_stack kind n s ≡ true → is_stack kind n (move_of kind n k s) ≡ true
    moved-stack k s m h = move-stack kind n in-range k s (laws.turns k m) h

    pub move-graph : Graph (stack_count kind n) moves (child_at kind n)
    unfolding child_at
    move-graph = record { inside = inside; undone = λ k v m h. (undo_of kind k, laws.undone k m, back k v m h) }
      where
        inside : (k v : ℕ) → is_move moves k ≡ true → v < stack_count kind n → child_at kind n k v < stack_count kind n
        inside k v m h =
            rank_lt kind n (move_of kind n k (stack_at kind n v)) in-range (moved-stack k (stack_at kind n v) m (unrank-stack kind n v in-range h))

        back : (k v : ℕ) → is_move moves k ≡ true → v < stack_count kind n → child_at kind n (undo_of kind k) (child_at kind n k v) ≡ v
        back k v m h =
            let s : List ℤ = stack_at kind n v in
            let stack : is_stack kind n s ≡ true = unrank-stack kind n v in-range h in
            child-rank (undo_of kind k) (move_of kind n k s) (moved-stack k s m stack)
            ∙ ap (rank_of kind n) (move-undone kind n in-range k s (laws.turns k m) stack)
            ∙ rank-unrank kind n v in-range h

    -- moves lead a stack's index to where their walk leads
    moves_walk : (ks : List ℕ) (s : List ℤ) → all (is_move moves) ks ≡ true → is_stack kind n s ≡ true
        → walk (child_at kind n) ks (rank_of kind n s) ≡ rank_of kind n (moves_from kind n ks s)
    unfolding walk moves_from all
    moves_walk [] s t h = refl
    moves_walk (k ∷ ks) s t h =
        ap (walk (child_at kind n) ks) (child-rank k s h)
        ∙ moves_walk ks (move_of kind n k s) (and_right (is_move moves k) (all (is_move moves) ks) t)
        (moved-stack k s (and_left (is_move moves k) (all (is_move moves) ks) t) h)

    module _ (ks : List ℕ) (s w : List ℤ) (hs : is_stack kind n s ≡ true) where
      pub road-walk : RoadBy kind n (is_move moves) ks s w → Walk moves (child_at kind n) ks (rank_of kind n s) (rank_of kind n w)
      road-walk r = record { each = r.turns; arrives = moves_walk ks s r.turns hs ∙ ap (rank_of kind n) r.arrives }

      pub walk-road : is_stack kind n w ≡ true → Walk moves (child_at kind n) ks (rank_of kind n s) (rank_of kind n w)
          → RoadBy kind n (is_move moves) ks s w
      walk-road hw r =
          record {
            turns = r.each;
            arrives = rank-injective kind n (moves_from kind n ks s) w in-range (moves-stack kind n in-range laws.turns ks s r.each hs) hw
                (sym (moves_walk ks s r.each hs) ∙ r.arrives);
          }

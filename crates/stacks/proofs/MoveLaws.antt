-- Laws of a move, which is opened here alone: it keeps the length, leads from a stack to a stack, is undone by a move, and acts on places only;
-- and the same for moves one after the other, with a road back by what undoes them, from the last to the first.
use mathlib.Core.Path.{◌≡◌, refl, sym, ap, ◌∙◌}
use mathlib.Core.Bool.{Bool, true}
use mathlib.Core.List.{List, [], ◌∷◌, ◌++◌, map, reverse, reverse-cons}
use Prim.Native.Nat.{ℕ, ◌<◌}
use native.Mathlib.Nat.{le_trans}
use lib.IntN.{ℤ}
use lib.ListN.{length}
use Rattle.base.proofs.Tests.{and_left, and_right, and_both}
use Rattle.base.proofs.Lists.{map-append}
use Rattle.base.proofs.Counting.{all-reverse, all_map}
use Rattle.base.specs.Words.{all}
use Rattle.stacks.specs.Stack.{is_pane_count, is_stack}
use Rattle.stacks.specs.Turn.{is_turn, lifts, is_group_set, undo_of, UndoesItself, flip, turn_of, move_of, moves_from, RoadBy}
use Rattle.stacks.proofs.KindLaws.{panes-twelve}
use Rattle.stacks.proofs.Panes.{stack-facts}
use Rattle.stacks.proofs.TurnLaws.{turn-panes, turn-length, turn-involutive, turn-rename, turn-stack}

-- plain and coated turns undo themselves
pub undoes-itself : (kind : ℕ) → kind < 2 → UndoesItself kind
unfolding undo_of
undoes-itself kind low k = refl

module _ (kind n : ℕ) where
  -- where each move undoes itself, they are turns
  pub move-is-turn : UndoesItself kind → (k : ℕ) (s : List ℤ) → move_of kind n k s ≡ turn_of kind k s
  unfolding move_of
  move-is-turn itself k s = refl

  -- move 0 is none
  pub move-none : (s : List ℤ) → move_of kind n 0 s ≡ s
  unfolding move_of turn_of
  move-none s = refl

  pub move-length : (k : ℕ) (s : List ℤ) → length (move_of kind n k s) ≡ length s
  unfolding move_of
  move-length = turn-length kind

  -- moves act on places, so they commute with a renaming of panes
  pub move-rename : (f : ℤ → ℤ) → ((x : ℤ) → f (flip kind x) ≡ flip kind (f x)) → (k : ℕ) (s : List ℤ)
      → map f (move_of kind n k s) ≡ move_of kind n k (map f s)
  unfolding move_of
  move-rename = turn-rename kind

  pub moves-append : (js ks : List ℕ) (s : List ℤ) → moves_from kind n (js ++ ks) s ≡ moves_from kind n ks (moves_from kind n js s)
  unfolding moves_from
  moves-append [] ks s = refl
  moves-append (j ∷ js) ks s = moves-append js ks (move_of kind n j s)

  pub moves-length : (ks : List ℕ) (s : List ℤ) → length (moves_from kind n ks s) ≡ length s
  unfolding moves_from
  moves-length [] s = refl
  moves-length (k ∷ ks) s = moves-length ks (move_of kind n k s) ∙ move-length k s

module _ (kind n : ℕ) (in-range : is_pane_count kind n ≡ true) where
  -- a move of a stack is a stack
  pub move-stack : (k : ℕ) (s : List ℤ) → is_turn kind n k ≡ true → is_stack kind n s ≡ true → is_stack kind n (move_of kind n k s) ≡ true
  unfolding move_of
  move-stack k s t h = turn-stack kind n in-range k s (turn-panes kind n in-range k t) h

  -- what undoes a move is a move, of the same set, and takes the stack back
  pub undo-move : (k : ℕ) → is_turn kind n k ≡ true → is_turn kind n (undo_of kind k) ≡ true
  unfolding undo_of
  undo-move k t = t

  pub undo-lifted : (groups k : ℕ) → is_group_set kind n groups ≡ true → is_turn kind n k ≡ true → lifts groups k ≡ true
      → lifts groups (undo_of kind k) ≡ true
  unfolding undo_of
  undo-lifted groups k set t l = l

  pub move-undone : (k : ℕ) (s : List ℤ) → is_turn kind n k ≡ true → is_stack kind n s ≡ true → move_of kind n (undo_of kind k) (move_of kind n k s) ≡ s
  unfolding move_of undo_of
  move-undone k s t h =
      turn-involutive kind k s (rw (stack-facts kind n s h).twelve (le_trans (turn-panes kind n in-range k t) (panes-twelve kind n in-range)))

  module _ {is_move : ℕ → Bool} (turns : (k : ℕ) → is_move k ≡ true → is_turn kind n k ≡ true) where
    pub moves-stack : (ks : List ℕ) (s : List ℤ) → all is_move ks ≡ true → is_stack kind n s ≡ true → is_stack kind n (moves_from kind n ks s) ≡ true
    unfolding moves_from all
    moves-stack [] s t h = h
    moves-stack (k ∷ ks) s t h =
        moves-stack ks (move_of kind n k s) (and_right (is_move k) (all is_move ks) t)
        (move-stack k s (turns k (and_left (is_move k) (all is_move ks) t)) h)

    moves-back : (ks : List ℕ) (s : List ℤ) → all is_move ks ≡ true → is_stack kind n s ≡ true
        → moves_from kind n (map (undo_of kind) (reverse ks)) (moves_from kind n ks s) ≡ s
    unfolding moves_from all
    moves-back [] s t h = refl
    moves-back (k ∷ ks) s t h =
        let turn : is_turn kind n k ≡ true = turns k (and_left (is_move k) (all is_move ks) t) in
        rw (
          reverse-cons k ks,
          map-append (undo_of kind) (reverse ks) (k ∷ []),
          moves-append kind n (map (undo_of kind) (reverse ks)) (undo_of kind k ∷ []),
        )
        (ap (move_of kind n (undo_of kind k))
        (moves-back ks (move_of kind n k s) (and_right (is_move k) (all is_move ks) t) (move-stack k s turn h))
        ∙ move-undone k s turn h)

    -- where what undoes a move is one too
    module _ (undone : (k : ℕ) → is_move k ≡ true → is_move (undo_of kind k) ≡ true) where
      each-undone : (ks : List ℕ) → all is_move ks ≡ true → all (λ k. is_move (undo_of kind k)) ks ≡ true
      unfolding all
      each-undone [] t = refl
      each-undone (k ∷ ks) t =
          and_both (is_move (undo_of kind k)) (all (λ j. is_move (undo_of kind j)) ks)
          (undone k (and_left (is_move k) (all is_move ks) t))
          (each-undone ks (and_right (is_move k) (all is_move ks) t))

      pub road-back : {ks : List ℕ} {s w : List ℤ} → is_stack kind n s ≡ true → RoadBy kind n is_move ks s w
          → RoadBy kind n is_move (map (undo_of kind) (reverse ks)) w s
      road-back {ks} {s} {w} h r =
          record {
            turns = all_map is_move (undo_of kind) (reverse ks) ∙ all-reverse (λ k. is_move (undo_of kind k)) ks ∙ each-undone ks r.turns;
            arrives = ap (moves_from kind n (map (undo_of kind) (reverse ks))) (sym r.arrives) ∙ moves-back ks s r.turns h;
          }

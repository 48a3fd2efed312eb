-- The numbering, the bound on turns, and what undoes a move and renames its panes: each theorem with its own quantifiers.
use mathlib.Core.Path.{◌≡◌}
use mathlib.Core.Bool.{true}
use mathlib.Core.List.{List, [], ◌∷◌, map}
use Prim.Native.Nat.{ℕ, ◌≤◌, ◌<◌}
use lib.Dec.{ltb}
use lib.IntN.{ℤ, pos}
use lib.ListN.{length, get_or, take}
use Rattle.base.specs.Words.{from}
use Rattle.stacks.specs.Index.{rank_of, stack_at, all_stacks}
use Rattle.stacks.specs.Order.{precedes}
use Rattle.stacks.specs.Stack.{is_pane_count, is_stack, stack_count, ordered}
use Rattle.stacks.specs.Turn.{is_turn, undo_of, flip, move_of, Road, turn_bound}
use Rattle.stacks.proofs.MoveLaws
use Rattle.stacks.proofs.Numbering
use Rattle.stacks.proofs.Panes
use Rattle.stacks.proofs.TurnBound
use Rattle.search.proofs.AllStacks

-- the index is the lexicographic place of a stack, and stack and index undo each other
rank-order : (kind n : ℕ) (a b : List ℤ) → is_pane_count kind n ≡ true → is_stack kind n a ≡ true → is_stack kind n b ≡ true
    → precedes n a b ≡ ltb (rank_of kind n a) (rank_of kind n b)
rank-order = Numbering.rank-order

unrank-rank : (kind n : ℕ) (s : List ℤ) → is_pane_count kind n ≡ true → is_stack kind n s ≡ true → stack_at kind n (rank_of kind n s) ≡ s
unrank-rank = Numbering.unrank-rank

rank-unrank : (kind n i : ℕ) → is_pane_count kind n ≡ true → i < stack_count kind n → rank_of kind n (stack_at kind n i) ≡ i
rank-unrank = Numbering.rank-unrank

-- 123, 132, 213, 231, 312, 321 are 0 to 5
plain-three : map (λ i. take 3 (stack_at 0 3 i)) (from 0 6)
    ≡ (pos 1 ∷ pos 2 ∷ pos 3 ∷ []) ∷ (pos 1 ∷ pos 3 ∷ pos 2 ∷ []) ∷ (pos 2 ∷ pos 1 ∷ pos 3 ∷ []) ∷ (pos 2 ∷ pos 3 ∷ pos 1 ∷ [])
    ∷ (pos 3 ∷ pos 1 ∷ pos 2 ∷ []) ∷ (pos 3 ∷ pos 2 ∷ pos 1 ∷ []) ∷ []
plain-three = Numbering.plain-three

-- the ordered stack is a stack of every kind and n
ordered-stack : (kind n : ℕ) → is_pane_count kind n ≡ true → is_stack kind n (ordered n) ≡ true
ordered-stack = Panes.ordered-stack

-- in the list that counts are tallied over, each stack stands at its index, and nowhere else
module _ (kind n : ℕ) (s : List ℤ) (in-range : is_pane_count kind n ≡ true) where
  all-stacks-each : is_stack kind n s ≡ true → get_or (all_stacks kind n) (rank_of kind n s) [] ≡ s
  all-stacks-each = AllStacks.all-stacks-each kind n s in-range

  all-stacks-once : (v : ℕ) → v < stack_count kind n → get_or (all_stacks kind n) v [] ≡ s → v ≡ rank_of kind n s
  all-stacks-once = AllStacks.all-stacks-once kind n s in-range

-- plain and coated turns undo themselves, and any stack leads to any other in at most 2 (n - 1) turns if plain, 3 n if coated
undoes-itself : (kind k : ℕ) → kind < 2 → undo_of kind k ≡ k
undoes-itself kind k low = MoveLaws.undoes-itself kind low k

road-bound : (kind n : ℕ) → kind < 2 → is_pane_count kind n ≡ true → (s w : List ℤ) → is_stack kind n s ≡ true → is_stack kind n w ≡ true
    → (ks : List ℕ) × Road kind n ks s w × (length ks ≤ turn_bound kind n)
road-bound kind n low in-range = TurnBound.road-bound kind n in-range (MoveLaws.undoes-itself kind low)

-- a move commutes with a renaming of panes, and what undoes it takes the stack back
move-rename : (kind n : ℕ) (f : ℤ → ℤ) → ((x : ℤ) → f (flip kind x) ≡ flip kind (f x)) → (k : ℕ) (s : List ℤ)
    → map f (move_of kind n k s) ≡ move_of kind n k (map f s)
move-rename = MoveLaws.move-rename

move-undone : (kind n : ℕ) → is_pane_count kind n ≡ true → (k : ℕ) (s : List ℤ) → is_turn kind n k ≡ true → is_stack kind n s ≡ true
    → move_of kind n (undo_of kind k) (move_of kind n k s) ≡ s
move-undone = MoveLaws.move-undone

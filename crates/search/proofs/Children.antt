-- Laws of `children_of`: the children of an index are where its moves lead, and nothing else.
use mathlib.Core.Path.{◌≡◌, refl, sym, ap, ◌∙◌, subst}
use mathlib.Core.Bool.{true}
use mathlib.Core.List.{List, ◌∷◌, map}
use Prim.Native.Nat.{ℕ, ◌<◌}
use lib.IntN.{ℤ}
use lib.ListN.{length, get_or, length-map}
use Rattle.graph.specs.Walks.{is_move}
use Rattle.graph.proofs.Moves.{move-listed, listed-move}
use Rattle.base.proofs.Lists.{get_d_map}
use Rattle.stacks.specs.Index.{rank_of, stack_at}
use Rattle.stacks.specs.Stack.{is_pane_count, stack_count}
use Rattle.stacks.specs.Turn.{move_of}
use Rattle.search.specs.Expand.{children_of}
use Rattle.search.proofs.Turning.{child_at, Moves, move-graph}

module _ (kind n : ℕ) (moves : List ℕ) (v : ℕ) where
  pub children-are : children_of kind n moves v ≡ map (λ k. child_at kind n k v) moves
  unfolding children_of child_at
  children-are = refl

  -- the first of them, as code makes it
  pub children-next : (k : ℕ) (later : List ℕ) → moves ≡ k ∷ later → (stack : List ℤ) → stack ≡ stack_at kind n v
      → (r : ℕ) → r ≡ rank_of kind n (move_of kind n k stack) → children_of kind n moves v ≡ r ∷ children_of kind n later v
  unfolding children_of
  children-next k later e stack is r made = rw (e, made, is)

  pub children-length : length (children_of kind n moves v) ≡ length moves
  children-length = ap length children-are ∙ length-map moves (λ k. child_at kind n k v)

  pub children-at : (i : ℕ) → i < length moves → get_or (children_of kind n moves v) i 0 ≡ child_at kind n (get_or moves i 0) v
  children-at i h = ap (λ (l : List ℕ). get_or l i 0) children-are ∙ get_d_map (λ k. child_at kind n k v) moves i 0 0 h

  pub child-listed : (k : ℕ) → is_move moves k ≡ true
      → (i : ℕ) × (i < length (children_of kind n moves v)) × (get_or (children_of kind n moves v) i 0 ≡ child_at kind n k v)
  child-listed k m =
      let r = move-listed moves k m in
      (r.0, rw children-length r.1, children-at r.0 r.1 ∙ ap (λ (j : ℕ). child_at kind n j v) r.2)

  pub listed-child : (i : ℕ) → i < length (children_of kind n moves v)
      → (k : ℕ) × (is_move moves k ≡ true) × (get_or (children_of kind n moves v) i 0 ≡ child_at kind n k v)
  listed-child i h = let l : i < length moves = rw children-length at h in (get_or moves i 0, listed-move moves i l, children-at i l)

  pub children-inside : is_pane_count kind n ≡ true → Moves kind n moves → v < stack_count kind n → (i : ℕ) → i < length (children_of kind n moves v)
      → get_or (children_of kind n moves v) i 0 < stack_count kind n
  children-inside in-range laws h i l =
      let c = listed-child i l in
      subst (λ (u : ℕ). u < stack_count kind n) (sym c.2) ((move-graph kind n in-range laws).inside c.0 v c.1 h)

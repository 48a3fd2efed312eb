-- The rows of refusals of the operations on stacks, and what holds where one refuses nothing.
use mathlib.Core.Path.{◌≡◌, refl}
use mathlib.Core.Bool.{true}
use mathlib.Core.List.{List}
use Prim.Native.Nat.{ℕ, ◌<◌}
use lib.IntN.{ℤ}
use Rattle.base.specs.Words.{unless}
use Rattle.base.proofs.Rows.{Row, check, below, ◌and_then◌}
use Rattle.stacks.specs.Operations.{kind_refusal, index_refusal, stack_refusal, turn_refusal}
use Rattle.stacks.specs.Stack.{is_kind, is_pane_count, is_stack, stack_count}
use Rattle.stacks.specs.Turn.{is_turn}

module _ (kind n : ℕ) where
  pub kind_row : Row (kind_refusal kind n) ((is_kind kind ≡ true) × (is_pane_count kind n ≡ true))
  unfolding kind_refusal
  kind_row = check (is_kind kind) 1 refl and_then check (is_pane_count kind n) 2 refl

  -- the kind and n, and then a stack
  pub stack-row : (s : List ℤ)
      → Row (λ rest. kind_refusal kind n (unless (is_stack kind n s) 3 rest)) (((is_kind kind ≡ true) × (is_pane_count kind n ≡ true)) × (is_stack kind n s ≡ true))
  stack-row s = kind_row and_then check (is_stack kind n s) 3 refl

  pub index-passes : (s : List ℤ) → index_refusal kind n s ≡ 0 → (is_pane_count kind n ≡ true) × (is_stack kind n s ≡ true)
  unfolding index_refusal
  index-passes s h = let f = (stack-row s).asks h in (f.0.1, f.1)

  pub stack-passes : (i : ℕ) → stack_refusal kind n i ≡ 0 → (is_pane_count kind n ≡ true) × (i < stack_count kind n)
  unfolding stack_refusal
  stack-passes i h = let f = (kind_row and_then below i (stack_count kind n) 4 refl).asks h in (f.0.1, f.1)

  pub turn-passes : (s : List ℤ) (k : ℕ) → turn_refusal kind n s k ≡ 0
      → (is_pane_count kind n ≡ true) × (is_stack kind n s ≡ true) × (is_turn kind n k ≡ true)
  unfolding turn_refusal
  turn-passes s k h = let f = (stack-row s and_then check (is_turn kind n k) 4 refl).asks h in (f.0.0.1, f.0.1, f.1)

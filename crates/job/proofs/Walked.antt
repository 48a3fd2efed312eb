-- A stack that is unranked.
use mathlib.Core.Path.{◌≡◌, sym, ap, ◌∙◌}
use mathlib.Core.Bool.{true}
use mathlib.Core.List.{List}
use Prim.Native.Nat.{ℕ, ◌<◌}
use lib.IntN.{ℤ}
use Rattle.stacks.specs.Index.{rank_of, stack_at}
use Rattle.stacks.specs.Stack.{is_pane_count, is_stack, stack_count}
use Rattle.stacks.proofs.Numbering.{unrank-stack, rank-unrank}

-- the stack at an index, as unrank gives it
pub unranked : (kind n v : ℕ) → is_pane_count kind n ≡ true → v < stack_count kind n → {stack : List ℤ} → stack ≡ stack_at kind n v
    → (is_stack kind n stack ≡ true) × (v ≡ rank_of kind n stack)
unranked kind n v in-range h e =
    (ap (is_stack kind n) e ∙ unrank-stack kind n v in-range h, sym (ap (rank_of kind n) e ∙ rank-unrank kind n v in-range h))

-- Laws of `all_stacks`: every stack stands there once, at the place of its index; a test of indexes counts the stacks that it tells.
use mathlib.Core.Path.{◌≡◌, sym, ap, ◌∙◌}
use mathlib.Core.Bool.{Bool, true}
use mathlib.Core.List.{List, []}
use Prim.Native.Nat.{ℕ, ◌<◌}
use native.Mathlib.Nat.{zero-add}
use lib.IntN.{ℤ}
use lib.ListN.{length, get_or, length-map}
use Rattle.base.specs.Words.{tally, from}
use Rattle.base.proofs.Counting.{tally-map}
use Rattle.base.proofs.Lists.{from-length, get_or-from, get_d_map}
use Rattle.base.proofs.Tests.{same_test}
use Rattle.graph.proofs.Tally.{tally-same}
use Rattle.stacks.specs.Counts.{TellsWhere, CountsWhere}
use Rattle.stacks.specs.Stack.{is_pane_count, is_stack, stack_count}
use Rattle.stacks.specs.Index.{rank_of, stack_at, all_stacks}
use Rattle.stacks.proofs.Numbering.{rank_lt, unrank-stack, unrank-rank, rank-unrank}

pub all-stacks-length : (kind n : ℕ) → length (all_stacks kind n) ≡ stack_count kind n
unfolding all_stacks
all-stacks-length kind n = length-map (from 0 (stack_count kind n)) (stack_at kind n) ∙ from-length 0 (stack_count kind n)

-- at each place stands the stack of that index
pub all-stacks-at : (kind n v : ℕ) → v < stack_count kind n → get_or (all_stacks kind n) v [] ≡ stack_at kind n v
unfolding all_stacks
all-stacks-at kind n v h =
    get_d_map (stack_at kind n) (from 0 (stack_count kind n)) v 0 [] (rw (from-length 0 (stack_count kind n)) h)
    ∙ ap (stack_at kind n) (get_or-from 0 (stack_count kind n) v 0 h ∙ zero-add v)

module _ (kind n : ℕ) (s : List ℤ) (in-range : is_pane_count kind n ≡ true) where
  -- a stack stands at the place of its index, and at no other
  pub all-stacks-each : is_stack kind n s ≡ true → get_or (all_stacks kind n) (rank_of kind n s) [] ≡ s
  all-stacks-each h = all-stacks-at kind n (rank_of kind n s) (rank_lt kind n s in-range h) ∙ unrank-rank kind n s in-range h

  pub all-stacks-once : (v : ℕ) → v < stack_count kind n → get_or (all_stacks kind n) v [] ≡ s → v ≡ rank_of kind n s
  all-stacks-once v h e = sym (rank-unrank kind n v in-range h) ∙ ap (rank_of kind n) (sym (all-stacks-at kind n v h) ∙ e)

-- a test of indexes that tells the stacks with a property counts them
module _ (kind n : ℕ) (in-range : is_pane_count kind n ≡ true) {property : List ℤ → Type 0} (f : ℕ → Bool)
    (told : TellsWhere kind n property (λ s. f (rank_of kind n s))) where
  tally-told : (test : List ℤ → Bool) → TellsWhere kind n property test → tally f (from 0 (stack_count kind n)) ≡ tally test (all_stacks kind n)
  unfolding all_stacks
  tally-told test tells =
      sym (
      tally-map test (stack_at kind n) (from 0 (stack_count kind n))
      ∙ tally-same (λ v. test (stack_at kind n v)) f (stack_count kind n) same
      )
    where
      same : (v : ℕ) → v < stack_count kind n → test (stack_at kind n v) ≡ f v
      same v h =
          let s : List ℤ = stack_at kind n v in
          let stack : is_stack kind n s ≡ true = unrank-stack kind n v in-range h in
          let here : f (rank_of kind n s) ≡ f v = ap f (rank-unrank kind n v in-range h) in
          same_test (test s) (f v)
          (λ t. sym here ∙ told.every s stack (tells.only s stack t))
          (λ t. tells.every s stack (told.only s stack (here ∙ t)))

  pub told-counts : (count : ℕ) → count ≡ tally f (from 0 (stack_count kind n)) → CountsWhere kind n property count
  told-counts count e =
      record { test = λ s. f (rank_of kind n s); tells = told; tallied = λ other tells. e ∙ tally-told other tells }

-- What numbers say of a kind depends on whether it is coated alone: so `Panes::like` of any number says what the definitions say of that number.
use mathlib.Core.Path.{◌≡◌, ap}
use mathlib.Core.Bool.{Bool, cond}
use mathlib.Core.List.{List, map, reverse, ◌++◌}
use lib.ListN.{take, drop}
use Prim.Native.Nat.{ℕ}
use lib.IntN.{ℤ, neg_ℤ}
use Rattle.stacks.specs.Index.{rank_of, stack_at}
use Rattle.stacks.specs.Stack.{is_coated, fewest_panes, most_panes, is_pane_count, coatings, stack_count, is_stack}
use Rattle.stacks.specs.Turn.{first_turn, last_turn, is_turn, flip, turn_of, move_of, turns_of, is_group_set, turns_in, all_groups}

module _ (a b : ℕ) (e : is_coated a ≡ is_coated b) where
  most-as : most_panes a ≡ most_panes b
  unfolding most_panes
  most-as = rw e

  pub first-as : first_turn a ≡ first_turn b
  unfolding first_turn
  first-as = rw e

  coatings-as : (n : ℕ) → coatings a n ≡ coatings b n
  unfolding coatings
  coatings-as n = rw e

  turn-as : (k : ℕ) (s : List ℤ) → turn_of a k s ≡ turn_of b k s
  unfolding turn_of flip
  turn-as k s = ap (λ (t : Bool). map (λ (x : ℤ). cond t (neg_ℤ x) x) (reverse (take k s)) ++ drop k s) e

module _ (a b m n : ℕ) (e : is_coated a ≡ is_coated b) (f : m ≡ n) where
  pub panes-as : is_pane_count a m ≡ is_pane_count b n
  unfolding is_pane_count fewest_panes
  panes-as = rw (most-as a b e, f)

  pub count-as : stack_count a m ≡ stack_count b n
  unfolding stack_count
  count-as = rw (f, coatings-as a b e n)

  pub stack-as : (s : List ℤ) → is_stack a m s ≡ is_stack b n s
  unfolding is_stack
  stack-as s = rw (e, f)

  pub rank-as : (s : List ℤ) → rank_of a m s ≡ rank_of b n s
  unfolding rank_of
  rank-as s = rw (f, coatings-as a b e n)

  pub at-as : (i : ℕ) → stack_at a m i ≡ stack_at b n i
  unfolding stack_at
  at-as i = rw (f, coatings-as a b e n)

  pub is_turn-as : (k : ℕ) → is_turn a m k ≡ is_turn b n k
  unfolding is_turn last_turn
  is_turn-as k = rw (first-as a b e, f)

  pub move-as : (k : ℕ) (s : List ℤ) → move_of a m k s ≡ move_of b n k s
  unfolding move_of
  move-as k s = turn-as a b e k s

  turns-as : turns_of a m ≡ turns_of b n
  unfolding turns_of last_turn
  turns-as = rw (first-as a b e, f)

  pub set-as : (groups : ℕ) → is_group_set a m groups ≡ is_group_set b n groups
  unfolding is_group_set is_turn last_turn
  set-as groups = rw (turns-as, first-as a b e, f)

  pub named-as : (groups : ℕ) → turns_in a m groups ≡ turns_in b n groups
  unfolding turns_in
  named-as groups = rw turns-as

  pub all-as : all_groups a m ≡ all_groups b n
  unfolding all_groups
  all-as = rw turns-as

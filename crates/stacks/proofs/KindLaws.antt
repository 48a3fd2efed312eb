-- Laws of kinds: the range of n, and that every count of stacks fits 32 bits.
use mathlib.Core.Path.{◌≡◌}
use mathlib.Core.Bool.{Bool, true, false, cond}
use Prim.Native.Nat.{ℕ, ◌*◌, ◌^◌, ◌≤◌, ◌<◌}
use native.Mathlib.Nat.{le_refl, mul-le-mul, lt_of_le_of_lt, mul-pos}
use native.Mathlib.Omega.{arith}
use lib.Dec.{leb, lit<}
use lib.Pow.{pow_mono, pow_pos}
use borrow.Author.Tests.{leb-true, ltb-true}
use Rattle.base.specs.Words.{fact}
use Rattle.base.proofs.Numbers.{fact_mono, fact-pos}
use Rattle.base.proofs.Tests.{and_left, and_right}
use Rattle.stacks.specs.Stack.{is_kind, is_pane_count, is_coated, fewest_panes, most_panes, coatings, stack_count}

pub kind-low : (kind : ℕ) → is_kind kind ≡ true → kind < 2
unfolding is_kind
kind-low kind h = ltb-true kind 2 h

pub panes-least : (kind n : ℕ) → is_pane_count kind n ≡ true → 1 ≤ n
unfolding is_pane_count fewest_panes
panes-least kind n h = leb-true 1 n (and_left (leb 1 n) (leb n (most_panes kind)) h)

pub panes-most : (kind n : ℕ) → is_pane_count kind n ≡ true → n ≤ most_panes kind
unfolding is_pane_count fewest_panes
panes-most kind n h = leb-true n (most_panes kind) (and_right (leb 1 n) (leb n (most_panes kind)) h)

pub most-twelve : (kind : ℕ) → most_panes kind ≤ 12
unfolding most_panes
most-twelve kind = go (is_coated kind)
  where
    go : (t : Bool) → cond t 10 12 ≤ 12
    go true = omega arith
    go false = omega arith

pub panes-twelve : (kind n : ℕ) → is_pane_count kind n ≡ true → n ≤ 12
panes-twelve kind n h = omega (arith, panes-most kind n h, most-twelve kind)

pub coatings-pos : (kind n : ℕ) → 0 < coatings kind n
unfolding coatings
coatings-pos kind n = go (is_coated kind)
  where
    go : (t : Bool) → 0 < cond t (2 ^ n) 1
    go true = pow_pos n
    go false = omega arith

pub coatings-le : (kind n : ℕ) → coatings kind n ≤ 2 ^ n
unfolding coatings
coatings-le kind n = go (is_coated kind)
  where
    go : (t : Bool) → cond t (2 ^ n) 1 ≤ 2 ^ n
    go true = le_refl (2 ^ n)
    go false = pow_pos n

pub count-pos : (kind n : ℕ) → 0 < stack_count kind n
unfolding stack_count
count-pos kind n = mul-pos (fact-pos n) (coatings-pos kind n)

-- the largest counts are 12! and 10! × 2^10
count_at : (t : Bool) (n : ℕ) → n ≤ cond t 10 12 → fact n * cond t (2 ^ n) 1 < 2 ^ 32
unfolding fact
count_at true n h = lt_of_le_of_lt (mul-le-mul (fact_mono n 10 h) (pow_mono h)) (lit< tt)
count_at false n h = lt_of_le_of_lt (mul-le-mul (fact_mono n 12 h) (le_refl 1)) (lit< tt)

pub count_fits : (kind n : ℕ) → is_pane_count kind n ≡ true → stack_count kind n < 2 ^ 32
unfolding stack_count coatings most_panes
count_fits kind n h = count_at (is_coated kind) n (panes-most kind n h)

-- The numbering of stacks: an index is below their count, is lexicographic, tells stacks apart, and stack and index undo each other.
use mathlib.Core.Path.{◌≡◌, refl, sym, ap, ◌∙◌}
use mathlib.Core.Bool.{Bool, true, false, ◌||◌, cond}
use mathlib.Core.List.{List, [], ◌∷◌, ◌++◌, map}
use Prim.Native.Nat.{ℕ, suc, ◌+◌, ◌-◌, ◌*◌, ◌/◌, ◌%◌, ◌^◌, ◌≤◌, ◌<◌}
use native.Mathlib.Nat.{le_of_eq, lt_of_lt_of_le, div-lt_iff_lt-mul, mod-lt, mod-one, mod-eq_of_lt, div-add-mod'}
use native.Mathlib.Omega.{arith}
use lib.Arith.{digits_lt}
use lib.Dec.{ltb}
use lib.IntN.{ℤ, pos, nat_abs}
use lib.ListN.{length, take, drop, replicate, length-append, length-map, length-drop, length-replicate, take-append-drop}
use lib.Seq.{length-take-le, take_at, drop_at}
use lib.Signed.{non_neg}
use borrow.Author.Tests.{le-ltb}
use Rattle.base.specs.Words.{all, fact, from, without}
use Rattle.base.proofs.Lists.{from-length}
use Rattle.base.proofs.Counting.{all_append, all_take, all_replicate}
use Rattle.stacks.specs.Stack.{is_coated, is_pane_count, is_unused, order_of, is_stack, coatings, stack_count}
use Rattle.stacks.specs.Index.{smaller, coat, coat_bits, rank_of, order_at, pane_with, coated_by, stack_at}
use Rattle.stacks.specs.Order.{precedes}
use Rattle.stacks.proofs.KindLaws.{panes-twelve, coatings-pos, coatings-le}
use Rattle.stacks.proofs.Panes.{stack-facts, facts-stack, smaller-from, once-smaller, smaller-once}
use Rattle.stacks.proofs.OrderLaws.{lehmer, lehmer-lt, rank_from-is, lehmer-order, lex_less-connex, from-rising, order-length, order-panes, order-lehmer}
use Rattle.stacks.proofs.CoatLaws.{coat_bits-lt, coat_bits-plain, coat_bits-order, panes-same, coated-length, coated-order, coated-bits, coated-plain, unused-zero}

-- ---- the index of a stack

module _ (kind n : ℕ) (s : List ℤ) (in-range : is_pane_count kind n ≡ true) (h : is_stack kind n s ≡ true) where
  pub panes-length : length (take n s) ≡ n
  panes-length = length-take-le n s (rw (stack-facts kind n s h).twelve (panes-twelve kind n in-range))

  pub order-of-length : length (order_of n s) ≡ n
  unfolding order_of
  order-of-length = length-map (take n s) nat_abs ∙ panes-length

  whole_length : length (order_of n s ++ map coat (take n s)) ≡ n + n
  whole_length = rw (length-append (order_of n s) (map coat (take n s)), order-of-length, length-map (take n s) coat, panes-length)

  -- a stack's order holds the panes 1 to n
  pub stack-panes : (x : ℕ) → smaller x (order_of n s) ≡ smaller x (from 1 n)
  stack-panes = once-smaller n (order_of n s) (stack-facts kind n s h).once order-of-length

  -- a stack is its panes, and zeros to twelve places
  pub stack_is : s ≡ take n s ++ replicate (12 - n) (pos 0)
  stack_is =
      let f = stack-facts kind n s h in
      let zeros : drop n s ≡ replicate (length (drop n s)) (pos 0) = unused-zero (drop n s) f.unused in
      sym (take-append-drop n s) ∙ ap (λ l. take n s ++ l) (zeros ∙ ap (λ m. replicate m (pos 0)) (length-drop n s ∙ ap (λ m. m - n) f.twelve))

  pub coat_bits-below : coat_bits (take n s) < coatings kind n
  unfolding coatings
  coat_bits-below = go (is_coated kind) (stack-facts kind n s h).coats
    where
      go : (t : Bool) → (t || all non_neg s) ≡ true → coat_bits (take n s) < cond t (2 ^ n) 1
      go true e = rw panes-length at (coat_bits-lt (take n s))
      go false e = le_of_eq (ap suc (coat_bits-plain (take n s) (all_take non_neg n s e)))

  pub rank_is : rank_of kind n s ≡ lehmer (order_of n s) * coatings kind n + coat_bits (take n s)
  unfolding rank_of
  rank_is = rw (rank_from-is n (order_of n s) stack-panes)

  pub rank_lt : rank_of kind n s < stack_count kind n
  unfolding stack_count
  rank_lt = rw rank_is (digits_lt (rw order-of-length at (lehmer-lt (order_of n s))) coat_bits-below)

-- the index orders stacks as their orders and then their coats do
pub rank-order : (kind n : ℕ) (a b : List ℤ) → is_pane_count kind n ≡ true → is_stack kind n a ≡ true → is_stack kind n b ≡ true
    → precedes n a b ≡ ltb (rank_of kind n a) (rank_of kind n b)
unfolding precedes
rank-order kind n a b in-range ha hb =
    rw (rank_is kind n a in-range ha, rank_is kind n b in-range hb)
    (lehmer-order (order_of n a) (order_of n b) (λ x. stack-panes kind n a in-range ha x ∙ sym (stack-panes kind n b in-range hb x))
    (order-of-length kind n a in-range ha ∙ sym (order-of-length kind n b in-range hb))
    (map coat (take n a)) (map coat (take n b)) (coatings kind n) (coat_bits (take n a)) (coat_bits (take n b))
    (coat_bits-below kind n a in-range ha) (coat_bits-below kind n b in-range hb)
    (coat_bits-order (take n a) (take n b) (panes-length kind n a in-range ha ∙ sym (panes-length kind n b in-range hb))))

pub rank-injective : (kind n : ℕ) (a b : List ℤ) → is_pane_count kind n ≡ true → is_stack kind n a ≡ true → is_stack kind n b ≡ true
    → rank_of kind n a ≡ rank_of kind n b → a ≡ b
unfolding precedes order_of
rank-injective kind n a b in-range ha hb e =
    let coats : List ℤ → List ℕ = λ s. map coat (take n s) in
    let same : order_of n a ++ coats a ≡ order_of n b ++ coats b =
    lex_less-connex (order_of n a ++ coats a) (order_of n b ++ coats b) (whole_length kind n a in-range ha ∙ sym (whole_length kind n b in-range hb))
    (rank-order kind n a b in-range ha hb ∙ le-ltb (rank_of kind n a) (rank_of kind n b) (le_of_eq (sym e)))
    (rank-order kind n b a in-range hb ha ∙ le-ltb (rank_of kind n b) (rank_of kind n a) (le_of_eq e)) in
    let la : length (order_of n a) ≡ n = order-of-length kind n a in-range ha in
    let lb : length (order_of n b) ≡ n = order-of-length kind n b in-range hb in
    let panes : take n a ≡ take n b =
    panes-same (take n a) (take n b)
    (sym (take_at (order_of n a) (coats a) n la) ∙ ap (take n) same ∙ take_at (order_of n b) (coats b) n lb)
    (sym (drop_at (order_of n a) (coats a) n la) ∙ ap (drop n) same ∙ drop_at (order_of n b) (coats b) n lb) in
    stack_is kind n a in-range ha ∙ ap (λ l. l ++ replicate (12 - n) (pos 0)) panes ∙ sym (stack_is kind n b in-range hb)

-- ---- the stack at an index

-- its order, and its panes with their coats
abbrev order_for : ℕ → ℕ → ℕ → List ℕ
order_for kind n i = order_at n (from 1 n) (i / coatings kind n)

abbrev panes_for : ℕ → ℕ → ℕ → List ℤ
panes_for kind n i = coated_by (order_for kind n i) (i % coatings kind n)

module _ (kind n i : ℕ) where
  panes-for-length : length (panes_for kind n i) ≡ n
  panes-for-length = coated-length (order_for kind n i) (i % coatings kind n) ∙ order-length n (from 1 n) (i / coatings kind n)

  panes-at : take n (stack_at kind n i) ≡ panes_for kind n i
  unfolding stack_at
  panes-at = take_at (panes_for kind n i) (replicate (12 - n) (pos 0)) n panes-for-length

  unused-at : drop n (stack_at kind n i) ≡ replicate (12 - n) (pos 0)
  unfolding stack_at
  unused-at = drop_at (panes_for kind n i) (replicate (12 - n) (pos 0)) n panes-for-length

  order-at : order_of n (stack_at kind n i) ≡ order_for kind n i
  unfolding order_of
  order-at = ap (map nat_abs) panes-at ∙ coated-order (order_for kind n i) (i % coatings kind n)

  length_at : n ≤ 12 → length (stack_at kind n i) ≡ 12
  unfolding stack_at
  length_at h =
      rw (length-append (panes_for kind n i) (replicate (12 - n) (pos 0)), panes-for-length, length-replicate (12 - n) (pos 0)) (omega arith)

  coats-at : (is_coated kind || all non_neg (stack_at kind n i)) ≡ true
  unfolding stack_at coatings
  coats-at = go (is_coated kind) (order_for kind n i)
    where
      go : (t : Bool) (order : List ℕ) → (t || all non_neg (coated_by order (i % cond t (2 ^ n) 1) ++ replicate (12 - n) (pos 0))) ≡ true
      go true order = refl
      go false order =
          all_append non_neg (coated_by order (i % 1)) (replicate (12 - n) (pos 0)) (rw (mod-one i) (coated-plain order))
          (all_replicate non_neg (12 - n) (pos 0) refl)

module _ (kind n i : ℕ) (in-range : is_pane_count kind n ≡ true) (h : i < stack_count kind n) where
  pub quotient-lt : i / coatings kind n < fact n
  unfolding stack_count
  quotient-lt = (div-lt_iff_lt-mul (coatings-pos kind n)).1 h

  panes-for : (x : ℕ) → smaller x (order_for kind n i) ≡ smaller x (from 1 n)
  panes-for = order-panes n (from 1 n) (i / coatings kind n) (from-length 1 n) quotient-lt

  pub unrank-stack : is_stack kind n (stack_at kind n i) ≡ true
  unfolding is_unused
  unrank-stack =
      facts-stack kind n (stack_at kind n i)
      (record {
        twelve = length_at kind n i (panes-twelve kind n in-range);
        once = rw (order-at kind n i) (smaller-once n (order_for kind n i) panes-for);
        coats = coats-at kind n i;
        unused = rw (unused-at kind n i) (all_replicate is_unused (12 - n) (pos 0) refl);
      })

  no_zero : smaller 1 (order_for kind n i) ≡ 0
  no_zero = panes-for 1 ∙ omega (arith, smaller-from 1 1 n)

  pub rank-unrank : rank_of kind n (stack_at kind n i) ≡ i
  unfolding rank_of
  rank-unrank =
      rw (
        order-at kind n i,
        panes-at kind n i,
        rank_from-is n (order_for kind n i) panes-for,
        order-lehmer n (from 1 n) (i / coatings kind n) (from-rising 1 n) (from-length 1 n) quotient-lt,
        coated-bits (order_for kind n i) (i % coatings kind n) no_zero,
        order-length n (from 1 n) (i / coatings kind n),
        mod-eq_of_lt (lt_of_lt_of_le (mod-lt i (coatings-pos kind n)) (coatings-le kind n)),
      ) (div-add-mod' i (coatings kind n))

pub unrank-rank : (kind n : ℕ) (s : List ℤ) → is_pane_count kind n ≡ true → is_stack kind n s ≡ true → stack_at kind n (rank_of kind n s) ≡ s
unrank-rank kind n s in-range h =
    let r = rank_lt kind n s in-range h in
    rank-injective kind n (stack_at kind n (rank_of kind n s)) s in-range (unrank-stack kind n (rank_of kind n s) in-range r) h
    (rank-unrank kind n (rank_of kind n s) in-range r)

-- the plain stacks of three panes, from 123 to 321
pub plain-three : map (λ i. take 3 (stack_at 0 3 i)) (from 0 6)
    ≡ (pos 1 ∷ pos 2 ∷ pos 3 ∷ []) ∷ (pos 1 ∷ pos 3 ∷ pos 2 ∷ []) ∷ (pos 2 ∷ pos 1 ∷ pos 3 ∷ []) ∷ (pos 2 ∷ pos 3 ∷ pos 1 ∷ [])
    ∷ (pos 3 ∷ pos 1 ∷ pos 2 ∷ []) ∷ (pos 3 ∷ pos 2 ∷ pos 1 ∷ []) ∷ []
unfolding from stack_at coated_by pane_with order_at without fact coatings is_coated
plain-three = refl

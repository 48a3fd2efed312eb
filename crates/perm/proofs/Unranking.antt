-- Unranking place by place: the free panes that a set holds, which of them stands next, and the stack as far as it is written.
use mathlib.Core.Path.{◌≡◌, refl, sym, ap, ◌∙◌}
use mathlib.Core.Logic.{◌⊎◌, inl, inr}
use mathlib.Core.Bool.{true}
use mathlib.Core.List.{List, ◌++◌}
use Prim.Native.Nat.{ℕ, suc, ◌+◌, ◌-◌, ◌*◌, ◌/◌, ◌%◌, ◌^◌, ◌≤◌, ◌<◌}
use native.Mathlib.Nat.{mod-lt, mod-eq_of_lt, lt_of_lt_of_le, le_refl, sub-zero}
use native.Mathlib.Numerals.{add-one}
use native.Mathlib.Omega.{arith}
use lib.Count.{ones}
use lib.Dec.{eqb}
use lib.IntN.{ℤ, pos}
use lib.ListN.{length, get_or, set, take, drop, replicate, length-set, take-append-drop}
use lib.Pow.{pow_mono, pow_pos}
use lib.Seq.{append_snoc, take-suc-set, drop-set-lt, drop-drop}
use borrow.Author.Tests.{eq-eqb}
use Rattle.base.specs.Words.{tally, fact, from, without}
use Rattle.base.proofs.Counting.{tally-true, tally-without}
use Rattle.base.proofs.Lists.{from-length}
use Rattle.base.proofs.Numbers.{fact-pos}
use Rattle.base.proofs.Tests.{lt-or-ge}
use Rattle.stacks.specs.Index.{smaller, order_at, pane_with, coated_by, stack_at}
use Rattle.stacks.specs.Stack.{is_pane_count, coatings, stack_count}
use Rattle.stacks.proofs.KindLaws.{panes-twelve}
use Rattle.stacks.proofs.Panes.{smaller-suc, smaller-mono, smaller-ge, smaller-from}
use Rattle.stacks.proofs.OrderLaws.{Rising, from-rising, rising-without, rising-place, smaller-without, place-lt, free-length, order-length}
use Rattle.stacks.proofs.Numbering.{quotient-lt}
use Rattle.perm.specs.Set.{NthOne}
use Rattle.perm.proofs.Sets.{ones-further, Holds, holds-ones, holds-take, holds-full, shifted}

-- ---- the free panes

-- a set of some of n panes, which rise in the list
pub record Free (n free : ℕ) (F : List ℕ) : Type 0 where
  pub rising : Rising F
  pub holds : Holds free F
  pub real : tally (eqb 0) F ≡ 0
  pub bound : free < 2 ^ n

pub free-full : (n : ℕ) → Free n (2 ^ n - 1) (from 1 n)
free-full n =
    record {
      rising = from-rising 1 n;
      holds = holds-full n;
      real = omega (arith, smaller-suc 0 (from 1 n), smaller-from 1 1 n);
      bound = omega (arith, pow_pos n);
    }

module _ (n free : ℕ) (F : List ℕ) (f : Free n free F) (d : ℕ) (l : d < length F) where
  -- d panes are below the one at place d, and it is there
  place_is : smaller (get_or F d 0) F ≡ d
  place_is =
      let x = get_or F d 0 in
      sym (smaller-without x F d l) ∙ smaller-ge x x (without d F) (le_refl x) ∙ rising-place F d l f.rising

  place_in : 1 ≤ tally (eqb (get_or F d 0)) F
  place_in =
      let x = get_or F d 0 in
      omega (arith, tally-without (eqb x) F d 0 l, tally-true (eqb x) x (without d F) (eq-eqb x x refl))

  -- so the set has more than d ones
  free-ones : d < ones free
  free-ones =
      let x = get_or F d 0 in
      let k : ℕ = n + x in
      let all : ones free ≡ smaller (suc k) F =
      ap ones (sym (mod-eq_of_lt (lt_of_lt_of_le f.bound (pow_mono {i = n} {j = k} (omega arith)))))
      ∙ holds-ones free F f.holds f.real k in
      omega (arith, all, place_is, place_in, smaller-suc x F, smaller-mono (suc x) (suc k) F (omega arith))

  -- and the one that has d below it is the pane at place d
  pub free-place : (v : ℕ) → NthOne free d v → get_or F d 0 ≡ suc v
  unfolding Holds
  free-place v o =
      let x = get_or F d 0 in
      let below : smaller (suc v) F ≡ d = sym (holds-ones free F f.holds f.real v) ∙ o.below in
      let there : tally (eqb (suc v)) F ≡ 1 = sym (f.holds v) ∙ o.is_one in
      go x below there place_is place_in (lt-or-ge x (suc v)) (lt-or-ge (suc v) x)
    where
      go : (x : ℕ) → smaller (suc v) F ≡ d → tally (eqb (suc v)) F ≡ 1 → smaller x F ≡ d → 1 ≤ tally (eqb x) F
          → (x < suc v) ⊎ (suc v ≤ x) → (suc v < x) ⊎ (x ≤ suc v) → x ≡ suc v
      go x a b s t (inl h) k = absurd (omega (arith, smaller-suc x F, smaller-mono (suc x) (suc v) F h))
      go x a b s t (inr h) (inl k) = absurd (omega (arith, smaller-suc (suc v) F, smaller-mono (suc (suc v)) x F k))
      go x a b s t (inr h) (inr k) = omega arith

  pub free-take : (v : ℕ) → NthOne free d v → Free n (free - 2 ^ v) (without d F)
  unfolding tally
  free-take v o =
      record {
        rising = rising-without F d l f.rising;
        holds = holds-take free F d v f.holds l (free-place v o) o.is_one;
        real = omega (arith, f.real, tally-without (eqb 0) F d 0 l);
        bound = omega (arith, f.bound);
      }

-- where g panes are gone, more than d are free up to place d + g
free-within : (n free : ℕ) (F : List ℕ) → Free n free F → (d g : ℕ) → d < length F → length F + g ≡ n → d < ones (free % 2 ^ (d + g + 1))
free-within n free F f d g l e =
    let k : ℕ = d + g + 1 in
    let rest : k + (n - k) ≡ n = omega arith in
    omega (
      arith,
      free-ones n free F f (length F - 1) (omega arith),
      ap ones (mod-eq_of_lt f.bound),
      rw rest at (ones-further free k (n - k)).1,
    )

-- ---- the stack as far as it is written

-- at place p: the free panes are in the set, and the whole stack is what is written and what the rest of the index says
pub record Unranked (n coats : ℕ) (whole : List ℤ) (left free : ℕ) (s : List ℤ) (p : ℕ) : Type 0 where
  pub panes : List ℕ
  pub are-free : Free n free panes
  pub many : length panes ≡ n - p
  pub low : left < fact (n - p)
  pub twelve : length s ≡ 12
  pub zeros : drop p s ≡ replicate (12 - p) (pos 0)
  pub written : whole ≡ take p s ++ (coated_by (order_at (n - p) panes left) coats ++ replicate (12 - n) (pos 0))

pub unranked-start : (kind n index ways : ℕ) → is_pane_count kind n ≡ true → index < stack_count kind n → ways ≡ coatings kind n
    → Unranked n (index % ways) (stack_at kind n index) (index / ways) (1 * 2 ^ n % 4294967296 - 1) (replicate 12 (pos 0)) 0
unfolding stack_at
unranked-start kind n index ways in-range h e =
    rw (e, shifted n (panes-twelve kind n in-range))
    (record {
      panes = from 1 n;
      are-free = free-full n;
      many = rw (sub-zero n) (from-length 1 n);
      low = rw (sub-zero n) (quotient-lt kind n index in-range h);
      twelve = refl;
      zeros = refl;
      written = rw (sub-zero n);
    })

module _ (n coats : ℕ) (whole : List ℤ) (left free : ℕ) (s : List ℤ) (p : ℕ) (u : Unranked n coats whole left free s p) where
  pub unranked-end : n ≡ p → s ≡ whole
  unfolding coated_by order_at
  unranked-end h =
      let done : n - p ≡ 0 = omega arith in
      sym (take-append-drop p s) ∙ ap (λ (r : List ℤ). take p s ++ r) u.zeros ∙ sym (rw (done, h) at u.written)

  -- the next of m + 1 places, with f = m!
  module _ (f : ℕ) (h : p < n) (e : f ≡ fact (n - 1 - p)) where
    more : n - p ≡ suc (n - 1 - p)
    more = omega arith

    less : n - (p + 1) ≡ n - 1 - p
    less = omega arith

    digit_lt : left / f < length u.panes
    digit_lt = rw e (place-lt (n - 1 - p) u.panes left (u.many ∙ more) (rw more at u.low))

    pub unranked-room : left / f + p < n
    unranked-room = omega (arith, digit_lt, u.many)

    pub unranked-within : left / f < ones (free % 2 ^ (left / f + p + 1))
    unranked-within = free-within n free u.panes u.are-free (left / f) p digit_lt (omega (arith, u.many))

    pub unranked-step : n ≤ 12 → (v : ℕ) → NthOne free (left / f) v → (z : ℤ) → z ≡ pane_with (v + 1) (coats / 2 ^ (n - 1 - p) % 2)
        → Unranked n coats whole (left % f) (free - 1 * 2 ^ v % 4294967296) (set s p z) (p + 1)
    unfolding coated_by order_at
    unranked-step l v o z k =
        let m : ℕ = n - 1 - p in
        let F = u.panes in
        let rest : List ℕ = order_at m (without (left / f) F) (left % f) in
        let here : p < length s = omega (arith, u.twelve) in
        let next : pane_with (get_or F (left / f) 0) (coats / 2 ^ length rest % 2) ≡ z =
        rw (order-length m (without (left / f) F) (left % f), free-place n free F u.are-free (left / f) digit_lt v o, k, add-one v) in
        rw (shifted v (omega (arith, o.low)))
        (record {
          panes = without (left / f) F;
          are-free = free-take n free F u.are-free (left / f) digit_lt v o;
          many = rw (less, e) (free-length m F left (u.many ∙ more) (rw more at u.low));
          low = rw (less, e) (mod-lt left (fact-pos m));
          twelve = length-set s p z ∙ u.twelve;
          zeros =
              drop-set-lt (p + 1) s p z (omega arith) ∙ sym (drop-drop 1 p s) ∙ ap (drop 1) u.zeros
              ∙ ap (λ (k : ℕ). drop 1 (replicate k (pos 0))) (let q : 12 - p ≡ suc (12 - (p + 1)) = omega arith in q);
          written =
              u.written
              ∙ rw (more, less, ← e, next, add-one p, take-suc-set s p z here)
              (sym (append_snoc (take p s) z (coated_by rest coats ++ replicate (12 - n) (pos 0))));
        })

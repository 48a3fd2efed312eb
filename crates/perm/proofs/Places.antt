-- Going through the places of a stack from the top: what is met, what is left, and the tests that go with them.
use mathlib.Core.Path.{◌≡◌, refl, sym, ap, ◌∙◌, subst}
use mathlib.Core.Bool.{Bool, true, false, ◌&&◌}
use mathlib.Core.List.{List, [], ◌∷◌, reverse, reverse-append}
use Prim.Native.Nat.{ℕ, zero, suc, ◌+◌, ◌-◌, ◌^◌, ◌≤◌, ◌<◌}
use native.Mathlib.Numerals.{add-one}
use native.Mathlib.Omega.{arith}
use lib.Dec.{leb, eqb}
use lib.IntN.{ℤ, pos, nat_abs}
use lib.ListN.{drop_of_length-le, length, get_or, take, drop, length-map, get_or-map}
use lib.Pow.{pow_pos}
use lib.Seq.{drop-cons, take-suc, get_or-take}
use borrow.Author.Tests.{leb-true, eqb-true, ne_eqb}
use Rattle.base.specs.Words.{tally, bit}
use Rattle.base.proofs.Bits.{put-lt}
use Rattle.base.proofs.Counting.{tally-false}
use Rattle.base.proofs.Tests.{and_left, and_right, and-fails-left}
use Rattle.stacks.specs.Stack.{order_of, each_once}
use Rattle.perm.proofs.Sets.{Holds, holds-none, holds-put}

-- in the panes of the order as they are gone through
pub order-long : (n : ℕ) (s : List ℤ) → length (order_of n s) ≡ length (take n s)
unfolding order_of
order-long n s = length-map (take n s) nat_abs

pub order-read : (n : ℕ) (s : List ℤ) (p : ℕ) → get_or (order_of n s) p 0 ≡ nat_abs (get_or (take n s) p (pos 0))
unfolding order_of
order-read n s p = get_or-map nat_abs (take n s) p (pos 0)

pub order-at : (n : ℕ) (s : List ℤ) (p : ℕ) → p < n → get_or (order_of n s) p 0 ≡ nat_abs (get_or s p (pos 0))
unfolding order_of
order-at n s p h = get_or-map nat_abs (take n s) p (pos 0) ∙ ap nat_abs (get_or-take n s p (pos 0) h)

-- the panes above place p, the last one first
unfoldable pub met_at : List ℕ → ℕ → List ℕ
met_at xs p = reverse (take p xs)

pub met-none : (xs : List ℕ) → met_at xs 0 ≡ []
unfolding met_at
met-none [] = refl
met-none (x ∷ xs) = refl

pub met-more : (xs : List ℕ) (p : ℕ) → p < length xs → met_at xs (p + 1) ≡ get_or xs p 0 ∷ met_at xs p
unfolding met_at
met-more xs p h = rw (add-one p, take-suc xs p 0 h, reverse-append)

-- ---- the panes met

-- the test for a new pane, as the set makes it
abbrev pub is_new : ℕ → ℕ → ℕ → Bool
is_new n met x = leb 1 x && leb x n && eqb (bit met (x - 1)) 0

pub new-facts : (n met x : ℕ) → is_new n met x ≡ true → (1 ≤ x) × (x ≤ n) × (bit met (x - 1) ≡ 0)
new-facts n met x h =
    let r = and_left (leb 1 x && leb x n) (eqb (bit met (x - 1)) 0) h in (
      leb-true 1 x (and_left (leb 1 x) (leb x n) r),
      leb-true x n (and_right (leb 1 x) (leb x n) r),
      eqb-true (bit met (x - 1)) 0 (and_right (leb 1 x && leb x n) (eqb (bit met (x - 1)) 0) h),
    )

-- it is the definition's test, by the panes that the set holds
new_is : (n met x : ℕ) (M : List ℕ) → Holds met M → (leb 1 x && leb x n && eqb (tally (eqb x) M) 0) ≡ is_new n met x
unfolding Holds
new_is n met zero M h = refl
new_is n met (suc y) M h = ap (λ (b : ℕ). leb 1 (suc y) && leb (suc y) n && eqb b 0) (sym (ap (bit met) (omega arith) ∙ h y))

-- the set that a scan has at place p: it holds the panes above, which have no pane 0, and what is left to test says it for all
pub record Met (n : ℕ) (xs : List ℕ) (met p : ℕ) : Type 0 where
  pub holds : Holds met (met_at xs p)
  pub bound : met < 2 ^ n
  pub real : tally (eqb 0) (met_at xs p) ≡ 0
  pub left : each_once n [] xs ≡ each_once n (met_at xs p) (drop p xs)

pub met_start : (n : ℕ) (xs : List ℕ) → Met n xs 0 0
unfolding met_at tally
met_start n xs = record { holds = holds-none; bound = pow_pos n; real = refl; left = refl }

module _ (n : ℕ) (xs : List ℕ) (met p : ℕ) (m : Met n xs met p) where
  pub met-end : length xs ≤ p → true ≡ each_once n [] xs
  unfolding each_once
  met-end h = sym (m.left ∙ ap (each_once n (met_at xs p)) (drop_of_length-le xs h))

  -- one place further, with the pane x that stands there
  module _ (x : ℕ) (h : p < length xs) (e : x ≡ get_or xs p 0) where
    met-left : each_once n [] xs ≡ (is_new n met x && each_once n (met_at xs (p + 1)) (drop (p + 1) xs))
    unfolding each_once
    met-left =
        m.left
        ∙ rw (drop-cons xs p 0 h, met-more xs p h, add-one, e)
        (ap (λ (b : Bool). b && each_once n (get_or xs p 0 ∷ met_at xs p) (drop (suc p) xs)) (new_is n met (get_or xs p 0) (met_at xs p) m.holds))

    -- where the list passes the test, the pane is new
    pub met-new : each_once n [] xs ≡ true → is_new n met x ≡ true
    met-new k = and_left (is_new n met x) (each_once n (met_at xs (p + 1)) (drop (p + 1) xs)) (sym met-left ∙ k)

    pub met-stop : is_new n met x ≡ false → false ≡ each_once n [] xs
    met-stop k = sym (met-left ∙ and-fails-left (is_new n met x) (each_once n (met_at xs (p + 1)) (drop (p + 1) xs)) k)

    -- the set with the pane added
    pub met-step : is_new n met x ≡ true → Met n xs (met + 2 ^ (x - 1)) (p + 1)
    unfolding Holds
    met-step k =
        let f = new-facts n met x k in
        let y : suc (x - 1) ≡ x = omega arith in
        let more : met_at xs (p + 1) ≡ x ∷ met_at xs p = rw e (met-more xs p h) in
        record {
          holds = rw more (subst (λ (z : ℕ). Holds (met + 2 ^ (x - 1)) (z ∷ met_at xs p)) y (holds-put met (met_at xs p) (x - 1) m.holds (sym (m.holds (x - 1)) ∙ f.2)));
          bound = put-lt n met (x - 1) (omega arith) m.bound f.2;
          real = rw (more, tally-false (eqb 0) x (met_at xs p) (ne_eqb 0 x (omega arith))) m.real;
          left = met-left ∙ ap (λ (b : Bool). b && each_once n (met_at xs (p + 1)) (drop (p + 1) xs)) k;
        }

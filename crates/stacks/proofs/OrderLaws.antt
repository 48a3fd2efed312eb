-- The numbering of unsigned orders: the rank by the panes below, that it is lexicographic, and the order at a rank.
use mathlib.Core.Path.{◌≡◌, refl, sym, ap, ◌∙◌}
use mathlib.Core.Logic.{◌⊎◌, inl, inr}
use mathlib.Core.Bool.{false, ◌&&◌, ◌||◌, true≢false}
use mathlib.Core.List.{List, [], ◌∷◌, ◌++◌}
use Prim.Native.Nat.{ℕ, zero, suc, ◌+◌, ◌-◌, ◌*◌, ◌/◌, ◌%◌, ◌≤◌, ◌<◌}
use native.Mathlib.Nat.{le_refl, le_of_eq, le_antisymm, le_of_lt, suc_inj, suc-ne-zero, le_of_suc-le-suc, not-suc-le-zero, div-lt_iff_lt-mul, mod-lt, div-add-mod'}
use native.Mathlib.Omega.{arith}
use lib.Arith.{digits_lt}
use lib.Dec.{ltb, eqb}
use lib.ListN.{length, get_or}
use borrow.Author.Tests.{lt-ltb, le-ltb, eq-eqb, ne_eqb}
use Rattle.base.specs.Words.{tally, fact, from, without}
use Rattle.base.proofs.Tests.{lt-or-ge, eq-or-ne}
use Rattle.base.proofs.Numbers.{fact-pos, fact-suc, fact-digit}
use Rattle.base.proofs.Counting.{tally-without, length_without}
use Rattle.base.proofs.Radix.{ltb-add, digits-ltb}
use Rattle.stacks.specs.Index.{smaller, rank_from, order_at}
use Rattle.stacks.specs.Order.{lex_less}
use Rattle.stacks.proofs.Panes.{smaller-lt, smaller-ge, smaller-le, smaller-mono, smaller-none, smaller-from}

-- the rank of a list of panes: at each place the smaller panes below it, times the factorial of the panes below it
unfoldable pub lehmer : List ℕ → ℕ
lehmer [] = 0
lehmer (x ∷ xs) = smaller x xs * fact (length xs) + lehmer xs

pub lehmer-lt : (xs : List ℕ) → lehmer xs < fact (length xs)
unfolding lehmer
lehmer-lt [] = fact-pos 0
lehmer-lt (x ∷ xs) = fact-digit (length xs) (smaller x xs) (lehmer xs) (smaller-le x xs) (lehmer-lt xs)

smaller-move : (y x : ℕ) (met xs : List ℕ) → smaller y (x ∷ met) + smaller y xs ≡ smaller y met + smaller y (x ∷ xs)
unfolding smaller tally
smaller-move y x met xs = omega arith

smaller-tail : (y x : ℕ) (xs ys : List ℕ) → smaller y (x ∷ xs) ≡ smaller y (x ∷ ys) → smaller y xs ≡ smaller y ys
unfolding smaller tally
smaller-tail y x xs ys h = omega arith

-- of the x - 1 panes that are smaller than x, those not above it are below it
pub rank_from-met : (n : ℕ) (met xs : List ℕ) → ((x : ℕ) → smaller x met + smaller x xs ≡ smaller x (from 1 n)) → rank_from met xs ≡ lehmer xs
unfolding rank_from lehmer
rank_from-met n met [] h = refl
rank_from-met n met (x ∷ xs) h = rw (digit, rank_from-met n (x ∷ met) xs rest)
  where
    digit : x - 1 - smaller x met ≡ smaller x xs
    digit =
        omega (
          arith,
          h x,
          h (suc x),
          smaller-ge x x xs (le_refl x),
          smaller-lt (suc x) x xs (le_refl (suc x)),
          smaller-mono x (suc x) met (omega arith),
          smaller-mono x (suc x) xs (omega arith),
          smaller-from x 1 n,
          smaller-from (suc x) 1 n,
        )

    rest : (y : ℕ) → smaller y (x ∷ met) + smaller y xs ≡ smaller y (from 1 n)
    rest y = smaller-move y x met xs ∙ h y

pub rank_from-is : (n : ℕ) (xs : List ℕ) → ((x : ℕ) → smaller x xs ≡ smaller x (from 1 n)) → rank_from [] xs ≡ lehmer xs
unfolding smaller tally
rank_from-is n xs h = rank_from-met n [] xs (λ x. omega (arith, h x))

-- ---- the rank is lexicographic

-- a leading digit to the base f decides before what follows it, to the bases f and w
digit-leads : (f w s l c u m d : ℕ) → l < f → m < f → c < w → d < w
    → ltb ((s * f + l) * w + c) ((u * f + m) * w + d) ≡ (ltb s u || (eqb s u && ltb (l * w + c) (m * w + d)))
digit-leads f w s l c u m d hl hm hc hd =
    rw (regroup s l c, regroup u m d) (digits-ltb (f * w) s (l * w + c) u (m * w + d) (digits_lt hl hc) (digits_lt hm hd))
  where
    regroup : (s l c : ℕ) → (s * f + l) * w + c ≡ s * (f * w) + (l * w + c)
    regroup s l c = omega arith

-- of two lists of the same panes, the one with the smaller top has fewer smaller panes below it
top-less : (x y : ℕ) (xs ys : List ℕ) → ((z : ℕ) → smaller z (x ∷ xs) ≡ smaller z (y ∷ ys)) → x < y → smaller x xs < smaller y ys
top-less x y xs ys h l = omega (arith, h y, smaller-lt y x xs l, smaller-ge y y ys (le_refl y), smaller-mono x y xs (le_of_lt l))

-- the order of two lists of the same panes, with lists after them that compare as two remainders do
pub lehmer-order : (xs ys : List ℕ) → ((x : ℕ) → smaller x xs ≡ smaller x ys) → length xs ≡ length ys → (us vs : List ℕ) (w c d : ℕ) → c < w → d < w
    → lex_less us vs ≡ ltb c d → lex_less (xs ++ us) (ys ++ vs) ≡ ltb (lehmer xs * w + c) (lehmer ys * w + d)
unfolding lehmer lex_less
lehmer-order [] [] h k us vs w c d hc hd e = e ∙ sym (ltb-add (0 * w) c d)
lehmer-order [] (y ∷ ys) h k us vs w c d hc hd e = absurd (suc-ne-zero (length ys) (sym k))
lehmer-order (x ∷ xs) [] h k us vs w c d hc hd e = absurd (suc-ne-zero (length xs) k)
lehmer-order (x ∷ xs) (y ∷ ys) h k us vs w c d hc hd e =
    let long : length xs ≡ length ys = suc_inj k in
    let below : lehmer xs < fact (length ys) = rw (← long) (lehmer-lt xs) in
    go (lt-or-ge x y) (eq-or-ne x y) (λ same. lehmer-order xs ys same long us vs w c d hc hd e)
    ∙ sym (rw long (digit-leads (fact (length ys)) w (smaller x xs) (lehmer xs) c (smaller y ys) (lehmer ys) d below (lehmer-lt ys) hc hd))
  where
    go : (x < y) ⊎ (y ≤ x) → (x ≡ y) ⊎ (x ≡ y → ⊥)
        → (((z : ℕ) → smaller z xs ≡ smaller z ys) → lex_less (xs ++ us) (ys ++ vs) ≡ ltb (lehmer xs * w + c) (lehmer ys * w + d))
        → (ltb x y || (eqb x y && lex_less (xs ++ us) (ys ++ vs)))
        ≡ (ltb (smaller x xs) (smaller y ys) || (eqb (smaller x xs) (smaller y ys) && ltb (lehmer xs * w + c) (lehmer ys * w + d)))
    go (inl l) q rest = rw (lt-ltb x y l, lt-ltb (smaller x xs) (smaller y ys) (top-less x y xs ys h l))
    go (inr l) (inl q) rest =
        let same : (z : ℕ) → smaller z xs ≡ smaller z ys = λ z. smaller-tail z y xs ys (ap (λ t. smaller z (t ∷ xs)) (sym q) ∙ h z) in
        let s : smaller x xs ≡ smaller y ys = ap (λ t. smaller t xs) q ∙ same y in
        rw (le-ltb x y l, eq-eqb x y q, le-ltb (smaller x xs) (smaller y ys) (le_of_eq (sym s)), eq-eqb (smaller x xs) (smaller y ys) s) (rest same)
    go (inr l) (inr q) rest =
        let s : smaller y ys < smaller x xs = top-less y x ys xs (λ z. sym (h z)) (omega arith) in
        rw (le-ltb x y l, ne_eqb x y q, le-ltb (smaller x xs) (smaller y ys) (le_of_lt s), ne_eqb (smaller x xs) (smaller y ys) (omega arith))

-- two lists as long, neither of which comes before the other, are the same
pub lex_less-connex : (xs ys : List ℕ) → length xs ≡ length ys → lex_less xs ys ≡ false → lex_less ys xs ≡ false → xs ≡ ys
unfolding lex_less
lex_less-connex [] [] k a b = refl
lex_less-connex [] (y ∷ ys) k a b = absurd (suc-ne-zero (length ys) (sym k))
lex_less-connex (x ∷ xs) [] k a b = absurd (suc-ne-zero (length xs) k)
lex_less-connex (x ∷ xs) (y ∷ ys) k a b = go (lt-or-ge x y) (lt-or-ge y x) (lex_less-connex xs ys (suc_inj k))
  where
    go : (x < y) ⊎ (y ≤ x) → (y < x) ⊎ (x ≤ y) → (lex_less xs ys ≡ false → lex_less ys xs ≡ false → xs ≡ ys) → ◌≡◌ {A = List ℕ} (x ∷ xs) (y ∷ ys)
    go (inl l) m rest = absurd (true≢false (rw (lt-ltb x y l) at a))
    go (inr l) (inl m) rest = absurd (true≢false (rw (lt-ltb y x m) at b))
    go (inr l) (inr m) rest =
        let e : x ≡ y = le_antisymm m l in
        let r : xs ≡ ys = rest (rw (le-ltb x y l, eq-eqb x y e) at a) (rw (le-ltb y x m, eq-eqb y x (sym e)) at b) in
        λ i. e i ∷ r i

-- ---- the order at a rank

-- each number is below all that stand after it
unfoldable pub Rising : List ℕ → Type 0
Rising [] = Unit {0}
Rising (x ∷ xs) = (smaller (suc x) xs ≡ 0) × Rising xs

pub from-rising : (a n : ℕ) → Rising (from a n)
unfolding Rising from
from-rising a zero = tt
from-rising a (suc n) = (omega (arith, smaller-from (suc a) (suc a) n), from-rising (suc a) n)

pub smaller-without : (x : ℕ) (xs : List ℕ) (i : ℕ) → i < length xs → smaller x (get_or xs i 0 ∷ without i xs) ≡ smaller x xs
unfolding smaller
smaller-without x xs i h = tally-without (λ y. ltb y x) xs i 0 h

pub rising-without : (xs : List ℕ) (i : ℕ) → i < length xs → Rising xs → Rising (without i xs)
unfolding Rising without
rising-without [] i h r = absurd (not-suc-le-zero h)
rising-without (x ∷ xs) zero h r = r.1
rising-without (x ∷ xs) (suc i) h r =
    let k : i < length xs = le_of_suc-le-suc h in
    ((smaller-none (suc x) (get_or xs i 0) (without i xs) (smaller-without (suc x) xs i k ∙ r.0)).1, rising-without xs i k r.1)

-- in a rising list, as many are below the element at place i as stand before it
pub rising-place : (xs : List ℕ) (i : ℕ) → i < length xs → Rising xs → smaller (get_or xs i 0) (without i xs) ≡ i
unfolding Rising without
rising-place [] i h r = absurd (not-suc-le-zero h)
rising-place (x ∷ xs) zero h r = omega (arith, r.0, smaller-mono x (suc x) xs (omega arith))
rising-place (x ∷ xs) (suc i) h r =
    let k : i < length xs = le_of_suc-le-suc h in
    smaller-lt (get_or xs i 0) x (without i xs) (smaller-none (suc x) (get_or xs i 0) (without i xs) (smaller-without (suc x) xs i k ∙ r.0)).0
    ∙ ap suc (rising-place xs i k r.1)

pub order-length : (m : ℕ) (free : List ℕ) (i : ℕ) → length (order_at m free i) ≡ m
unfolding order_at
order-length zero free i = refl
order-length (suc m) free i = ap suc (order-length m (without (i / fact m) free) (i % fact m))

-- the place of the top pane is one of the free panes' places, and one pane fewer is free below it
pub place-lt : (m : ℕ) (free : List ℕ) (i : ℕ) → length free ≡ suc m → i < fact (suc m) → i / fact m < length free
place-lt m free i e h = rw e ((div-lt_iff_lt-mul (fact-pos m)).1 (rw (← fact-suc m) h))

pub free-length : (m : ℕ) (free : List ℕ) (i : ℕ) → length free ≡ suc m → i < fact (suc m) → length (without (i / fact m) free) ≡ m
free-length m free i e h = suc_inj (length_without free (i / fact m) (place-lt m free i e h) ∙ e)

-- the order at a rank holds the free panes
pub order-panes : (m : ℕ) (free : List ℕ) (i : ℕ) → length free ≡ m → i < fact m → (x : ℕ) → smaller x (order_at m free i) ≡ smaller x free
unfolding order_at smaller tally
order-panes zero [] i e h x = refl
order-panes zero (y ∷ ys) i e h x = absurd (suc-ne-zero (length ys) e)
order-panes (suc m) free i e h x =
    omega (
      arith,
      order-panes m (without (i / fact m) free) (i % fact m) (free-length m free i e h) (mod-lt i (fact-pos m)) x,
      smaller-without x free (i / fact m) (place-lt m free i e h),
    )

pub order-lehmer : (m : ℕ) (free : List ℕ) (i : ℕ) → Rising free → length free ≡ m → i < fact m → lehmer (order_at m free i) ≡ i
unfolding order_at lehmer fact
order-lehmer zero free i r e h = omega arith
order-lehmer (suc m) free i r e h =
    let d : i / fact m < length free = place-lt m free i e h in
    let rest : List ℕ = without (i / fact m) free in
    rw (
      order-length m rest (i % fact m),
      order-panes m rest (i % fact m) (free-length m free i e h) (mod-lt i (fact-pos m)) (get_or free (i / fact m) 0),
      rising-place free (i / fact m) d r,
      order-lehmer m rest (i % fact m) (rising-without free (i / fact m) d r) (free-length m free i e h) (mod-lt i (fact-pos m)),
    ) (div-add-mod' i (fact m))

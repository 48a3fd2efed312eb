-- What a valid order of panes is: the facts of a stack, the laws of `smaller`, that an order of 1 to n is a list with the `smaller` of 1 to n,
-- and that the ordered stack is one.
use mathlib.Core.Path.{◌≡◌, refl, sym, ap, ◌∙◌}
use mathlib.Core.Logic.{◌⊎◌, inl, inr}
use mathlib.Core.Bool.{Bool, true, false, ◌&&◌, ◌||◌}
use mathlib.Core.List.{List, [], ◌∷◌, ◌++◌, reverse}
use Prim.Native.Nat.{ℕ, zero, suc, ◌+◌, ◌-◌, ◌≤◌, ◌<◌, min, zero-le}
use native.Mathlib.Nat.{le_refl}
use native.Mathlib.Decide.{le_ind}
use native.Mathlib.Omega.{arith}
use lib.Dec.{leb, ltb, eqb}
use lib.IntN.{ℤ}
use lib.ListN.{length, get_or, drop}
use lib.Signed.{non_neg}
use borrow.Author.Tests.{leb-true, ltb-true, eqb-true, lt-ltb, le-ltb, le-leb, eq-eqb, ne_eqb}
use Rattle.base.specs.Words.{all, tally, from}
use Rattle.base.proofs.Tests.{and_left, and_right, lt-or-ge, eq-or-ne}
use Rattle.base.proofs.Counting.{tally-append, tally-reverse, tally-true, tally-false, tally-le, tally-mono, all-below}
use Rattle.stacks.specs.Stack.{is_coated, is_pane_count, is_unused, order_of, each_once, is_stack, ordered}
use Rattle.stacks.specs.Index.{smaller}
use Rattle.stacks.proofs.KindLaws.{panes-twelve}

pub record StackFacts (kind n : ℕ) (s : List ℤ) : Type 0 where
  pub twelve : length s ≡ 12
  pub once : each_once n [] (order_of n s) ≡ true
  pub coats : (is_coated kind || all non_neg s) ≡ true
  pub unused : all is_unused (drop n s) ≡ true

and-four : (a b c d : Bool) → (a && b && c && d) ≡ true → (a ≡ true) × (b ≡ true) × (c ≡ true) × (d ≡ true)
and-four a b c d h =
    let abc = and_left (a && b && c) d h in
    let ab = and_left (a && b) c abc in
    (and_left a b ab, and_right a b ab, and_right (a && b) c abc, and_right (a && b && c) d h)

pub stack-facts : (kind n : ℕ) (s : List ℤ) → is_stack kind n s ≡ true → StackFacts kind n s
unfolding is_stack
stack-facts kind n s h =
    let f = and-four (eqb (length s) 12) (each_once n [] (order_of n s)) (is_coated kind || all non_neg s) (all is_unused (drop n s)) h in
    record { twelve = eqb-true (length s) 12 f.0; once = f.1; coats = f.2; unused = f.3 }

pub facts-stack : (kind n : ℕ) (s : List ℤ) → StackFacts kind n s → is_stack kind n s ≡ true
unfolding is_stack
facts-stack kind n s f = rw (f.twelve, f.once, f.coats, f.unused)

-- ---- smaller, pane by pane

pub smaller-lt : (x y : ℕ) (ys : List ℕ) → y < x → smaller x (y ∷ ys) ≡ suc (smaller x ys)
unfolding smaller
smaller-lt x y ys h = tally-true (λ z. ltb z x) y ys (lt-ltb y x h)

pub smaller-ge : (x y : ℕ) (ys : List ℕ) → x ≤ y → smaller x (y ∷ ys) ≡ smaller x ys
unfolding smaller
smaller-ge x y ys h = tally-false (λ z. ltb z x) y ys (le-ltb y x h)

pub smaller-append : (x : ℕ) (xs ys : List ℕ) → smaller x (xs ++ ys) ≡ smaller x xs + smaller x ys
unfolding smaller
smaller-append x xs ys = tally-append (λ z. ltb z x) xs ys

pub smaller-reverse : (x : ℕ) (xs : List ℕ) → smaller x (reverse xs) ≡ smaller x xs
unfolding smaller
smaller-reverse x xs = tally-reverse (λ z. ltb z x) xs

pub smaller-le : (x : ℕ) (xs : List ℕ) → smaller x xs ≤ length xs
unfolding smaller
smaller-le x xs = tally-le (λ z. ltb z x) xs

pub smaller-mono : (x y : ℕ) (xs : List ℕ) → x ≤ y → smaller x xs ≤ smaller y xs
unfolding smaller
smaller-mono x y xs h = tally-mono (λ z. ltb z x) (λ z. ltb z y) (λ z t. lt-ltb z y (omega (arith, ltb-true z x t))) xs

pub smaller-suc : (x : ℕ) (xs : List ℕ) → smaller (suc x) xs ≡ smaller x xs + tally (eqb x) xs
unfolding smaller tally
smaller-suc x [] = refl
smaller-suc x (y ∷ ys) = go (lt-or-ge y x) (eq-or-ne x y) (smaller-suc x ys)
  where
    go : (y < x) ⊎ (x ≤ y) → (x ≡ y) ⊎ (x ≡ y → ⊥) → smaller (suc x) ys ≡ smaller x ys + tally (eqb x) ys
        → smaller (suc x) (y ∷ ys) ≡ smaller x (y ∷ ys) + tally (eqb x) (y ∷ ys)
    go (inl h) (inl e) rest = absurd (omega arith)
    go (inl h) (inr e) rest =
        rw (smaller-lt (suc x) y ys (omega arith), smaller-lt x y ys h, tally-false (eqb x) y ys (ne_eqb x y e)) (omega arith)
    go (inr h) (inl e) rest =
        rw (smaller-lt (suc x) y ys (omega arith), smaller-ge x y ys h, tally-true (eqb x) y ys (eq-eqb x y e)) (omega arith)
    go (inr h) (inr e) rest =
        rw (smaller-ge (suc x) y ys (omega arith), smaller-ge x y ys h, tally-false (eqb x) y ys (ne_eqb x y e)) rest

pub smaller-zero : (xs : List ℕ) → smaller 0 xs ≡ 0
unfolding smaller tally
smaller-zero [] = refl
smaller-zero (x ∷ xs) = smaller-ge 0 x xs zero-le ∙ smaller-zero xs

pub smaller-from : (x a n : ℕ) → smaller x (from a n) ≡ min (x - a) n
unfolding smaller tally from
smaller-from x a zero = omega arith
smaller-from x a (suc n) = go (lt-or-ge a x) (smaller-from x (suc a) n)
  where
    go : (a < x) ⊎ (x ≤ a) → smaller x (from (suc a) n) ≡ min (x - suc a) n → smaller x (a ∷ from (suc a) n) ≡ min (x - a) (suc n)
    go (inl h) rest = rw (smaller-lt x a (from (suc a) n) h) (omega arith)
    go (inr h) rest = rw (smaller-ge x a (from (suc a) n) h) (omega arith)

-- nothing in a list is below x: neither its first nor any of the others
pub smaller-none : (x y : ℕ) (ys : List ℕ) → smaller x (y ∷ ys) ≡ 0 → (x ≤ y) × (smaller x ys ≡ 0)
smaller-none x y ys h = go (lt-or-ge y x)
  where
    go : (y < x) ⊎ (x ≤ y) → (x ≤ y) × (smaller x ys ≡ 0)
    go (inl l) = absurd (omega (arith, smaller-lt x y ys l))
    go (inr l) = (l, sym (smaller-ge x y ys l) ∙ h)

-- ---- an order of 1 to n

once-cons : (n : ℕ) (met : List ℕ) (x : ℕ) (xs : List ℕ) → each_once n met (x ∷ xs) ≡ true
    → (1 ≤ x) × (x ≤ n) × (tally (eqb x) met ≡ 0) × (each_once n (x ∷ met) xs ≡ true)
unfolding each_once
once-cons n met x xs h =
    let f = and-four (leb 1 x) (leb x n) (eqb (tally (eqb x) met) 0) (each_once n (x ∷ met) xs) h in
    (leb-true 1 x f.0, leb-true x n f.1, eqb-true (tally (eqb x) met) 0 f.2, f.3)

cons-once : (n : ℕ) (met : List ℕ) (x : ℕ) (xs : List ℕ) → 1 ≤ x → x ≤ n → tally (eqb x) met ≡ 0 → each_once n (x ∷ met) xs ≡ true
    → each_once n met (x ∷ xs) ≡ true
unfolding each_once
cons-once n met x xs a b c d = rw (le-leb 1 x a, le-leb x n b, c, d)

-- no number of an order is above n
pub once-le : (n : ℕ) (met xs : List ℕ) → each_once n met xs ≡ true → (i : ℕ) → get_or xs i 0 ≤ n
once-le n met [] h i = zero-le
once-le n met (x ∷ xs) h zero = (once-cons n met x xs h).1
once-le n met (x ∷ xs) h (suc i) = once-le n (x ∷ met) xs (once-cons n met x xs h).3 i

-- a number stands once in 1 to n if it is one of them
from-tally : (x n : ℕ) → tally (eqb x) (from 1 n) ≡ min x n - min (x - 1) n
from-tally x n = omega (arith, smaller-suc x (from 1 n), smaller-from (suc x) 1 n, smaller-from x 1 n)

-- one more number that was not met stands in 1 to n as often as before, or once
once-room : (n : ℕ) (met : List ℕ) (x y : ℕ) → 1 ≤ x → x ≤ n → tally (eqb x) met ≡ 0 → (y ≡ x) ⊎ (y ≡ x → ⊥)
    → tally (eqb y) met ≤ tally (eqb y) (from 1 n) → tally (eqb y) (x ∷ met) ≤ tally (eqb y) (from 1 n)
once-room n met x y a b c (inl e) k = rw (e, tally-true (eqb x) x met (eq-eqb x x refl), c, from-tally x n) (omega arith)
once-room n met x y a b c (inr e) k = rw (tally-false (eqb y) x met (ne_eqb y x e)) k

-- no number stands in an order of 1 to n more often than in 1 to n
once-tally : (n : ℕ) (met xs : List ℕ) → each_once n met xs ≡ true → (y : ℕ) → tally (eqb y) met ≤ tally (eqb y) (from 1 n)
    → tally (eqb y) met + tally (eqb y) xs ≤ tally (eqb y) (from 1 n)
unfolding tally
once-tally n met [] h y k = omega arith
once-tally n met (x ∷ xs) h y k =
    let f = once-cons n met x xs h in
    omega (arith, once-tally n (x ∷ met) xs f.3 y (once-room n met x y f.0 f.1 f.2 (eq-or-ne y x) k))

tally-once : (n : ℕ) (met xs : List ℕ) → ((y : ℕ) → tally (eqb y) met + tally (eqb y) xs ≤ tally (eqb y) (from 1 n)) → each_once n met xs ≡ true
unfolding tally each_once
tally-once n met [] h = refl
tally-once n met (x ∷ xs) h =
    let a : suc (tally (eqb x) met) ≤ min x n - min (x - 1) n = omega (arith, h x, tally-true (eqb x) x xs (eq-eqb x x refl), from-tally x n) in
    cons-once n met x xs (omega arith) (omega arith) (omega arith) (tally-once n (x ∷ met) xs (λ y. omega (arith, h y)))

-- a list in which no number stands more often than in another falls behind it, and never gains
falls-behind : (xs ys : List ℕ) → ((y : ℕ) → tally (eqb y) xs ≤ tally (eqb y) ys) → (x z : ℕ) → x ≤ z
    → smaller x ys + smaller z xs ≤ smaller z ys + smaller x xs
falls-behind xs ys h x z k =
    le_ind (λ m. smaller x ys + smaller m xs ≤ smaller m ys + smaller x xs) (le_refl (smaller x ys + smaller x xs))
    (λ m l rest. omega (arith, h m, smaller-suc m xs, smaller-suc m ys)) z k

-- every pane of an order is below what is above n
once-above : (n : ℕ) (met xs : List ℕ) → each_once n met xs ≡ true → (x : ℕ) → n < x → smaller x xs ≡ length xs
unfolding smaller tally
once-above n met [] h x k = refl
once-above n met (y ∷ ys) h x k =
    let f = once-cons n met y ys h in
    smaller-lt x y ys (omega arith) ∙ ap suc (once-above n (y ∷ met) ys f.3 x k)

-- an order of 1 to n has as many panes below x as 1 to n has: it starts level, never gains, and ends level
pub once-smaller : (n : ℕ) (xs : List ℕ) → each_once n [] xs ≡ true → length xs ≡ n → (x : ℕ) → smaller x xs ≡ smaller x (from 1 n)
unfolding tally
once-smaller n xs h k x =
    let least : (y : ℕ) → tally (eqb y) xs ≤ tally (eqb y) (from 1 n) = λ y. omega (arith, once-tally n [] xs h y (zero-le)) in
    let top : ℕ = suc (x + n) in
    omega (
      arith,
      smaller-zero xs,
      smaller-zero (from 1 n),
      falls-behind xs (from 1 n) least 0 x zero-le,
      falls-behind xs (from 1 n) least x top (omega arith),
      once-above n [] xs h top (omega arith),
      smaller-from top 1 n,
    )

pub smaller-once : (n : ℕ) (xs : List ℕ) → ((x : ℕ) → smaller x xs ≡ smaller x (from 1 n)) → each_once n [] xs ≡ true
unfolding tally
smaller-once n xs h = tally-once n [] xs (λ y. omega (arith, smaller-suc y xs, smaller-suc y (from 1 n), h y, h (suc y)))

-- ---- the ordered stack

-- it is a stack: one test, computed over every n, with coats and without
abbrev is_ordered : Bool → ℕ → Bool
is_ordered coated n =
    eqb (length (ordered n)) 12 && each_once n [] (order_of n (ordered n)) && (coated || all non_neg (ordered n)) && all is_unused (drop n (ordered n))

ordered-coated : all (is_ordered true) (from 0 13) ≡ true
unfolding all from tally ordered order_of each_once is_unused
ordered-coated = refl

ordered-plain : all (is_ordered false) (from 0 13) ≡ true
unfolding all from tally ordered order_of each_once is_unused
ordered-plain = refl

pub ordered-stack : (kind n : ℕ) → is_pane_count kind n ≡ true → is_stack kind n (ordered n) ≡ true
unfolding is_stack
ordered-stack kind n in-range = go (is_coated kind)
  where
    go : (coated : Bool) → is_ordered coated n ≡ true
    go true = all-below (is_ordered true) 13 n ordered-coated (omega (arith, panes-twelve kind n in-range))
    go false = all-below (is_ordered false) 13 n ordered-plain (omega (arith, panes-twelve kind n in-range))

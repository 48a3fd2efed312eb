-- Laws of `tally`, the count of the elements that pass a test, of `all`, `any`, `filter` and `total`, and of a list with one element taken out.
use mathlib.Core.Path.{◌≡◌, refl, sym, ap, ap₂, ◌∙◌, subst}
use mathlib.Core.Logic.{◌⊎◌, inl, inr}
use mathlib.Core.Bool.{Bool, true, false, ◌&&◌, ◌||◌, cond, and-true, and_assoc, and_comm, false≢true}
use mathlib.Core.List.{List, [], ◌∷◌, ◌++◌, map, reverse, reverse-cons}
use Prim.Native.Nat.{ℕ, zero, suc, ◌+◌, ◌≤◌, ◌<◌}
use native.Mathlib.Nat.{zero-add, add-zero, add-suc, suc-add, add_assoc, le_refl, le_of_suc-le-suc, not-suc-le-zero}
use native.Mathlib.Numerals.{one-add}
use native.Mathlib.Omega.{arith}
use lib.ListN.{length, get_or, take, replicate}
use Rattle.base.proofs.Tests.{and_left, and_right, and_both, or_right, or_cases}
use Rattle.base.proofs.Lists.{from-length, get_or-from}
use Rattle.base.specs.Words.{all, any, tally, filter, total, from, without}

module _ {A : Type 0} (p : A → Bool) where
  pub tally-append : (xs ys : List A) → tally p (xs ++ ys) ≡ tally p xs + tally p ys
  unfolding tally
  tally-append [] ys = sym (zero-add (tally p ys))
  tally-append (x ∷ xs) ys = rw (tally-append xs ys) (omega arith)

  pub tally-reverse : (xs : List A) → tally p (reverse xs) ≡ tally p xs
  unfolding tally
  tally-reverse [] = refl
  tally-reverse (x ∷ xs) = rw (reverse-cons, tally-append, tally-reverse xs) (omega arith)

  pub tally-true : (x : A) (xs : List A) → p x ≡ true → tally p (x ∷ xs) ≡ suc (tally p xs)
  unfolding tally
  tally-true x xs h = rw h (one-add (tally p xs))

  pub tally-false : (x : A) (xs : List A) → p x ≡ false → tally p (x ∷ xs) ≡ tally p xs
  unfolding tally
  tally-false x xs h = rw h (zero-add (tally p xs))

  -- the count over a list is that of the element at a place and of the others
  pub tally-without : (xs : List A) (i : ℕ) (d : A) → i < length xs → tally p (get_or xs i d ∷ without i xs) ≡ tally p xs
  unfolding tally without
  tally-without [] i d h = absurd (not-suc-le-zero h)
  tally-without (x ∷ xs) zero d h = refl
  tally-without (x ∷ xs) (suc i) d h = omega (arith, tally-without xs i d (le_of_suc-le-suc h))

  pub all_split : (xs ys : List A) → all p (xs ++ ys) ≡ (all p xs && all p ys)
  unfolding all
  all_split [] ys = refl
  all_split (x ∷ xs) ys = rw (all_split xs ys) (sym (and_assoc (p x) (all p xs) (all p ys)))

  pub all-reverse : (xs : List A) → all p (reverse xs) ≡ all p xs
  unfolding all
  all-reverse [] = refl
  all-reverse (x ∷ xs) = rw (reverse-cons, all_split, all-reverse xs, and-true) (and_comm (all p xs) (p x))

  pub all_middle : (xs : List A) (x : A) (ys : List A) → all p (xs ++ (x ∷ ys)) ≡ true → p x ≡ true
  unfolding all
  all_middle [] x ys h = and_left (p x) (all p ys) h
  all_middle (y ∷ xs) x ys h = all_middle xs x ys (and_right (p y) (all p (xs ++ (x ∷ ys))) h)

  pub all_append : (xs ys : List A) → all p xs ≡ true → all p ys ≡ true → all p (xs ++ ys) ≡ true
  unfolding all
  all_append [] ys h k = k
  all_append (x ∷ xs) ys h k =
      and_both (p x) (all p (xs ++ ys)) (and_left (p x) (all p xs) h) (all_append xs ys (and_right (p x) (all p xs) h) k)

  pub all_take : (n : ℕ) (xs : List A) → all p xs ≡ true → all p (take n xs) ≡ true
  unfolding all
  all_take zero xs h = refl
  all_take (suc n) [] h = refl
  all_take (suc n) (x ∷ xs) h =
      and_both (p x) (all p (take n xs)) (and_left (p x) (all p xs) h) (all_take n xs (and_right (p x) (all p xs) h))

  pub all_replicate : (n : ℕ) (x : A) → p x ≡ true → all p (replicate n x) ≡ true
  unfolding all
  all_replicate zero x h = refl
  all_replicate (suc n) x h = and_both (p x) (all p (replicate n x)) h (all_replicate n x h)

module _ {A B : Type 0} (p : B → Bool) (f : A → B) where
  pub tally-map : (xs : List A) → tally p (map f xs) ≡ tally (λ x. p (f x)) xs
  unfolding tally
  tally-map [] = refl
  tally-map (x ∷ xs) = ap (λ (k : ℕ). cond (p (f x)) 1 0 + k) (tally-map xs)

  pub all_map : (xs : List A) → all p (map f xs) ≡ all (λ x. p (f x)) xs
  unfolding all
  all_map [] = refl
  all_map (x ∷ xs) = ap (λ (t : Bool). p (f x) && t) (all_map xs)

-- an element that passes is counted
pub tally-at : {A : Type 0} (p : A → Bool) (xs : List A) (i : ℕ) (d : A) → i < length xs → p (get_or xs i d) ≡ true → 0 < tally p xs
unfolding tally
tally-at p [] i d h e = absurd (not-suc-le-zero h)
tally-at p (x ∷ xs) zero d h e = rw e (omega arith)
tally-at p (x ∷ xs) (suc i) d h e = omega (arith, tally-at p xs i d (le_of_suc-le-suc h) e)

pub tally-le : {A : Type 0} (p : A → Bool) (xs : List A) → tally p xs ≤ length xs
unfolding tally
tally-le p [] = le_refl 0
tally-le p (x ∷ xs) = go (p x) (tally-le p xs)
  where
    go : (t : Bool) → tally p xs ≤ length xs → cond t 1 0 + tally p xs ≤ suc (length xs)
    go true h = omega arith
    go false h = omega arith

-- what implies a test counts no more
pub tally-mono : {A : Type 0} (p q : A → Bool) → ((x : A) → p x ≡ true → q x ≡ true) → (xs : List A) → tally p xs ≤ tally q xs
unfolding tally
tally-mono p q h [] = le_refl 0
tally-mono p q h (x ∷ xs) = go (p x) (q x) (h x) (tally-mono p q h xs)
  where
    go : (s t : Bool) → (s ≡ true → t ≡ true) → tally p xs ≤ tally q xs → cond s 1 0 + tally p xs ≤ cond t 1 0 + tally q xs
    go true t f k = rw (f refl) (omega arith)
    go false true f k = omega arith
    go false false f k = omega arith

pub length_without : {A : Type 0} (xs : List A) (i : ℕ) → i < length xs → suc (length (without i xs)) ≡ length xs
unfolding without
length_without [] i h = absurd (not-suc-le-zero h)
length_without (x ∷ xs) zero h = refl
length_without (x ∷ xs) (suc i) h = ap suc (length_without xs i (le_of_suc-le-suc h))

-- ---- a test of each element

module _ {A : Type 0} (p : A → Bool) where
  pub all-at : (xs : List A) (i : ℕ) (a : A) → all p xs ≡ true → i < length xs → p (get_or xs i a) ≡ true
  unfolding all
  all-at [] i a h l = absurd (not-suc-le-zero l)
  all-at (x ∷ xs) zero a h l = and_left (p x) (all p xs) h
  all-at (x ∷ xs) (suc i) a h l = all-at xs i a (and_right (p x) (all p xs) h) (le_of_suc-le-suc l)

  pub at_all : (xs : List A) (a : A) → ((i : ℕ) → i < length xs → p (get_or xs i a) ≡ true) → all p xs ≡ true
  unfolding all
  at_all [] a h = refl
  at_all (x ∷ xs) a h = and_both (p x) (all p xs) (h 0 (omega arith)) (at_all xs a (λ i l. h (suc i) (omega arith)))

pub all-below : (p : ℕ → Bool) (n i : ℕ) → all p (from 0 n) ≡ true → i < n → p i ≡ true
all-below p n i h l =
    subst (λ (x : ℕ). p x ≡ true) (get_or-from 0 n i 0 l ∙ zero-add i) (all-at p (from 0 n) i 0 h (rw from-length l))

pub below_all : (p : ℕ → Bool) (n : ℕ) → ((i : ℕ) → i < n → p i ≡ true) → all p (from 0 n) ≡ true
below_all p n h = at_all p (from 0 n) 0 (λ i l. go i (rw from-length at l))
  where
    go : (i : ℕ) → i < n → p (get_or (from 0 n) i 0) ≡ true
    go i l = subst (λ (x : ℕ). p x ≡ true) (sym (get_or-from 0 n i 0 l ∙ zero-add i)) (h i l)

-- ---- some element of a list, and what a test leaves of it

module _ {A : Type 0} (p : A → Bool) where
  module _ (a : A) where
    pub any_at : (xs : List A) (i : ℕ) → i < length xs → p (get_or xs i a) ≡ true → any p xs ≡ true
    unfolding any
    any_at [] i l h = absurd (not-suc-le-zero l)
    any_at (x ∷ xs) zero l h = ap (λ (t : Bool). t || any p xs) h
    any_at (x ∷ xs) (suc i) l h = or_right (p x) (any p xs) (any_at xs i (le_of_suc-le-suc l) h)

    pub any_some : (xs : List A) → any p xs ≡ true → (i : ℕ) × (i < length xs) × (p (get_or xs i a) ≡ true)
    unfolding any
    any_some [] h = absurd (false≢true h)
    any_some (x ∷ xs) h = go (or_cases (p x) (any p xs) h) (any_some xs)
      where
        go : (p x ≡ true) ⊎ (any p xs ≡ true) → (any p xs ≡ true → (i : ℕ) × (i < length xs) × (p (get_or xs i a) ≡ true))
            → (i : ℕ) × (i < suc (length xs)) × (p (get_or (x ∷ xs) i a) ≡ true)
        go (inl e) rest = (0, omega arith, e)
        go (inr e) rest = let r = rest e in (suc r.0, omega (arith, r.1), r.2)

    -- what is left passes the test and stands in the list, and what passes it and stands in the list is left
    pub filter-from : (xs : List A) (k : ℕ) → k < length (filter p xs)
        → (i : ℕ) × (i < length xs) × (p (get_or xs i a) ≡ true) × (get_or (filter p xs) k a ≡ get_or xs i a)
    unfolding filter
    filter-from [] k l = absurd (not-suc-le-zero l)
    filter-from (x ∷ xs) k l = go (p x) refl k l (filter-from xs)
      where
        later : (k : ℕ) → ((i : ℕ) × (i < length xs) × (p (get_or xs i a) ≡ true) × (get_or (filter p xs) k a ≡ get_or xs i a))
            → (i : ℕ) × (i < suc (length xs)) × (p (get_or (x ∷ xs) i a) ≡ true) × (get_or (filter p xs) k a ≡ get_or (x ∷ xs) i a)
        later k r = (suc r.0, omega (arith, r.1), r.2, r.3)

        go : (t : Bool) → p x ≡ t → (k : ℕ) → k < length (cond t (x ∷ filter p xs) (filter p xs))
            → ((k : ℕ) → k < length (filter p xs) → (i : ℕ) × (i < length xs) × (p (get_or xs i a) ≡ true) × (get_or (filter p xs) k a ≡ get_or xs i a))
            → (i : ℕ) × (i < suc (length xs)) × (p (get_or (x ∷ xs) i a) ≡ true) × (get_or (cond t (x ∷ filter p xs) (filter p xs)) k a ≡ get_or (x ∷ xs) i a)
        go true e zero l rest = (0, omega arith, e, refl)
        go true e (suc k) l rest = later k (rest k (le_of_suc-le-suc l))
        go false e k l rest = later k (rest k l)

    pub filter-keeps : (xs : List A) (i : ℕ) → i < length xs → p (get_or xs i a) ≡ true
        → (k : ℕ) × (k < length (filter p xs)) × (get_or (filter p xs) k a ≡ get_or xs i a)
    unfolding filter
    filter-keeps [] i l h = absurd (not-suc-le-zero l)
    filter-keeps (x ∷ xs) zero l h = rw h (0, omega arith, refl)
    filter-keeps (x ∷ xs) (suc i) l h = go (p x) (filter-keeps xs i (le_of_suc-le-suc l) h)
      where
        go : (t : Bool) → ((k : ℕ) × (k < length (filter p xs)) × (get_or (filter p xs) k a ≡ get_or xs i a))
            → (k : ℕ) × (k < length (cond t (x ∷ filter p xs) (filter p xs))) × (get_or (cond t (x ∷ filter p xs) (filter p xs)) k a ≡ get_or xs i a)
        go true r = (suc r.0, omega (arith, r.1), r.2)
        go false r = r

-- two tests that agree on a list
module _ {A : Type 0} (p q : A → Bool) (a : A) where
  pub any_same : (xs : List A) → ((i : ℕ) → i < length xs → p (get_or xs i a) ≡ q (get_or xs i a)) → any p xs ≡ any q xs
  unfolding any
  any_same [] same = refl
  any_same (x ∷ xs) same = ap₂ (λ (s t : Bool). s || t) (same 0 (omega arith)) (any_same xs (λ i l. same (suc i) (omega arith)))

  pub filter_same : (xs : List A) → ((i : ℕ) → i < length xs → p (get_or xs i a) ≡ q (get_or xs i a)) → filter p xs ≡ filter q xs
  unfolding filter
  filter_same [] same = refl
  filter_same (x ∷ xs) same =
      ap₂ (λ (t : Bool) (ys : List A). cond t (x ∷ ys) ys) (same 0 (omega arith)) (filter_same xs (λ i l. same (suc i) (omega arith)))

pub total-append : (xs ys : List ℕ) → total (xs ++ ys) ≡ total xs + total ys
unfolding total
total-append [] ys = sym (zero-add (total ys))
total-append (x ∷ xs) ys = ap (λ (m : ℕ). x + m) (total-append xs ys) ∙ sym (add_assoc x (total xs) (total ys))

-- a list by its elements
pub total-from : (xs : List ℕ) (f : ℕ → ℕ) (a : ℕ) → ((i : ℕ) → i < length xs → get_or xs i 0 ≡ f (a + i)) → total xs ≡ total (map f (from a (length xs)))
unfolding total from
total-from [] f a h = refl
total-from (x ∷ xs) f a h =
    ap₂ (λ (m k : ℕ). m + k) (h 0 (omega arith) ∙ ap f (add-zero a))
    (total-from xs f (suc a) (λ i l. h (suc i) (omega arith) ∙ ap f (add-suc a i ∙ sym (suc-add a i))))

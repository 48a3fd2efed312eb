-- Laws on lists: reversal, mapping, cutting, the list of numbers from a on, a list of one element, many times, and what a test leaves.
use mathlib.Core.Path.{◌≡◌, refl, sym, ap, ◌∙◌}
use mathlib.Core.Bool.{Bool, true, false, cond}
use mathlib.Core.List.{List, [], ◌∷◌, ◌++◌, map, reverse, reverse-cons}
use Prim.Native.Nat.{ℕ, zero, suc, ◌+◌, ◌-◌, ◌<◌, ◌≤◌}
use native.Mathlib.Nat.{zero-add, add-zero, suc-add, add-suc, le_of_suc-le-suc, not-suc-le-zero}
use native.Mathlib.Omega.{arith}
use lib.ListN.{length, get_or, take, drop, replicate, length-reverse, length-replicate, get_or-replicate, replicate-append-replicate, get_or-append, get_or-eq_default}
use mathlib.Core.Logic.{◌⊎◌, inl, inr}
use lib.Seq.{get_or_at, take_at}
use Rattle.base.proofs.Tests.{and_left, and_right, lt-or-ge}
use Rattle.base.specs.Words.{all, filter, from}

module _ {A B : Type 0} (f : A → B) where
  pub map-append : (xs ys : List A) → map f (xs ++ ys) ≡ map f xs ++ map f ys
  map-append [] ys = refl
  map-append (x ∷ xs) ys = ap (λ (l : List B). f x ∷ l) (map-append xs ys)

  pub map-reverse : (xs : List A) → map f (reverse xs) ≡ reverse (map f xs)
  map-reverse [] = refl
  map-reverse (x ∷ xs) =
      rw (reverse-cons, reverse-cons) (map-append (reverse xs) (x ∷ []) ∙ ap (λ (l : List B). l ++ (f x ∷ [])) (map-reverse xs))

  pub map-take : (k : ℕ) (xs : List A) → map f (take k xs) ≡ take k (map f xs)
  map-take zero [] = refl
  map-take zero (x ∷ xs) = refl
  map-take (suc k) [] = refl
  map-take (suc k) (x ∷ xs) = ap (λ (l : List B). f x ∷ l) (map-take k xs)

  pub map-drop : (k : ℕ) (xs : List A) → map f (drop k xs) ≡ drop k (map f xs)
  map-drop zero [] = refl
  map-drop zero (x ∷ xs) = refl
  map-drop (suc k) [] = refl
  map-drop (suc k) (x ∷ xs) = map-drop k xs

pub map-id : {A : Type 0} (f : A → A) (xs : List A) → ((x : A) → f x ≡ x) → map f xs ≡ xs
map-id f [] h = refl
map-id f (x ∷ xs) h = λ i. h x i ∷ map-id f xs h i

pub map-map : {A B C : Type 0} (g : B → C) (f : A → B) (xs : List A) → map g (map f xs) ≡ map (λ x. g (f x)) xs
map-map g f [] = refl
map-map g f (x ∷ xs) = ap (λ l. g (f x) ∷ l) (map-map g f xs)

module _ {A : Type 0} where
  pub get_or-last : (xs : List A) (x d : A) (i : ℕ) → i ≡ length xs → get_or (xs ++ (x ∷ [])) i d ≡ x
  get_or-last xs x d i e = get_or_at xs x [] d i (sym e)

  -- the element at a place of a reversed list
  pub get_d_reverse : (xs : List A) (i : ℕ) (d : A) → i < length xs → get_or (reverse xs) i d ≡ get_or xs (length xs - suc i) d
  get_d_reverse [] i d h = absurd (not-suc-le-zero h)
  get_d_reverse (x ∷ xs) i d h = rw (reverse-cons x xs) (go (λ k. get_d_reverse xs i d k) (lt-or-ge i (length xs)))
    where
      go : (i < length xs → get_or (reverse xs) i d ≡ get_or xs (length xs - suc i) d) → (i < length xs) ⊎ (length xs ≤ i)
          → get_or (reverse xs ++ (x ∷ [])) i d ≡ get_or (x ∷ xs) (suc (length xs) - suc i) d
      go rest (inl k) =
          get_or-append (reverse xs) (x ∷ []) d i (rw length-reverse k)
          ∙ rest k
          ∙ ap (λ (j : ℕ). get_or (x ∷ xs) j d) (let e : suc (length xs - suc i) ≡ suc (length xs) - suc i = omega arith in e)
      go rest (inr k) =
          get_or-last (reverse xs) x d i (rw length-reverse (omega arith))
          ∙ ap (λ (j : ℕ). get_or (x ∷ xs) j d) (let e : 0 ≡ suc (length xs) - suc i = omega arith in e)

pub from-length : (a n : ℕ) → length (from a n) ≡ n
unfolding from
from-length a zero = refl
from-length a (suc n) = ap suc (from-length (suc a) n)

pub get_or-from : (a n i d : ℕ) → i < n → get_or (from a n) i d ≡ a + i
unfolding from
get_or-from a zero i d h = absurd (not-suc-le-zero h)
get_or-from a (suc n) zero d h = sym (add-zero a)
get_or-from a (suc n) (suc i) d h = get_or-from (suc a) n i d (le_of_suc-le-suc h) ∙ omega arith

pub get_d_map : {A B : Type 0} (f : A → B) (xs : List A) (i : ℕ) (a : A) (b : B) → i < length xs → get_or (map f xs) i b ≡ f (get_or xs i a)
get_d_map f [] i a b h = absurd (not-suc-le-zero h)
get_d_map f (x ∷ xs) zero a b h = refl
get_d_map f (x ∷ xs) (suc i) a b h = get_d_map f xs i a b (le_of_suc-le-suc h)

-- ---- a list of one element, many times

pub replicate-zero : (n i : ℕ) → get_or {A = ℕ} (replicate n 0) i 0 ≡ 0
replicate-zero n i = go (lt-or-ge i n)
  where
    go : (i < n) ⊎ (n ≤ i) → get_or {A = ℕ} (replicate n 0) i 0 ≡ 0
    go (inl h) = get_or-replicate n i 0 0 h
    go (inr h) = get_or-eq_default (replicate n 0) 0 (rw length-replicate h)

pub take-replicate : {A : Type 0} (w n : ℕ) (a : A) → w ≤ n → take w (replicate n a) ≡ replicate w a
take-replicate w n a h =
    ap (λ (k : ℕ). take w (replicate k a)) (let e : n ≡ w + (n - w) = omega arith in e)
    ∙ ap (take w) (sym (replicate-append-replicate w (n - w) a))
    ∙ take_at (replicate w a) (replicate (n - w) a) w (length-replicate w a)

-- ---- what a test leaves of a list

module _ {A : Type 0} (p : A → Bool) where
  pub length-filter : (xs : List A) → length (filter p xs) ≤ length xs
  unfolding filter
  length-filter [] = omega arith
  length-filter (x ∷ xs) = go (p x) (length-filter xs)
    where
      go : (t : Bool) → length (filter p xs) ≤ length xs → length (cond t (x ∷ filter p xs) (filter p xs)) ≤ suc (length xs)
      go true h = omega arith
      go false h = omega arith

  pub filter-append : (xs ys : List A) → filter p (xs ++ ys) ≡ filter p xs ++ filter p ys
  unfolding filter
  filter-append [] ys = refl
  filter-append (x ∷ xs) ys = go (p x) (filter-append xs ys)
    where
      go : (t : Bool) → filter p (xs ++ ys) ≡ filter p xs ++ filter p ys
          → cond t (x ∷ filter p (xs ++ ys)) (filter p (xs ++ ys)) ≡ cond t (x ∷ filter p xs) (filter p xs) ++ filter p ys
      go true h = ap (λ (zs : List A). x ∷ zs) h
      go false h = h

  -- all of it, if the test holds of all
  pub filter-all : (xs : List A) → all p xs ≡ true → filter p xs ≡ xs
  unfolding filter all
  filter-all [] h = refl
  filter-all (x ∷ xs) h =
      ap (λ (t : Bool). cond t (x ∷ filter p xs) (filter p xs)) (and_left (p x) (all p xs) h)
      ∙ ap (λ (zs : List A). x ∷ zs) (filter-all xs (and_right (p x) (all p xs) h))

-- the numbers up to some, and the others; and up to one more
pub from-split : (a m p : ℕ) → from a (m + p) ≡ from a m ++ from (a + m) p
unfolding from
from-split a zero p = rw (zero-add, add-zero)
from-split a (suc m) p = rw (suc-add, add-suc, ← suc-add) (ap (λ (l : List ℕ). a ∷ l) (from-split (suc a) m p))

pub from_more : (a n : ℕ) → from a (suc n) ≡ from a n ++ ((a + n) ∷ [])
unfolding from
from_more a n = ap (from a) (let e : suc n ≡ n + 1 = omega arith in e) ∙ from-split a n 1

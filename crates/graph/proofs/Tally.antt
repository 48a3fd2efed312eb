-- Counting the numbers below N that pass a test: laws of `tally p (from 0 N)`.
use mathlib.Core.Path.{◌≡◌, refl, sym, ap, ◌∙◌}
use mathlib.Core.Logic.{◌⊎◌, inl, inr}
use mathlib.Core.Bool.{Bool, true, false, not, ◌&&◌, and-true, cond}
use lib.Dec.{ltb, eqb}
use borrow.Author.Tests.{lt-ltb, le-ltb, eq-eqb, ne_eqb}
use mathlib.Core.List.{List, map}
use Prim.Native.Nat.{ℕ, zero, suc, ◌+◌, ◌<◌, ◌≤◌, zero-le}
use native.Mathlib.Nat.{zero-add, add-zero, add-suc}
use native.Mathlib.Numerals.{add-one}
use native.Mathlib.Omega.{arith}
use Rattle.base.specs.Words.{tally, total, from}
use Rattle.base.proofs.Tests.{and_both, and-fails-right, never, test-cases, not-is-false, lt-or-ge, eq-or-ne}
use Rattle.base.proofs.Counting.{tally-append, tally-mono, total-append}
use Rattle.base.proofs.Lists.{map-append, from-split}

pub tally-split : (p : ℕ → Bool) (a m n : ℕ) → tally p (from a (m + n)) ≡ tally p (from a m) + tally p (from (a + m) n)
tally-split p a m n = ap (tally p) (from-split a m n) ∙ tally-append p (from a m) (from (a + m) n)

-- a stretch that starts at c counts as one that starts at 0
pub tally-shift : (p : ℕ → Bool) (c a n : ℕ) → tally p (from (c + a) n) ≡ tally (λ i. p (c + i)) (from a n)
unfolding tally from
tally-shift p c a zero = refl
tally-shift p c a (suc n) = ap (λ (x : ℕ). cond (p (c + a)) 1 0 + x) (rw (← add-suc) (tally-shift p c (suc a) n))

tally-one : (p : ℕ → Bool) (a : ℕ) → tally p (from a 1) ≡ cond (p a) 1 0
unfolding tally from
tally-one p a = add-zero (cond (p a) 1 0)

-- the numbers below N, each lemma by its last one
tally-last : (p : ℕ → Bool) (n : ℕ) → tally p (from 0 (suc n)) ≡ tally p (from 0 n) + cond (p n) 1 0
tally-last p n =
    ap (λ (m : ℕ). tally p (from 0 m)) (sym (add-one n))
    ∙ tally-split p 0 n 1
    ∙ ap (λ (m : ℕ). tally p (from 0 n) + m) (tally-one p (0 + n) ∙ ap (λ (v : ℕ). cond (p v) 1 0) (zero-add n))

-- a test as 0 or 1
cond-le : (t : Bool) → cond {A = ℕ} t 1 0 ≤ 1
cond-le true = omega arith
cond-le false = omega arith

cond-is : {s t : Bool} → s ≡ t → cond {A = ℕ} s 1 0 ≡ cond t 1 0
cond-is e = ap (λ (t : Bool). cond t 1 0) e

pub tally-le : (p : ℕ → Bool) (n : ℕ) → tally p (from 0 n) ≤ n
unfolding tally from
tally-le p zero = omega arith
tally-le p (suc n) = omega (arith, tally-last p n, tally-le p n, cond-le (p n))

pub tally-same : (p q : ℕ → Bool) (n : ℕ) → ((v : ℕ) → v < n → p v ≡ q v) → tally p (from 0 n) ≡ tally q (from 0 n)
unfolding tally from
tally-same p q zero h = refl
tally-same p q (suc n) h =
    omega (arith, tally-last p n, tally-last q n, cond-is (h n (omega arith)), tally-same p q n (λ v k. h v (omega arith)))

pub tally-none : (p : ℕ → Bool) (n : ℕ) → ((v : ℕ) → v < n → p v ≡ false) → tally p (from 0 n) ≡ 0
unfolding tally from
tally-none p zero h = refl
tally-none p (suc n) h = omega (arith, tally-last p n, cond-is (h n (omega arith)), tally-none p n (λ v k. h v (omega arith)))

pub tally-pos : (p : ℕ → Bool) (n v : ℕ) → v < n → p v ≡ true → 0 < tally p (from 0 n)
tally-pos p zero v h e = absurd (omega arith)
tally-pos p (suc n) v h e = go (λ k. tally-pos p n v k e) (eq-or-ne v n)
  where
    go : (v < n → 0 < tally p (from 0 n)) → (v ≡ n) ⊎ (v ≡ n → ⊥) → 0 < tally p (from 0 (suc n))
    go rest (inl i) = omega (arith, tally-last p n, cond-is (sym (ap p i) ∙ e))
    go rest (inr i) = omega (arith, tally-last p n, rest (omega arith))

pub tally-zero : (p : ℕ → Bool) (n : ℕ) → tally p (from 0 n) ≡ 0 → (v : ℕ) → v < n → p v ≡ false
tally-zero p n e v h = not-is-false (p v) (λ i. omega (arith, tally-pos p n v h i))

pub tally-some : (p : ℕ → Bool) (n : ℕ) → 0 < tally p (from 0 n) → (v : ℕ) × (v < n) × (p v ≡ true)
unfolding tally from
tally-some p zero h = absurd (omega arith)
tally-some p (suc n) h = go (λ k. tally-some p n k) (test-cases (p n))
  where
    go : (0 < tally p (from 0 n) → (v : ℕ) × (v < n) × (p v ≡ true)) → (p n ≡ true) ⊎ (p n ≡ false) → (v : ℕ) × (v < suc n) × (p v ≡ true)
    go rest (inl e) = (n, omega arith, e)
    go rest (inr e) = let r = rest (omega (arith, tally-last p n, cond-is e)) in (r.0, omega arith, r.2)

-- two tests that agree but at v
pub tally-change : (p q : ℕ → Bool) (n v : ℕ) → v < n → ((u : ℕ) → u < n → (u ≡ v → ⊥) → q u ≡ p u)
    → tally q (from 0 n) + cond (p v) 1 0 ≡ tally p (from 0 n) + cond (q v) 1 0
tally-change p q zero v h same = absurd (omega arith)
tally-change p q (suc n) v h same = go (λ k. tally-change p q n v k (λ u l. same u (omega arith))) (eq-or-ne v n)
  where
    go : (v < n → tally q (from 0 n) + cond (p v) 1 0 ≡ tally p (from 0 n) + cond (q v) 1 0) → (v ≡ n) ⊎ (v ≡ n → ⊥)
        → tally q (from 0 (suc n)) + cond (p v) 1 0 ≡ tally p (from 0 (suc n)) + cond (q v) 1 0
    go rest (inl i) =
        omega (
          arith,
          tally-last p n,
          tally-last q n,
          cond-is (ap p i),
          cond-is (ap q i),
          tally-same q p n (λ u k. same u (omega arith) (λ j. omega arith)),
        )
    go rest (inr i) = omega (arith, tally-last p n, tally-last q n, rest (omega arith), cond-is (same n (omega arith) (λ j. i (sym j))))

pub tally-one-more : (p q : ℕ → Bool) (n v : ℕ) → v < n → p v ≡ false → q v ≡ true → ((u : ℕ) → u < n → (u ≡ v → ⊥) → q u ≡ p u)
    → tally q (from 0 n) ≡ suc (tally p (from 0 n))
tally-one-more p q n v h e i same = omega (arith, tally-change p q n v h same, cond-is e, cond-is i)

-- what fails where a test holds once more counts less
pub tally-falls : (p q : ℕ → Bool) (n v : ℕ) → v < n → p v ≡ false → q v ≡ true → ((u : ℕ) → p u ≡ true → q u ≡ true)
    → tally p (from 0 n) < tally q (from 0 n)
tally-falls p q n v h e i less =
    let r : ℕ → Bool = λ u. q u && not (eqb u v) in
    omega (
      arith,
      tally-one-more r q n v h
          (and-fails-right (q v) (not (eqb v v)) (ap not (eq-eqb v v refl)))
          i
          (λ u l ne. sym (ap (λ (t : Bool). q u && not t) (ne_eqb u v ne) ∙ and-true (q u))),
      tally-mono p r
          (λ u t. and_both (q u) (not (eqb u v)) (less u t)
          (ap not (ne_eqb u v (λ s. never t (ap p s ∙ e)))))
          (from 0 n),
    )

pub tally-all : (p : ℕ → Bool) (n : ℕ) → ((v : ℕ) → v < n → p v ≡ true) → tally p (from 0 n) ≡ n
unfolding tally from
tally-all p zero h = refl
tally-all p (suc n) h = omega (arith, tally-last p n, cond-is (h n (omega arith)), tally-all p n (λ v k. h v (omega arith)))

-- a test that holds where exactly one of two does counts as both
tally-sum : (p q r : ℕ → Bool) (n : ℕ) → ((v : ℕ) → cond {A = ℕ} (r v) 1 0 ≡ cond (p v) 1 0 + cond (q v) 1 0)
    → tally r (from 0 n) ≡ tally p (from 0 n) + tally q (from 0 n)
unfolding tally from
tally-sum p q r zero h = refl
tally-sum p q r (suc n) h = omega (arith, tally-last p n, tally-last q n, tally-last r n, h n, tally-sum p q r n h)

-- a number below m + 1 is below m or is m
below_next : (x m : ℕ) → cond {A = ℕ} (ltb x (suc m)) 1 0 ≡ cond (ltb x m) 1 0 + cond (eqb x m) 1 0
below_next x m = go (lt-or-ge x m) (eq-or-ne x m)
  where
    above : (x ≡ m → ⊥) → m ≤ x → suc m ≤ x
    above ne l = step (lt-or-ge m x)
      where
        step : (m < x) ⊎ (x ≤ m) → suc m ≤ x
        step (inl h) = omega arith
        step (inr h) = absurd (ne (omega arith))

    go : (x < m) ⊎ (m ≤ x) → (x ≡ m) ⊎ (x ≡ m → ⊥) → cond {A = ℕ} (ltb x (suc m)) 1 0 ≡ cond (ltb x m) 1 0 + cond (eqb x m) 1 0
    go (inl l) e = rw (lt-ltb x m l, lt-ltb x (suc m) (omega arith), ne_eqb x m (λ q. omega arith))
    go (inr l) (inl e) = rw (le-ltb x m l, lt-ltb x (suc m) (omega arith), eq-eqb x m e)
    go (inr l) (inr ne) = rw (le-ltb x m l, le-ltb x (suc m) (above ne l), ne_eqb x m ne)

total-last : (f : ℕ → ℕ) (m : ℕ) → total (map f (from 0 (suc m))) ≡ total (map f (from 0 m)) + f m
unfolding total from
total-last f m =
    ap (λ (k : ℕ). total (map f (from 0 k))) (sym (add-one m))
    ∙ ap (λ (l : List ℕ). total (map f l)) (from-split 0 m 1)
    ∙ ap total (map-append f (from 0 m) (from (0 + m) 1))
    ∙ total-append (map f (from 0 m)) (map f (from (0 + m) 1))
    ∙ ap (λ (x : ℕ). total (map f (from 0 m)) + x) (add-zero (f (0 + m)) ∙ ap f (zero-add m))

-- the tallies of the values 0 to m - 1 add up to that of all values below m
pub tally-values : (D : ℕ → ℕ) (n m : ℕ) → total (map (λ d. tally (λ v. eqb (D v) d) (from 0 n)) (from 0 m)) ≡ tally (λ v. ltb (D v) m) (from 0 n)
unfolding total from
tally-values D n zero = sym (tally-none (λ v. ltb (D v) 0) n (λ v h. le-ltb (D v) 0 zero-le))
tally-values D n (suc m) =
    total-last (λ d. tally (λ v. eqb (D v) d) (from 0 n)) m
    ∙ ap (λ (x : ℕ). x + tally (λ v. eqb (D v) m) (from 0 n)) (tally-values D n m)
    ∙ sym (tally-sum (λ v. ltb (D v) m) (λ v. eqb (D v) m) (λ v. ltb (D v) (suc m)) n (λ v. below_next (D v) m))

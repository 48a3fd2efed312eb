-- The numbering of coats: the bits of the coats, that they are lexicographic, and the panes with the coats that bits say.
use mathlib.Core.Path.{◌≡◌, refl, sym, ap}
use mathlib.Core.Bool.{true, false≢true}
use mathlib.Core.List.{List, [], ◌∷◌, map}
use Prim.Native.Nat.{ℕ, zero, suc, ◌/◌, ◌%◌, ◌^◌, ◌≤◌, ◌<◌}
use native.Mathlib.Nat.{suc_inj, suc-ne-zero, pow-succ', not-suc-le-zero, zero-lt-suc, mod-lt, mod-one, zero-div, le_refl}
use native.Mathlib.Numerals.{one-add}
use native.Mathlib.Omega.{arith}
use lib.Arith.{digits_lt}
use lib.Dec.{ltb, eqb}
use lib.IntN.{ℤ, pos, negsuc, nat_abs}
use lib.ListN.{length, replicate}
use lib.Pow.{mod-pow-add}
use lib.Signed.{non_neg}
use borrow.Author.Tests.{eqb-true}
use Rattle.base.specs.Words.{all}
use Rattle.base.proofs.Tests.{and_left, and_right}
use Rattle.base.proofs.Radix.{digits-ltb}
use Rattle.stacks.specs.Stack.{is_unused}
use Rattle.stacks.specs.Index.{smaller, coat, coat_bits, pane_with, coated_by}
use Rattle.stacks.specs.Order.{lex_less}
use Rattle.stacks.proofs.Panes.{smaller-none}

coat-lt : (x : ℤ) → coat x < 2
unfolding coat
coat-lt (pos x) = zero-lt-suc 1
coat-lt (negsuc x) = le_refl 2

pub coat_bits-lt : (xs : List ℤ) → coat_bits xs < 2 ^ length xs
unfolding coat_bits
coat_bits-lt [] = le_refl 1
coat_bits-lt (x ∷ xs) = rw (pow-succ' 2 (length xs)) (digits_lt (coat-lt x) (coat_bits-lt xs))

pub coat_bits-plain : (xs : List ℤ) → all non_neg xs ≡ true → coat_bits xs ≡ 0
unfolding coat_bits all coat
coat_bits-plain [] h = refl
coat_bits-plain (pos x ∷ xs) h = rw (coat_bits-plain xs h) (omega arith)
coat_bits-plain (negsuc x ∷ xs) h = absurd (false≢true h)

-- the bits of the coats compare as the coats do
pub coat_bits-order : (xs ys : List ℤ) → length xs ≡ length ys → lex_less (map coat xs) (map coat ys) ≡ ltb (coat_bits xs) (coat_bits ys)
unfolding coat_bits lex_less
coat_bits-order [] [] k = refl
coat_bits-order [] (y ∷ ys) k = absurd (suc-ne-zero (length ys) (sym k))
coat_bits-order (x ∷ xs) [] k = absurd (suc-ne-zero (length xs) k)
coat_bits-order (x ∷ xs) (y ∷ ys) k =
    rw (coat_bits-order xs ys (suc_inj k), suc_inj k)
    (sym (digits-ltb (2 ^ length ys) (coat x) (coat_bits xs) (coat y) (coat_bits ys) (rw (← suc_inj k) (coat_bits-lt xs)) (coat_bits-lt ys)))

-- a pane is its number and its coat
pane-same : (x y : ℤ) → nat_abs x ≡ nat_abs y → coat x ≡ coat y → x ≡ y
unfolding coat
pane-same (pos x) (pos y) a c = ap pos a
pane-same (pos x) (negsuc y) a c = absurd (suc-ne-zero 0 (sym c))
pane-same (negsuc x) (pos y) a c = absurd (suc-ne-zero 0 c)
pane-same (negsuc x) (negsuc y) a c = ap negsuc (suc_inj a)

pub panes-same : (xs ys : List ℤ) → map nat_abs xs ≡ map nat_abs ys → map coat xs ≡ map coat ys → xs ≡ ys
panes-same [] [] a c = refl
panes-same [] (y ∷ ys) a c = cc
panes-same (x ∷ xs) [] a c = cc
panes-same (x ∷ xs) (y ∷ ys) a c =
    let p : x ≡ y = pane-same x y (cc) (cc) in
    let q : xs ≡ ys = panes-same xs ys (cc) (cc) in
    λ i. p i ∷ q i

-- ---- the panes with the coats that bits say

pub coated-length : (xs : List ℕ) (bits : ℕ) → length (coated_by xs bits) ≡ length xs
unfolding coated_by
coated-length [] bits = refl
coated-length (x ∷ xs) bits = ap suc (coated-length xs bits)

pub pane-number : (x bit : ℕ) → nat_abs (pane_with x bit) ≡ x
unfolding pane_with
pane-number x zero = refl
pane-number zero (suc bit) = refl
pane-number (suc x) (suc bit) = refl

pub coated-order : (xs : List ℕ) (bits : ℕ) → map nat_abs (coated_by xs bits) ≡ xs
unfolding coated_by
coated-order [] bits = refl
coated-order (x ∷ xs) bits = λ i. pane-number x (bits / 2 ^ length xs % 2) i ∷ coated-order xs bits i

pane-coat : (x bit : ℕ) → 1 ≤ x → bit < 2 → coat (pane_with x bit) ≡ bit
unfolding coat pane_with
pane-coat x zero h k = refl
pane-coat zero (suc bit) h k = absurd (not-suc-le-zero h)
pane-coat (suc x) (suc bit) h k = omega arith

-- the bits are read back, as far as there are panes
pub coated-bits : (xs : List ℕ) (bits : ℕ) → smaller 1 xs ≡ 0 → coat_bits (coated_by xs bits) ≡ bits % 2 ^ length xs
unfolding coated_by coat_bits
coated-bits [] bits h = sym (mod-one bits)
coated-bits (x ∷ xs) bits h =
    let f = smaller-none 1 x xs h in
    let bit : ℕ = bits / 2 ^ length xs % 2 in
    rw (coated-length xs bits, pane-coat x bit f.0 (mod-lt (bits / 2 ^ length xs) (zero-lt-suc 1)), coated-bits xs bits f.1, ← one-add (length xs))
    (sym (mod-pow-add bits 1 (length xs)))

pub coated-plain : (xs : List ℕ) → all non_neg (coated_by xs 0) ≡ true
unfolding coated_by all pane_with
coated-plain [] = refl
coated-plain (x ∷ xs) = rw (zero-div (2 ^ length xs)) (coated-plain xs)

-- ---- unused places are zero

pane-zero : (x : ℤ) → nat_abs x ≡ 0 → x ≡ pos 0
pane-zero (pos x) h = ap pos h
pane-zero (negsuc x) h = absurd (suc-ne-zero x h)

pub unused-zero : (xs : List ℤ) → all is_unused xs ≡ true → xs ≡ replicate (length xs) (pos 0)
unfolding all is_unused
unused-zero [] h = refl
unused-zero (x ∷ xs) h =
    let p : x ≡ pos 0 = pane-zero x (eqb-true (nat_abs x) 0 (and_left (eqb (nat_abs x) 0) (all is_unused xs) h)) in
    let q : xs ≡ replicate (length xs) (pos 0) = unused-zero xs (and_right (eqb (nat_abs x) 0) (all is_unused xs) h) in
    λ i. p i ∷ q i

-- The signed arithmetic of one place: a pane's magnitude, coat and negation, over any integer.
use mathlib.Core.Path.{◌≡◌, refl, ap, ◌∙◌}
use mathlib.Core.Bool.{true, false, true≢false}
use Prim.Native.Nat.{ℕ, zero, suc, ◌%◌, ◌≤◌, ◌<◌, ◌^◌}
use native.Mathlib.Omega.{arith}
use lib.IntN.{ℤ, pos, negsuc, neg_ℤ, nat_abs, ◌-ℤ◌, +ℤ_idl}
use lib.Signed.{mag, lt_z, non_neg}
use borrow.Author.Tests.{ltb-true}
use mir.Syntax.{Width, w8}
use mir.Val.{SFits, to_z, of_z, hbits}
use mir.Facts.{to_z-of_z, to_z_pos}
use Rattle.stacks.specs.Index.{coat, pane_with}
use Rattle.stacks.proofs.CoatLaws.{pane-number}

pub zero-sub : (z : ℤ) → pos 0 -ℤ z ≡ neg_ℤ z
zero-sub z = +ℤ_idl (neg_ℤ z)

pub mag-abs : (z : ℤ) → mag z ≤ nat_abs z
mag-abs (pos n) = omega arith
mag-abs (negsuc n) = omega arith

pub mag-neg : (z : ℤ) → mag (neg_ℤ z) ≤ nat_abs z
mag-neg (pos zero) = omega arith
mag-neg (pos (suc n)) = omega arith
mag-neg (negsuc n) = omega arith

-- a magnitude below half the width fits with the other sign
pub neg-fits : (w : Width) (z : ℤ) → nat_abs z < 2 ^ hbits w → SFits w (neg_ℤ z)
neg-fits w z h = record { sfits = omega (arith, mag-neg z) }

-- a number below 128 is read as it is, and so is its negation
pub byte-negated : (b : ℕ) → pos 0 -ℤ to_z w8 (b % 128) ≡ neg_ℤ (pos (b % 128))
byte-negated b = ap (λ (y : ℤ). pos 0 -ℤ y) (to_z_pos w8 {n = b % 128} (omega arith)) ∙ zero-sub (pos (b % 128))

-- the sign that a test finds
pub below-zero : (z : ℤ) → lt_z z (pos 0) ≡ true → (1 ≡ coat z) × (non_neg (neg_ℤ z) ≡ true) × (nat_abs (neg_ℤ z) ≡ nat_abs z)
unfolding coat
below-zero (pos n) h = absurd (let k : n < 0 = ltb-true n 0 h in omega arith)
below-zero (negsuc n) h = (refl, refl, refl)

pub not-below-zero : (z : ℤ) → lt_z z (pos 0) ≡ false → (0 ≡ coat z) × (non_neg z ≡ true)
unfolding coat
not-below-zero (pos n) h = (refl, refl)
not-below-zero (negsuc n) h = absurd (true≢false h)

-- a place is read back as it was written, and its negation as the negation
module _ {w : Width} {z : ℤ} (f : SFits w z) where
  pub neg-read : pos 0 -ℤ to_z w (of_z w z) ≡ neg_ℤ z
  neg-read = ap (λ (y : ℤ). pos 0 -ℤ y) (to_z-of_z f) ∙ zero-sub z

  pub neg-back : nat_abs z < 2 ^ hbits w → to_z w (of_z w (pos 0 -ℤ to_z w (of_z w z))) ≡ neg_ℤ z
  neg-back h = ap (λ (y : ℤ). to_z w (of_z w y)) neg-read ∙ to_z-of_z (neg-fits w z h)

-- a place of a stack, read back
pub place-back : (z : ℤ) → mag z < 2 ^ hbits w8 → to_z w8 (of_z w8 z) ≡ z
place-back z h = to_z-of_z {w = w8} {z = z} (record { sfits = h })

pub small-back : (z : ℤ) → nat_abs z ≤ 12 → to_z w8 (of_z w8 z) ≡ z
small-back z h = place-back z (omega (arith, mag-abs z))

pub pane-up : (x bit : ℕ) → bit ≡ 0 → pos x ≡ pane_with x bit
unfolding pane_with
pane-up x bit e = rw e

pub pane-down : (x bit : ℕ) → (bit ≡ 0 → ⊥) → neg_ℤ (pos x) ≡ pane_with x bit
unfolding pane_with
pane-down x zero h = absurd (h refl)
pane-down x (suc bit) h = refl

-- a pane that was made so is written and read back as it is
pub pane-back : (x bit : ℕ) (z : ℤ) → x ≤ 12 → z ≡ pane_with x bit → to_z w8 (of_z w8 z) ≡ pane_with x bit
pane-back x bit z h e = small-back z (omega (arith, ap nat_abs e, pane-number x bit)) ∙ e

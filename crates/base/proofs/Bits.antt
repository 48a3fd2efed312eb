-- Bits of a number, by halving, so that no carry has to be followed.
use mathlib.Core.Path.{◌≡◌, refl, sym, ap, ◌∙◌}
use Prim.Native.Nat.{ℕ, zero, suc, ◌+◌, ◌-◌, ◌*◌, ◌/◌, ◌%◌, ◌^◌, ◌≤◌, ◌<◌}
use native.Mathlib.Nat.{mod-lt, pow-suc, div-div-eq-div-mul, pow-succ', div-one, le_of_suc-le-suc, not-suc-le-zero}
use native.Mathlib.Omega.{arith}
use lib.Dec.{lit<}
use lib.Pow.{pow_pos}
use Rattle.base.specs.Words.{bit}

-- as code takes it: by a shift and the remainder by 2
pub bit_is : (s i : ℕ) → s / 2 ^ i % 2 ≡ bit s i
unfolding bit
bit_is s zero = ap (λ (x : ℕ). x % 2) (div-one s)
bit_is s (suc i) =
    ap (λ (x : ℕ). x % 2) (ap (λ (x : ℕ). s / x) (pow-succ' 2 i) ∙ sym (div-div-eq-div-mul s 2 (2 ^ i))) ∙ bit_is (s / 2) i

pub bit-le-one : (s i : ℕ) → bit s i ≤ 1
unfolding bit
bit-le-one s zero = omega (arith, mod-lt s {m = 2} (lit< tt))
bit-le-one s (suc i) = bit-le-one (s / 2) i

pub bit-zero : (i : ℕ) → bit 0 i ≡ 0
unfolding bit
bit-zero zero = refl
bit-zero (suc i) = bit-zero i

-- one bit more

double : (i : ℕ) → 2 ^ suc i ≡ 2 ^ i * 2
double i = pow-suc 2 i

half-put : (s i : ℕ) → (s + 2 ^ suc i) / 2 ≡ s / 2 + 2 ^ i
half-put s i = rw (double i) (omega arith)

pub put_same : (s i : ℕ) → bit s i ≡ 0 → bit (s + 2 ^ i) i ≡ 1
unfolding bit
put_same s zero h = omega arith
put_same s (suc i) h = ap (λ (x : ℕ). bit x i) (half-put s i) ∙ put_same (s / 2) i h

pub put_other : (s i k : ℕ) → bit s i ≡ 0 → (k ≡ i → ⊥) → bit (s + 2 ^ i) k ≡ bit s k
unfolding bit
put_other s zero zero h d = absurd (d refl)
put_other s zero (suc k) h d = ap (λ (x : ℕ). bit x k) (let e : (s + 1) / 2 ≡ s / 2 = omega arith in e)
put_other s (suc i) zero h d = rw (double i) (omega arith)
put_other s (suc i) (suc k) h d = ap (λ (x : ℕ). bit x k) (half-put s i) ∙ put_other (s / 2) i k h (λ e. d (ap suc e))

pub put-lt : (n s i : ℕ) → i < n → s < 2 ^ n → bit s i ≡ 0 → s + 2 ^ i < 2 ^ n
unfolding bit
put-lt zero s i l b h = absurd (not-suc-le-zero l)
put-lt (suc n) s zero l b h = let e = double n in omega arith
put-lt (suc n) s (suc i) l b h =
    let e = double n in
    let f = double i in
    let r : s / 2 + 2 ^ i < 2 ^ n = put-lt n (s / 2) i (le_of_suc-le-suc l) (omega arith) h in
    omega arith

-- one bit less

pub bit_le : (s i : ℕ) → bit s i ≡ 1 → 2 ^ i ≤ s
unfolding bit
bit_le s zero h = omega arith
bit_le s (suc i) h = let e = double i in let r : 2 ^ i ≤ s / 2 = bit_le (s / 2) i h in omega arith

half-take : (s i : ℕ) → bit (s / 2) i ≡ 1 → (s - 2 ^ suc i) / 2 ≡ s / 2 - 2 ^ i
half-take s i h = let r = bit_le (s / 2) i h in rw (double i) (omega arith)

pub take_same : (s i : ℕ) → bit s i ≡ 1 → bit (s - 2 ^ i) i ≡ 0
unfolding bit
take_same s zero h = omega arith
take_same s (suc i) h = ap (λ (x : ℕ). bit x i) (half-take s i h) ∙ take_same (s / 2) i h

pub take-other : (s i k : ℕ) → bit s i ≡ 1 → (k ≡ i → ⊥) → bit (s - 2 ^ i) k ≡ bit s k
unfolding bit
take-other s zero zero h d = absurd (d refl)
take-other s zero (suc k) h d = ap (λ (x : ℕ). bit x k) (let e : (s - 1) / 2 ≡ s / 2 = omega arith in e)
take-other s (suc i) zero h d = let r = bit_le (s / 2) i h in rw (double i) (omega arith)
take-other s (suc i) (suc k) h d = ap (λ (x : ℕ). bit x k) (half-take s i h) ∙ take-other (s / 2) i k h (λ e. d (ap suc e))

-- the lowest n bits

half_full : (n : ℕ) → (2 ^ suc n - 1) / 2 ≡ 2 ^ n - 1
half_full n = let p = pow_pos n in rw (double n) (omega arith)

pub full-in : (n i : ℕ) → i < n → bit (2 ^ n - 1) i ≡ 1
unfolding bit
full-in zero i l = absurd (not-suc-le-zero l)
full-in (suc n) zero l = let p = pow_pos n in rw (double n) (omega arith)
full-in (suc n) (suc i) l = ap (λ (x : ℕ). bit x i) (half_full n) ∙ full-in n i (le_of_suc-le-suc l)

pub full-out : (n i : ℕ) → n ≤ i → bit (2 ^ n - 1) i ≡ 0
unfolding bit
full-out zero i l = bit-zero i
full-out (suc n) zero l = absurd (not-suc-le-zero l)
full-out (suc n) (suc i) l = ap (λ (x : ℕ). bit x i) (half_full n) ∙ full-out n i (le_of_suc-le-suc l)

-- no bit from n up in a number below 2 ^ n
pub bit_high : (n s i : ℕ) → s < 2 ^ n → n ≤ i → bit s i ≡ 0
unfolding bit
bit_high zero s i h l = ap (λ (x : ℕ). bit x i) (let e : s ≡ 0 = omega arith in e) ∙ bit-zero i
bit_high (suc n) s zero h l = absurd (not-suc-le-zero l)
bit_high (suc n) s (suc i) h l = let e = double n in bit_high n (s / 2) i (omega arith) (le_of_suc-le-suc l)

-- A digit of a byte to the base 4, as the machine shifts it: place k is 2 × k bits up, and every sum stays within the byte.
use mathlib.Core.Path.{◌≡◌, refl, sym, ap, ◌∙◌}
use Prim.Native.Nat.{ℕ, zero, suc, ◌+◌, ◌-◌, ◌*◌, ◌/◌, ◌%◌, ◌^◌, ◌<◌, ◌≤◌}
use native.Mathlib.Nat.{mul-suc, pow-suc}
use native.Mathlib.Omega.{arith}
use lib.Pow.{pow-add, shl_exact}
use Rattle.search.specs.Entries.{digit, with_digit}
use Rattle.search.proofs.EntryLaws.{digit_lt, digit-le, with_digit-is}

place_is : (k : ℕ) → 2 ^ (2 * k) ≡ 4 ^ k
place_is zero = refl
place_is (suc k) =
    ap (λ (e : ℕ). 2 ^ e) (mul-suc 2 k) ∙ pow-add 2 (2 * k) 2 ∙ ap (λ (w : ℕ). w * 4) (place_is k) ∙ sym (pow-suc 4 k)

pub digit-shifted : (b k : ℕ) → b / 2 ^ (2 * k) % 4 ≡ digit b k
unfolding digit
digit-shifted b k = ap (λ (w : ℕ). b / w % 4) (place_is k)

-- a digit shifted up to its place loses no bit
up_is : (v k : ℕ) → v < 4 → k < 4 → v * 2 ^ (2 * k) % 256 ≡ v * 4 ^ k
up_is v k h l =
    shl_exact {a = v} 2 (2 * k) 8 h (omega arith) ∙ ap (λ (w : ℕ). v * w) (place_is k)

-- the digit that stands there, shifted down and up again
pub old-is : (b k : ℕ) → k < 4 → b / 2 ^ (2 * k) % 4 * 2 ^ (2 * k) % 256 ≡ digit b k * 4 ^ k
old-is b k h = ap (λ (d : ℕ). d * 2 ^ (2 * k) % 256) (digit-shifted b k) ∙ up_is (digit b k) k (digit_lt b k) h

pub old-le : (b k : ℕ) → k < 4 → b / 2 ^ (2 * k) % 4 * 2 ^ (2 * k) % 256 ≤ b
old-le b k h = omega (arith, old-is b k h, digit-le b k)

pub stored_is : (b k v : ℕ) → k < 4 → v < 4
    → b - b / 2 ^ (2 * k) % 4 * 2 ^ (2 * k) % 256 + v * 2 ^ (2 * k) % 256 ≡ with_digit b k v
stored_is b k v h l = rw (old-is b k h, up_is v k l h) (sym (with_digit-is b k v))

-- Laws of hexadecimal text: digits and their characters, bytes and their pairs, each way.
use mathlib.Core.Path.{◌≡◌, refl, ap, ap₂, ◌∙◌}
use mathlib.Core.Logic.{◌⊎◌, inl, inr}
use mathlib.Core.Bool.{Bool, true, false, ◌&&◌, ◌||◌}
use mathlib.Core.List.{List, [], ◌∷◌}
use Prim.Native.Nat.{ℕ, zero, suc, ◌+◌, ◌-◌, ◌*◌, ◌/◌, ◌%◌, ◌^◌, ◌≤◌, ◌<◌}
use native.Mathlib.Nat.{not-suc-le-zero, zero-add, div-div-eq-div-mul}
use native.Mathlib.Numerals.{add-one}
use native.Mathlib.Omega.{arith}
use lib.Seq.{drop-cons}
use lib.Arith.{mod-mul}
use lib.Dec.{leb, ltb}
use lib.ListN.{length, get_or, take, drop}
use borrow.Author.Tests.{lt-ltb, le-ltb, le-leb, lt-leb, leb-true, ltb-true}
use Rattle.base.specs.Words.{all}
use Rattle.base.proofs.Tests.{lt-or-ge, and_left, and_right, test-cases}
use Rattle.text.specs.Hex.{is_digit, digit_of, digit_char, is_byte, bytes_of, hex_of, line_of, number_from, number_of, four_bytes}

-- ---- digits

or_cases : (a b : Bool) → (a || b) ≡ true → (a ≡ true) ⊎ (b ≡ true)
or_cases true b h = inl refl
or_cases false b h = inr h

decimal-is : (c : ℕ) → 48 ≤ c → c ≤ 57 → is_digit c ≡ true
unfolding is_digit
decimal-is c h l = rw (le-leb 48 c h, le-leb c 57 l)

letter-is : (c : ℕ) → 97 ≤ c → c ≤ 102 → is_digit c ≡ true
unfolding is_digit
letter-is c h l = rw (le-leb 48 c (omega arith), lt-leb c 57 (omega arith), le-leb 97 c h, le-leb c 102 l)

-- a digit is one of ten characters or one of six
digit-cases : (c : ℕ) → is_digit c ≡ true → ((48 ≤ c) × (c ≤ 57)) ⊎ ((97 ≤ c) × (c ≤ 102))
unfolding is_digit
digit-cases c h = go (or_cases (leb 48 c && leb c 57) (leb 97 c && leb c 102) h)
  where
    go : ((leb 48 c && leb c 57) ≡ true) ⊎ ((leb 97 c && leb c 102) ≡ true) → ((48 ≤ c) × (c ≤ 57)) ⊎ ((97 ≤ c) × (c ≤ 102))
    go (inl t) = inl (leb-true 48 c (and_left (leb 48 c) (leb c 57) t), leb-true c 57 (and_right (leb 48 c) (leb c 57) t))
    go (inr t) = inr (leb-true 97 c (and_left (leb 97 c) (leb c 102) t), leb-true c 102 (and_right (leb 97 c) (leb c 102) t))

pub digit_low : (c : ℕ) → is_digit c ≡ true → c ≤ 57 → 48 ≤ c
digit_low c h l = go (digit-cases c h)
  where
    go : ((48 ≤ c) × (c ≤ 57)) ⊎ ((97 ≤ c) × (c ≤ 102)) → 48 ≤ c
    go (inl t) = t.0
    go (inr t) = omega arith

pub digit-high : (c : ℕ) → is_digit c ≡ true → 57 < c → (97 ≤ c) × (c ≤ 102)
digit-high c h l = go (digit-cases c h)
  where
    go : ((48 ≤ c) × (c ≤ 57)) ⊎ ((97 ≤ c) × (c ≤ 102)) → (97 ≤ c) × (c ≤ 102)
    go (inl t) = (omega arith, omega arith)
    go (inr t) = t

-- the value of a digit, by its range
pub digit-none : (c : ℕ) → is_digit c ≡ false → digit_of c ≡ 0
unfolding digit_of
digit-none c h = rw h

pub digit-decimal : (c : ℕ) → is_digit c ≡ true → c ≤ 57 → digit_of c ≡ c - 48
unfolding digit_of
digit-decimal c h l = rw (h, le-leb c 57 l)

pub digit-letter : (c : ℕ) → is_digit c ≡ true → 57 < c → digit_of c ≡ c - 87
unfolding digit_of
digit-letter c h l = rw (h, lt-leb c 57 l)

pub digit_lt : (c : ℕ) → digit_of c < 16
digit_lt c = go (test-cases (is_digit c)) (lt-or-ge 57 c)
  where
    go : (is_digit c ≡ true) ⊎ (is_digit c ≡ false) → (57 < c) ⊎ (c ≤ 57) → digit_of c < 16
    go (inl h) (inl l) = omega (arith, digit-letter c h l, digit-high c h l)
    go (inl h) (inr l) = omega (arith, digit-decimal c h l)
    go (inr h) k = omega (arith, digit-none c h)

-- ---- bytes of pairs

pub bytes-length : (cs : List ℕ) → length (bytes_of cs) ≡ length cs / 2
unfolding bytes_of
bytes-length [] = refl
bytes-length (a ∷ []) = refl
bytes-length (a ∷ b ∷ cs) = omega (arith, bytes-length cs)

pub bytes-at : (cs : List ℕ) (i : ℕ) → 2 * i + 1 < length cs
    → get_or (bytes_of cs) i 0 ≡ digit_of (get_or cs (2 * i) 0) * 16 + digit_of (get_or cs (2 * i + 1) 0)
unfolding bytes_of
bytes-at [] i h = absurd (not-suc-le-zero h)
bytes-at (a ∷ []) i h = absurd (omega arith)
bytes-at (a ∷ b ∷ cs) zero h = refl
bytes-at (a ∷ b ∷ cs) (suc i) h =
    bytes-at cs i (omega arith)
    ∙ ap₂ (λ (j k : ℕ). digit_of (get_or (a ∷ b ∷ cs) j 0) * 16 + digit_of (get_or (a ∷ b ∷ cs) k 0))
    (let e : suc (suc (2 * i)) ≡ 2 * suc i = omega arith in e)
    (let e : suc (suc (2 * i + 1)) ≡ 2 * suc i + 1 = omega arith in e)

-- the bytes of the first pairs are the first bytes
pub bytes_take : (k : ℕ) (cs : List ℕ) → bytes_of (take (2 * k) cs) ≡ take k (bytes_of cs)
unfolding bytes_of
bytes_take zero cs = refl
bytes_take (suc k) [] = rw (let e : 2 * suc k ≡ suc (suc (2 * k)) = omega arith in e)
bytes_take (suc k) (a ∷ []) = rw (let e : 2 * suc k ≡ suc (suc (2 * k)) = omega arith in e)
bytes_take (suc k) (a ∷ b ∷ cs) =
    rw (let e : 2 * suc k ≡ suc (suc (2 * k)) = omega arith in e)
    (ap (λ (l : List ℕ). (digit_of a * 16 + digit_of b) ∷ l) (bytes_take k cs))

-- ---- numbers of four bytes

pub number-at-is : (bs : List ℕ) (i : ℕ) → i + 4 ≤ length bs
    → ((get_or bs i 0 * 256 + get_or bs (i + 1) 0) * 256 + get_or bs (i + 2) 0) * 256 + get_or bs (i + 3) 0 ≡ number_of (take 4 (drop i bs))
unfolding number_of number_from
number-at-is bs i h =
    rw (
      add-one i,
      (let e : i + 2 ≡ suc (suc i) = omega arith in e),
      (let e : i + 3 ≡ suc (suc (suc i)) = omega arith in e),
      drop-cons bs i 0 (omega arith),
      drop-cons bs (suc i) 0 (omega arith),
      drop-cons bs (suc (suc i)) 0 (omega arith),
      drop-cons bs (suc (suc (suc i))) 0 (omega arith),
    )
    (omega arith)

-- four_bytes loses nothing below 2 ^ 32
pub number-four : (x : ℕ) → number_of (four_bytes x) ≡ x % 4294967296
unfolding number_of number_from four_bytes
number-four x =
    rw (
      ← div-div-eq-div-mul x 65536 256,
      ← div-div-eq-div-mul x 256 256,
      zero-add (x / 256 / 256 / 256 % 256),
      ← mod-mul (x / 256 / 256) {m = 256} {c = 256} (omega arith) (omega arith),
      ← mod-mul (x / 256) {m = 65536} {c = 256} (omega arith) (omega arith),
      ← mod-mul x {m = 16777216} {c = 256} (omega arith) (omega arith),
    )

-- a number that wraps at 2 ^ 64 has the same four bytes
pub four-wraps : (x : ℕ) → four_bytes (x % 2 ^ 64) ≡ four_bytes x
unfolding four_bytes
four-wraps x =
    let a : x % 2 ^ 64 / 16777216 % 256 ≡ x / 16777216 % 256 = omega arith in
    let b : x % 2 ^ 64 / 65536 % 256 ≡ x / 65536 % 256 = omega arith in
    let c : x % 2 ^ 64 / 256 % 256 ≡ x / 256 % 256 = omega arith in
    let d : x % 2 ^ 64 % 256 ≡ x % 256 = omega arith in
    rw (a, b, c, d)

-- ---- to hexadecimal and back

char-decimal : (d : ℕ) → d < 10 → digit_char d ≡ d + 48
unfolding digit_char
char-decimal d h = rw (lt-ltb d 10 h)

char-letter : (d : ℕ) → 10 ≤ d → digit_char d ≡ d + 87
unfolding digit_char
char-letter d h = rw (le-ltb d 10 h)

-- the character of a value below 16 has that value
char-value : (d : ℕ) → d < 16 → digit_of (digit_char d) ≡ d
char-value d h = go (lt-or-ge d 10)
  where
    go : (d < 10) ⊎ (10 ≤ d) → digit_of (digit_char d) ≡ d
    go (inl l) =
        let e = char-decimal d l in
        digit-decimal (digit_char d) (decimal-is (digit_char d) (omega arith) (omega arith)) (omega arith) ∙ omega arith
    go (inr l) =
        let e = char-letter d l in
        digit-letter (digit_char d) (letter-is (digit_char d) (omega arith) (omega arith)) (omega arith) ∙ omega arith

-- what bytes are written as, as a line, says those bytes
pub line-says : (bs : List ℕ) → all is_byte bs ≡ true → bytes_of (line_of bs) ≡ bs
unfolding bytes_of line_of hex_of all is_byte
line-says [] h = refl
line-says (b ∷ bs) h =
    let l = ltb-true b 256 (and_left (ltb b 256) (all is_byte bs) h) in
    ap₂ (λ (x : ℕ) (xs : List ℕ). x ∷ xs)
    (omega (arith, char-value (b / 16) (omega arith), char-value (b % 16) (omega arith)))
    (line-says bs (and_right (ltb b 256) (all is_byte bs) h))

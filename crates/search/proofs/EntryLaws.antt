-- Laws of the two-bit entries: a digit of a byte and an entry of a list of bytes, each read after it is set; that the entries tell the bytes;
-- blank entries; the entry that follows.
use mathlib.Core.Path.{◌≡◌, refl, sym, ap, ◌∙◌}
use mathlib.Core.Logic.{◌⊎◌, inl, inr}
use mathlib.Core.List.{List}
use Prim.Native.Nat.{ℕ, zero, suc, ◌+◌, ◌-◌, ◌*◌, ◌/◌, ◌%◌, ◌^◌, ◌<◌, ◌≤◌}
use native.Mathlib.Nat.{mod-lt, mod-add-mod, div-add-mod', div-div-eq-div-mul, div-lt_iff_lt-mul, mul-add-div_right, mul-add-mod_self_right, add_assoc, add-mul, mul_assoc, mul_comm, pow-suc, pow-succ', one-le-pow}
use native.Mathlib.Omega.{arith}
use lib.Arith.{digits_lt, digits_div, digits_mod}
use lib.ListN.{length, get_or, replicate, length-set, length-replicate, get_or-replicate, get_or-eq_default}
use lib.Pow.{pow-add}
use lib.Seq.{get_or-set_same, get_or-set_other, set_out, ext_get_or}
use Rattle.base.proofs.Tests.{lt-or-ge, eq-or-ne}
use Rattle.search.specs.Entries.{digit, with_digit, entry_at, set_entry, next_entry, bytes_for, blank}

place-pos : (k : ℕ) → 0 < 4 ^ k
place-pos k = one-le-pow k 4 (omega arith)

-- the weight of a place, from that of a lower one
place-split : (j k : ℕ) → j < k → 4 ^ k ≡ 4 ^ (k - suc j) * 4 ^ suc j
place-split j k h = ap (λ (e : ℕ). 4 ^ e) (let e : k ≡ k - suc j + suc j = omega arith in e) ∙ pow-add 4 (k - suc j) (suc j)

pub digit_lt : (b k : ℕ) → digit b k < 4
unfolding digit
digit_lt b k = omega arith

-- a byte is what stands above place k, the digit there, and what stands below; another digit changes no more than that
byte-is : (b k : ℕ) → b ≡ (b / 4 ^ suc k * 4 + digit b k) * 4 ^ k + b % 4 ^ k
unfolding digit
byte-is b k =
    sym
    (ap (λ (q : ℕ). (q * 4 + b / 4 ^ k % 4) * 4 ^ k + b % 4 ^ k) (ap (λ (w : ℕ). b / w) (pow-suc 4 k) ∙ sym (div-div-eq-div-mul b (4 ^ k) 4))
    ∙ ap (λ (q : ℕ). q * 4 ^ k + b % 4 ^ k) (div-add-mod' (b / 4 ^ k) 4)
    ∙ div-add-mod' b (4 ^ k))

with-is : (b k v : ℕ) → with_digit b k v ≡ (b / 4 ^ suc k * 4 + v) * 4 ^ k + b % 4 ^ k
unfolding with_digit
with-is b k v =
    ap (λ (w : ℕ). b / 4 ^ suc k * w + v * 4 ^ k + b % 4 ^ k) (pow-suc 4 k)
    ∙ ap (λ (w : ℕ). w + v * 4 ^ k + b % 4 ^ k)
    (ap (λ (w : ℕ). b / 4 ^ suc k * w) (mul_comm (4 ^ k) 4) ∙ sym (mul_assoc (b / 4 ^ suc k) 4 (4 ^ k)))
    ∙ ap (λ (w : ℕ). w + b % 4 ^ k) (sym (add-mul (b / 4 ^ suc k * 4) v (4 ^ k)))

-- the old digit's weight goes, the new one's comes
pub with_digit-sum : (b k v : ℕ) → with_digit b k v + digit b k * 4 ^ k ≡ b + v * 4 ^ k
with_digit-sum b k v =
    omega (
      arith,
      byte-is b k,
      with-is b k v,
      add-mul (b / 4 ^ suc k * 4) (digit b k) (4 ^ k),
      add-mul (b / 4 ^ suc k * 4) v (4 ^ k),
    )

pub digit-le : (b k : ℕ) → digit b k * 4 ^ k ≤ b
digit-le b k = omega (arith, byte-is b k, add-mul (b / 4 ^ suc k * 4) (digit b k) (4 ^ k))

-- how code computes it
pub with_digit-is : (b k v : ℕ) → with_digit b k v ≡ b - digit b k * 4 ^ k + v * 4 ^ k
with_digit-is b k v = omega (arith, with_digit-sum b k v, digit-le b k)

digit-of : (h v k r : ℕ) → v < 4 → r < 4 ^ k → digit ((h * 4 + v) * 4 ^ k + r) k ≡ v
unfolding digit
digit-of h v k r l m = ap (λ (q : ℕ). q % 4) (digits_div (h * 4 + v) m) ∙ digits_mod h l

pub digit-same : (b k v : ℕ) → v < 4 → digit (with_digit b k v) k ≡ v
digit-same b k v h =
    ap (λ (x : ℕ). digit x k) (with-is b k v) ∙ digit-of (b / 4 ^ suc k) v k (b % 4 ^ k) h (mod-lt b (place-pos k))

-- a digit below place k does not see what stands from there up
digit-below : (q r k l : ℕ) → l < k → digit (q * 4 ^ k + r) l ≡ digit r l
unfolding digit
digit-below q r k l h =
    let E = 4 ^ (k - suc l) in
    let e : q * 4 ^ k ≡ q * E * 4 * 4 ^ l =
    ap (λ (w : ℕ). q * w) (place-split l k h)
    ∙ sym (mul_assoc q E (4 ^ suc l))
    ∙ ap (λ (w : ℕ). q * E * w) (pow-succ' 4 l)
    ∙ sym (mul_assoc (q * E) 4 (4 ^ l)) in
    ap (λ (w : ℕ). (w + r) / 4 ^ l % 4) e
    ∙ ap (λ (w : ℕ). w % 4) (mul-add-div_right (place-pos l) (q * E * 4) r)
    ∙ mul-add-mod_self_right (q * E) 4 (r / 4 ^ l)

-- a digit above place k does not see what stands up to there
digit-above : (h r k l : ℕ) → k < l → r < 4 ^ suc k → digit (h * 4 ^ suc k + r) l ≡ h / 4 ^ (l - suc k) % 4
unfolding digit
digit-above h r k l m t =
    let E = 4 ^ (l - suc k) in
    let X = h * 4 ^ suc k + r in
    ap (λ (w : ℕ). X / w % 4) (place-split k l m ∙ mul_comm E (4 ^ suc k))
    ∙ ap (λ (w : ℕ). w % 4) (sym (div-div-eq-div-mul X (4 ^ suc k) E))
    ∙ ap (λ (w : ℕ). w / E % 4) (digits_div h t)

-- a digit and what stands below it, below the weight of the next place
rest_lt : (b k v : ℕ) → v < 4 → v * 4 ^ k + b % 4 ^ k < 4 ^ suc k
rest_lt b k v h = rw (pow-succ' 4 k) (digits_lt h (mod-lt b (place-pos k)))

with_rest : (b k v : ℕ) → with_digit b k v ≡ b / 4 ^ suc k * 4 ^ suc k + (v * 4 ^ k + b % 4 ^ k)
unfolding with_digit
with_rest b k v = add_assoc (b / 4 ^ suc k * 4 ^ suc k) (v * 4 ^ k) (b % 4 ^ k)

pub digit-other : (b k l v : ℕ) → v < 4 → (l ≡ k → ⊥) → digit (with_digit b k v) l ≡ digit b l
digit-other b k l v h ne = go (lt-or-ge l k) (lt-or-ge k l)
  where
    go : (l < k) ⊎ (k ≤ l) → (k < l) ⊎ (l ≤ k) → digit (with_digit b k v) l ≡ digit b l
    go (inl m) s =
        ap (λ (x : ℕ). digit x l) (with-is b k v)
        ∙ digit-below (b / 4 ^ suc k * 4 + v) (b % 4 ^ k) k l m
        ∙ sym (ap (λ (x : ℕ). digit x l) (byte-is b k) ∙ digit-below (b / 4 ^ suc k * 4 + digit b k) (b % 4 ^ k) k l m)
    go (inr m) (inl n) =
        ap (λ (x : ℕ). digit x l) (with_rest b k v)
        ∙ digit-above (b / 4 ^ suc k) (v * 4 ^ k + b % 4 ^ k) k l n (rest_lt b k v h)
        ∙ sym
        (ap (λ (x : ℕ). digit x l) (sym (div-add-mod' b (4 ^ suc k)))
        ∙ digit-above (b / 4 ^ suc k) (b % 4 ^ suc k) k l n (mod-lt b (place-pos (suc k))))
    go (inr m) (inr n) = absurd (ne (omega arith))

pub with_digit-byte : (b k v : ℕ) → b < 256 → k < 4 → v < 4 → with_digit b k v < 256
with_digit-byte b k v h m n =
    let e : 256 ≡ 4 ^ (4 - suc k) * 4 ^ suc k = place-split k 4 m in
    let l : b / 4 ^ suc k < 4 ^ (4 - suc k) = (div-lt_iff_lt-mul (place-pos (suc k))).1 (rw (← e) h) in
    rw (with_rest b k v, e) (digits_lt l (rest_lt b k v n))

pub entry_lt : (bytes : List ℕ) (i : ℕ) → entry_at bytes i < 4
unfolding entry_at
entry_lt bytes i = digit_lt (get_or bytes (i / 4) 0) (i % 4)

pub set-length : (bytes : List ℕ) (i v : ℕ) → length (set_entry bytes i v) ≡ length bytes
unfolding set_entry
set-length bytes i v = length-set bytes (i / 4) (with_digit (get_or bytes (i / 4) 0) (i % 4) v)

-- past the end nothing changes
pub set_past : (bytes : List ℕ) (i v : ℕ) → length bytes ≤ i / 4 → set_entry bytes i v ≡ bytes
unfolding set_entry
set_past bytes i v h = set_out bytes (i / 4) (with_digit (get_or bytes (i / 4) 0) (i % 4) v) h

-- the byte that holds an entry, and the others
set-byte-same : (bytes : List ℕ) (i v : ℕ) → i / 4 < length bytes
    → get_or (set_entry bytes i v) (i / 4) 0 ≡ with_digit (get_or bytes (i / 4) 0) (i % 4) v
unfolding set_entry
set-byte-same bytes i v h = get_or-set_same bytes (i / 4) (with_digit (get_or bytes (i / 4) 0) (i % 4) v) 0 h

set-byte-other : (bytes : List ℕ) (i v k : ℕ) → (k ≡ i / 4 → ⊥) → get_or (set_entry bytes i v) k 0 ≡ get_or bytes k 0
unfolding set_entry
set-byte-other bytes i v k ne = get_or-set_other bytes (i / 4) k (with_digit (get_or bytes (i / 4) 0) (i % 4) v) 0 ne

pub get_set_same : (bytes : List ℕ) (i v : ℕ) → v < 4 → i / 4 < length bytes → entry_at (set_entry bytes i v) i ≡ v
unfolding entry_at
get_set_same bytes i v h l =
    ap (λ (b : ℕ). digit b (i % 4)) (set-byte-same bytes i v l) ∙ digit-same (get_or bytes (i / 4) 0) (i % 4) v h

pub get_set_other : (bytes : List ℕ) (i l v : ℕ) → v < 4 → (l ≡ i → ⊥) → entry_at (set_entry bytes i v) l ≡ entry_at bytes l
unfolding entry_at
get_set_other bytes i l v h ne = go (eq-or-ne (l / 4) (i / 4)) (lt-or-ge (i / 4) (length bytes))
  where
    go : (l / 4 ≡ i / 4) ⊎ (l / 4 ≡ i / 4 → ⊥) → (i / 4 < length bytes) ⊎ (length bytes ≤ i / 4)
        → digit (get_or (set_entry bytes i v) (l / 4) 0) (l % 4) ≡ digit (get_or bytes (l / 4) 0) (l % 4)
    go (inr d) s = ap (λ (b : ℕ). digit b (l % 4)) (set-byte-other bytes i v (l / 4) d)
    go (inl e) (inr m) = ap (λ (bs : List ℕ). digit (get_or bs (l / 4) 0) (l % 4)) (set_past bytes i v m)
    go (inl e) (inl m) =
        rw e
        (ap (λ (b : ℕ). digit b (l % 4)) (set-byte-same bytes i v m)
        ∙ digit-other (get_or bytes (i / 4) 0) (i % 4) (l % 4) v h (λ q. ne (omega arith)))

-- bytes stay bytes
pub set-bytes : (bytes : List ℕ) (i v : ℕ) → v < 4 → ((k : ℕ) → get_or bytes k 0 < 256) → (k : ℕ) → get_or (set_entry bytes i v) k 0 < 256
set-bytes bytes i v h below k = go (eq-or-ne k (i / 4)) (lt-or-ge (i / 4) (length bytes))
  where
    go : (k ≡ i / 4) ⊎ (k ≡ i / 4 → ⊥) → (i / 4 < length bytes) ⊎ (length bytes ≤ i / 4) → get_or (set_entry bytes i v) k 0 < 256
    go (inr ne) s = rw (set-byte-other bytes i v k ne) (below k)
    go (inl e) (inr m) = rw (set_past bytes i v m) (below k)
    go (inl e) (inl m) =
        rw (e, set-byte-same bytes i v m) (with_digit-byte (get_or bytes (i / 4) 0) (i % 4) v (below (i / 4)) (omega arith) h)

-- the four digits tell the byte, and the entries the bytes
of-digits : (b : ℕ) → b < 256 → b ≡ digit b 3 * 64 + digit b 2 * 16 + digit b 1 * 4 + digit b 0
unfolding digit
of-digits b h =
    let one : b ≡ b / 4 * 4 + b / 1 % 4 = omega arith in
    let two : b / 4 ≡ b / 16 * 4 + b / 4 % 4 = sym (div-add-mod' (b / 4) 4) ∙ ap (λ (q : ℕ). q * 4 + b / 4 % 4) (div-div-eq-div-mul b 4 4) in
    let three : b / 16 ≡ b / 64 * 4 + b / 16 % 4 = sym (div-add-mod' (b / 16) 4) ∙ ap (λ (q : ℕ). q * 4 + b / 16 % 4) (div-div-eq-div-mul b 16 4) in
    let four : b / 64 ≡ b / 64 % 4 = omega arith in
    sum b (b / 4) (b / 16) (b / 64) (b / 1 % 4) (b / 4 % 4) (b / 16 % 4) (b / 64 % 4) one two three four
  where
    sum : (b p q r e f g h : ℕ) → b ≡ p * 4 + e → p ≡ q * 4 + f → q ≡ r * 4 + g → r ≡ h → b ≡ h * 64 + g * 16 + f * 4 + e
    sum b p q r e f g h one two three four = omega arith

byte-digits : (b c : ℕ) → b < 256 → c < 256 → ((k : ℕ) → k < 4 → digit b k ≡ digit c k) → b ≡ c
byte-digits b c h l same =
    of-digits b h
    ∙ (λ i. same 3 (omega arith) i * 64 + same 2 (omega arith) i * 16 + same 1 (omega arith) i * 4 + same 0 (omega arith) i)
    ∙ sym (of-digits c l)

entry-digit : (bytes : List ℕ) (k r : ℕ) → r < 4 → entry_at bytes (k * 4 + r) ≡ digit (get_or bytes k 0) r
unfolding entry_at
entry-digit bytes k r h =
    ap (λ (x : ℕ). digit (get_or bytes x 0) ((k * 4 + r) % 4)) (digits_div k h) ∙ ap (digit (get_or bytes k 0)) (digits_mod k h)

pub entries-same : (bs cs : List ℕ) → length bs ≡ length cs → ((k : ℕ) → get_or bs k 0 < 256) → ((k : ℕ) → get_or cs k 0 < 256)
    → ((i : ℕ) → i < 4 * length bs → entry_at bs i ≡ entry_at cs i) → bs ≡ cs
entries-same bs cs long b c same =
    ext_get_or 0 bs cs long
    (λ k h. byte-digits (get_or bs k 0) (get_or cs k 0) (b k) (c k)
    (λ r l. sym (entry-digit bs k r l) ∙ same (k * 4 + r) (omega arith) ∙ entry-digit cs k r l))

pub blank-length : (m : ℕ) → length (blank m) ≡ bytes_for m
unfolding blank
blank-length m = length-replicate (bytes_for m) _

pub blank-bytes : (m k : ℕ) → get_or (blank m) k 0 < 256
unfolding blank
blank-bytes m k = go (lt-or-ge k (bytes_for m))
  where
    go : (k < bytes_for m) ⊎ (bytes_for m ≤ k) → get_or {A = ℕ} (replicate (bytes_for m) 255) k 0 < 256
    go (inl h) = rw (get_or-replicate {A = ℕ} (bytes_for m) k 255 0 h) (omega arith)
    go (inr h) = rw (get_or-eq_default {A = ℕ} (replicate (bytes_for m) 255) 0 {n = k} (omega (arith, blank-length m))) (omega arith)

digit_ones : (k : ℕ) → k < 4 → digit 255 k ≡ 3
unfolding digit
digit_ones zero h = refl
digit_ones (suc zero) h = refl
digit_ones (suc (suc zero)) h = refl
digit_ones (suc (suc (suc zero))) h = refl
digit_ones (suc (suc (suc (suc k)))) h = absurd (omega arith)

pub blank-entry : (m i : ℕ) → i / 4 < bytes_for m → entry_at (blank m) i ≡ 3
unfolding entry_at blank
blank-entry m i h =
    ap (λ (b : ℕ). digit b (i % 4)) (get_or-replicate (bytes_for m) (i / 4) 255 0 h) ∙ digit_ones (i % 4) (omega arith)

pub byte_inside : (i m : ℕ) → i < m → i / 4 < bytes_for m
unfolding bytes_for
byte_inside i m h = omega arith

pub spare-inside : (i m : ℕ) → i < 4 * bytes_for m → i / 4 < bytes_for m
spare-inside i m h = omega arith

pub next-lt : (v : ℕ) → next_entry v < 3
unfolding next_entry
next-lt v = omega arith

pub next-mod : (d : ℕ) → next_entry (d % 3) ≡ (d + 1) % 3
unfolding next_entry
next-mod d = mod-add-mod d 3 1

pub next_level : (d : ℕ) → 1 ≤ d → next_entry ((d - 1) % 3) ≡ d % 3
next_level d h = next-mod (d - 1) ∙ ap (λ (x : ℕ). x % 3) (let e : d - 1 + 1 ≡ d = omega arith in e)

-- Laws of changed lists: the length and the bits of a list that a test gives.
use mathlib.Core.Path.{◌≡◌, refl, sym, ap, ◌∙◌}
use mathlib.Core.Logic.{◌⊎◌, inl, inr}
use mathlib.Core.Bool.{Bool, true, false, ◌&&◌, cond}
use mathlib.Core.List.{List, [], ◌∷◌, map}
use Prim.Native.Nat.{ℕ, zero, suc, ◌+◌, ◌*◌, ◌/◌, ◌%◌, ◌^◌, ◌<◌, ◌≤◌}
use native.Mathlib.Nat.{mod-lt, pow-suc, zero-add}
use native.Mathlib.Omega.{arith}
use lib.Dec.{ltb, eqb}
use lib.ListN.{length, get_or, length-map}
use borrow.Author.Tests.{lt-ltb, le-ltb}
use Rattle.base.specs.Words.{bit, total, from}
use Rattle.base.proofs.Bits.{bit_is, put_same, put_other, bit_high}
use Rattle.base.proofs.Counting.{total-append}
use Rattle.base.proofs.Lists.{from-length, from_more, get_or-from, get_d_map, map-append}
use Rattle.base.proofs.Tests.{eq-or-ne}
use Rattle.search.specs.Changed.{list_bytes, bit_at, byte_of, list_of}

pub list_length : (m : ℕ) (is_set : ℕ → Bool) → length (list_of m is_set) ≡ list_bytes m
unfolding list_of
list_length m is_set = length-map (from 0 (list_bytes m)) _ ∙ from-length 0 (list_bytes m)

-- the byte of the lowest n bits
abbrev pub bits_to : (ℕ → Bool) → ℕ → ℕ
bits_to is_set n = total (map (λ t. cond (is_set t) (2 ^ t) 0) (from 0 n))

pub bits-more : (is_set : ℕ → Bool) (n : ℕ) → bits_to is_set (suc n) ≡ bits_to is_set n + cond (is_set n) (2 ^ n) 0
unfolding total
bits-more is_set n =
    ap (λ (xs : List ℕ). total (map (λ t. cond (is_set t) (2 ^ t) 0) xs)) (from_more 0 n)
    ∙ ap total (map-append (λ t. cond (is_set t) (2 ^ t) 0) (from 0 n) ((0 + n) ∷ []))
    ∙ total-append (map (λ t. cond (is_set t) (2 ^ t) 0) (from 0 n)) (cond (is_set (0 + n)) (2 ^ (0 + n)) 0 ∷ [])
    ∙ ap (λ (t : ℕ). bits_to is_set n + (cond (is_set t) (2 ^ t) 0 + 0)) (zero-add n)
    ∙ omega arith

pub bits-lt : (is_set : ℕ → Bool) (n : ℕ) → bits_to is_set n < 2 ^ n
unfolding total from
bits-lt is_set zero = omega arith
bits-lt is_set (suc n) = rw (bits-more is_set n) (go (is_set n) (bits-lt is_set n))
  where
    go : (t : Bool) → bits_to is_set n < 2 ^ n → bits_to is_set n + cond t (2 ^ n) 0 < 2 ^ suc n
    go true h = omega (arith, pow-suc 2 n)
    go false h = omega (arith, pow-suc 2 n)

bits_at : (is_set : ℕ → Bool) (n t : ℕ) → t < n → bit (bits_to is_set n) t ≡ cond (is_set t) 1 0
bits_at is_set zero t l = absurd (omega arith)
bits_at is_set (suc n) t l = ap (λ (x : ℕ). bit x t) (bits-more is_set n) ∙ go (is_set n) refl (eq-or-ne t n) (bits_at is_set n t)
  where
    none : bit (bits_to is_set n) n ≡ 0
    none = bit_high n (bits_to is_set n) n (bits-lt is_set n) (omega arith)

    go : (b : Bool) → is_set n ≡ b → (t ≡ n) ⊎ (t ≡ n → ⊥) → (t < n → bit (bits_to is_set n) t ≡ cond (is_set t) 1 0)
        → bit (bits_to is_set n + cond b (2 ^ n) 0) t ≡ cond (is_set t) 1 0
    go true e (inl q) rest =
        ap (bit (bits_to is_set n + 2 ^ n)) q ∙ put_same (bits_to is_set n) n none ∙ sym (ap (λ (b : Bool). cond b 1 0) (ap is_set q ∙ e))
    go true e (inr ne) rest = put_other (bits_to is_set n) n t none ne ∙ rest (omega arith)
    go false e (inl q) rest =
        ap (λ (x : ℕ). bit x t) (let z : bits_to is_set n + 0 ≡ bits_to is_set n = omega arith in z)
        ∙ ap (bit (bits_to is_set n)) q ∙ none ∙ sym (ap (λ (b : Bool). cond b 1 0) (ap is_set q ∙ e))
    go false e (inr ne) rest =
        ap (λ (x : ℕ). bit x t) (let z : bits_to is_set n + 0 ≡ bits_to is_set n = omega arith in z) ∙ rest (omega arith)

-- every bit of a list that a test gives: what the test says of a stack, and 0 where there is none
list-every : (m : ℕ) (is_set : ℕ → Bool) (i : ℕ) → i < 8 * list_bytes m → bit_at (list_of m is_set) i ≡ (ltb i m && is_set i)
unfolding bit_at list_of byte_of
list-every m is_set i l =
    ap (λ (x : ℕ). eqb (x / 2 ^ (i % 8) % 2) 1) byte
    ∙ ap (λ (x : ℕ). eqb x 1) (bit_is (byte_of (from_place (i / 8))) (i % 8) ∙ bits_at (from_place (i / 8)) 8 (i % 8) (mod-lt i {m = 8} (omega arith)))
    ∙ ap (λ (x : ℕ). eqb (cond (ltb x m && is_set x) 1 0) 1) (let here : 8 * (i / 8) + i % 8 ≡ i = omega arith in here)
    ∙ back (ltb i m && is_set i)
  where
    from_place : ℕ → ℕ → Bool
    from_place k t = ltb (8 * k + t) m && is_set (8 * k + t)

    byte : get_or (map (λ k. byte_of (λ t. ltb (8 * k + t) m && is_set (8 * k + t))) (from 0 (list_bytes m))) (i / 8) 0
        ≡ byte_of (from_place (i / 8))
    byte =
        get_d_map (λ k. byte_of (λ t. ltb (8 * k + t) m && is_set (8 * k + t))) (from 0 (list_bytes m)) (i / 8) 0 0
        (omega (arith, from-length 0 (list_bytes m)))
        ∙ ap (λ (k : ℕ). byte_of (λ t. ltb (8 * k + t) m && is_set (8 * k + t)))
        (get_or-from 0 (list_bytes m) (i / 8) 0 (omega arith) ∙ zero-add (i / 8))

    back : (t : Bool) → eqb (cond t 1 0) 1 ≡ t
    back true = refl
    back false = refl

pub list-bit : (m : ℕ) (is_set : ℕ → Bool) (i : ℕ) → i < m → bit_at (list_of m is_set) i ≡ is_set i
unfolding list_bytes
list-bit m is_set i l = list-every m is_set i (omega arith) ∙ ap (λ (t : Bool). t && is_set i) (lt-ltb i m l)

-- spare bits are 0
pub list-spare : (m : ℕ) (is_set : ℕ → Bool) (i : ℕ) → m ≤ i → i < 8 * list_bytes m → bit_at (list_of m is_set) i ≡ false
list-spare m is_set i h l = list-every m is_set i l ∙ ap (λ (t : Bool). t && is_set i) (le-ltb i m h)

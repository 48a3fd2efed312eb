-- Two-bit entries (document 01, "Segments and entries"): stack i has its entry in byte ⌊i/4⌋, at the bits of weight 2 × 4^(i mod 4) and
-- 4^(i mod 4). An entry is 0, 1 or 2, the fewest turns modulo 3, or 3 for unseen.
use Rattle.std.specs.Prelude.{not, List, ℕ, suc, ◌+◌, ◌*◌, ◌/◌, ◌%◌, ◌^◌, eqb, get_or, set, replicate}
use Rattle.base.specs.Words.{tally, from}

-- digit k of a byte to the base 4, and the byte with another digit there: what stands above it, the digit, what stands below it
unfoldable pub digit : ℕ → ℕ → ℕ
digit byte k = byte / 4 ^ k % 4

unfoldable pub with_digit : ℕ → ℕ → ℕ → ℕ
with_digit byte k v = byte / 4 ^ suc k * 4 ^ suc k + v * 4 ^ k + byte % 4 ^ k

unfoldable pub entry_at : List ℕ → ℕ → ℕ
entry_at bytes i = digit (get_or bytes (i / 4) 0) (i % 4)

unfoldable pub set_entry : List ℕ → ℕ → ℕ → List ℕ
set_entry bytes i v = set bytes (i / 4) (with_digit (get_or bytes (i / 4) 0) (i % 4) v)

unfoldable pub unseen : ℕ
unseen = 3

-- the entry that follows v
unfoldable pub next_entry : ℕ → ℕ
next_entry v = (v + 1) % 3

-- how many of the first m entries are seen: other than 3
unfoldable pub seen_in : List ℕ → ℕ → ℕ
seen_in bytes m = tally (λ i. not (eqb (entry_at bytes i) unseen)) (from 0 m)

-- how many bytes m entries take, ⌈m/4⌉
unfoldable pub bytes_for : ℕ → ℕ
bytes_for m = (m + 3) / 4

-- m entries and the spare ones of the last byte, all unseen
unfoldable pub blank : ℕ → List ℕ
blank m = replicate (bytes_for m) 255

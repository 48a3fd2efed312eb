-- Changed lists (document 02, F-5): a bit for each stack of a segment, eight to a byte, the low bit first; spare bits are 0.
--   list_bytes   how many bytes the list of m stacks takes, ⌈m/8⌉
--   list_of      the list of m stacks whose bits a test gives
use Rattle.std.specs.Prelude.{Bool, ◌&&◌, cond, List, map, ℕ, ◌+◌, ◌*◌, ◌/◌, ◌%◌, ◌^◌, ltb, eqb, get_or}
use Rattle.base.specs.Words.{total, from}

unfoldable pub list_bytes : ℕ → ℕ
list_bytes m = (m + 7) / 8

-- the bit of stack i is set
unfoldable pub bit_at : List ℕ → ℕ → Bool
bit_at list i = eqb (get_or list (i / 8) 0 / 2 ^ (i % 8) % 2) 1

-- the byte whose bits a test gives, the lowest first
unfoldable pub byte_of : (ℕ → Bool) → ℕ
byte_of is_set = total (map (λ t. cond (is_set t) (2 ^ t) 0) (from 0 8))

unfoldable pub list_of : ℕ → (ℕ → Bool) → List ℕ
list_of m is_set = map (λ k. byte_of (λ t. ltb (8 * k + t) m && is_set (8 * k + t))) (from 0 (list_bytes m))

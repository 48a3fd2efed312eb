-- What we promise of the table of ones and of its text, clause by clause: the theorems of `ones`, and the definitions by which they say it.
use mathlib.Core.Path.{◌≡◌, refl}
use mathlib.Core.Bool.{cond}
use mathlib.Core.List.{List, [], ◌++◌, map}
use Prim.Native.Nat.{ℕ, suc, ◌-◌, ◌*◌, ◌/◌, ◌%◌, ◌≤◌, ◌<◌}
use native.Mathlib.Omega.{arith}
use lib.Bits.{bit_and}
use lib.Count.{ones, ones_in}
use lib.Dec.{eqb}
use lib.ListN.{length, get_or, take, drop}
use Rattle.base.specs.Words.{from}
use Rattle.ones.specs.Ones.{ones_table, clear_lowest, clearings_in, clearings}
use Rattle.ones.proofs.Clearing
use Rattle.ones.proofs.TableLaws
use Rattle.text.specs.Hex.{line_of}
use Rattle.maker.specs.OnesText.{printed_lines, ones_text}
use Rattle.maker.proofs.TextLaws

-- ---- the table

-- it has an entry for each 12-bit set, the number of its ones
table_length : length ones_table ≡ 4096
table_length = TableLaws.table_length

table-ones : (s : ℕ) → s < 4096 → get_or ones_table s 0 ≡ ones s
table-ones = TableLaws.table-ones

table-low : (s : ℕ) → s < 4096 → get_or ones_table s 0 ≤ 12
table-low = TableLaws.table-low

table_is : ones_table ≡ map (ones_in 12) (from 0 4096)
unfolding ones_table
table_is = refl

-- ---- the second reading

-- it agrees at each set
clearings-agree : (s : ℕ) → s < 4096 → clearings s ≡ get_or ones_table s 0
clearings-agree = Clearing.clearings-agree

-- it is how often the lowest one can be cleared until none is left
clearings-are : (s : ℕ) → clearings s ≡ clearings_in 12 s
unfolding clearings
clearings-are s = refl

clearings-none : (s : ℕ) → clearings_in 0 s ≡ 0
unfolding clearings_in
clearings-none s = refl

clearings-more : (j s : ℕ) → clearings_in (suc j) s ≡ cond (eqb s 0) 0 (suc (clearings_in j (clear_lowest 12 s)))
unfolding clearings_in
clearings-more j s = refl

-- the lowest one is the first bit, or among the others; a set without it is s & (s - 1)
lowest-none : (s : ℕ) → clear_lowest 0 s ≡ s
unfolding clear_lowest
lowest-none s = refl

lowest-more : (k s : ℕ) → clear_lowest (suc k) s ≡ cond (eqb (s % 2) 1) (s - 1) (2 * clear_lowest k (s / 2))
unfolding clear_lowest
lowest-more k s = refl

lowest-cleared : (s : ℕ) → s < 4096 → 0 < s → bit_and s (s - 1) ≡ clear_lowest 12 s
lowest-cleared s h p = Clearing.and-clears 12 s h p

-- ---- the text

-- 256 lines of 16 bytes, in order
text_is : ones_text ≡ printed_lines 256 ones_table
unfolding ones_text
text_is = refl

lines_none : (bs : List ℕ) → printed_lines 0 bs ≡ []
unfolding printed_lines
lines_none bs = refl

lines_more : (k : ℕ) (bs : List ℕ) → printed_lines (suc k) bs ≡ line_of (take 16 bs) ++ printed_lines k (drop 16 bs)
unfolding printed_lines
lines_more k bs = refl

-- 33 characters each
text-length : length ones_text ≡ 8448
unfolding ones_text
text-length = TextLaws.lines-length 256 ones_table (omega (arith, TableLaws.table_length))

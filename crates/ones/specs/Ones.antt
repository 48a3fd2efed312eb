-- The table of ones (document 02, F-7): how many ones each 12-bit set has, and a second reading of that number, by clearing the lowest one.
--   set_places         how many bits a set has
--   set_count          how many sets there are
--   ones_table         at each set, the number of ones among its bits
--   clear_lowest k s   a set of k bits without its lowest one
--   clearings s       how often the lowest one can be cleared until none is left
use Rattle.std.specs.Prelude.{cond, List, map, ℕ, zero, suc, ◌-◌, ◌*◌, ◌/◌, ◌%◌, eqb}
use Rattle.std.specs.Int.Count.{ones_in}
use Rattle.base.specs.Words.{from}

abbrev pub set_places : ℕ
set_places = 12

abbrev pub set_count : ℕ
set_count = 4096

unfoldable pub ones_table : List ℕ
ones_table = map (ones_in set_places) (from 0 set_count)

-- the first bit is the lowest one, or the lowest one is among the others
unfoldable pub clear_lowest : ℕ → ℕ → ℕ
clear_lowest zero s = s
clear_lowest (suc k) s = cond (eqb (s % 2) 1) (s - 1) (2 * clear_lowest k (s / 2))

-- in at most j times
unfoldable pub clearings_in : ℕ → ℕ → ℕ
clearings_in zero s = 0
clearings_in (suc j) s = cond (eqb s 0) 0 (suc (clearings_in j (clear_lowest set_places s)))

-- as often as a set has bits is enough
unfoldable pub clearings : ℕ → ℕ
clearings s = clearings_in set_places s

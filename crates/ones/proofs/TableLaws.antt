-- The table of ones at each index.
use mathlib.Core.Path.{◌≡◌, sym, ap, ◌∙◌}
use Prim.Native.Nat.{ℕ, zero, suc, ◌+◌, ◌/◌, ◌%◌, ◌^◌, ◌≤◌, ◌<◌}
use native.Mathlib.Nat.{mod-eq_of_lt, zero-add}
use native.Mathlib.Numerals.{add-one}
use native.Mathlib.Omega.{arith}
use lib.Count.{ones, ones_in, ones_step, ones-le}
use lib.ListN.{length, get_or, length-map}
use lib.Pow.{field, mod-mod-pow}
use Rattle.base.specs.Words.{from}
use Rattle.base.proofs.Lists.{from-length, get_or-from, get_d_map}
use Rattle.ones.specs.Ones.{set_places, set_count, ones_table}

-- the ones among the first k bits
pub ones-mod : (k s : ℕ) → ones (s % 2 ^ k) ≡ ones_in k s
unfolding ones_in ones
ones-mod zero s = ap ones (let e : s % 1 ≡ 0 = omega arith in e)
ones-mod (suc k) s =
    ones_step (s % 2 ^ suc k)
    ∙ ap (λ (x : ℕ). s % 2 ^ x % 2 + ones (s % 2 ^ x / 2)) (sym (add-one k))
    ∙ ap (λ (x : ℕ). x + ones (s % 2 ^ (k + 1) / 2)) (mod-mod-pow s k 1)
    ∙ ap (λ (x : ℕ). s % 2 + ones x) (field s k 1)
    ∙ ap (λ (x : ℕ). s % 2 + x) (ones-mod k (s / 2))

pub table_length : length ones_table ≡ set_count
unfolding ones_table
table_length = length-map (from 0 set_count) (ones_in set_places) ∙ from-length 0 set_count

-- the number of ones at each index
pub table-ones : (s : ℕ) → s < set_count → get_or ones_table s 0 ≡ ones s
unfolding ones_table
table-ones s h =
    get_d_map (ones_in set_places) (from 0 set_count) s 0 0 (rw (from-length 0 set_count) h)
    ∙ ap (ones_in set_places) (get_or-from 0 set_count s 0 h ∙ zero-add s)
    ∙ sym (ones-mod set_places s) ∙ ap ones (mod-eq_of_lt h)

pub table-low : (s : ℕ) → s < set_count → get_or ones_table s 0 ≤ set_places
table-low s h = rw (table-ones s h) (ones-le set_places s h)

-- `perm::set::ones_below` meets its contract: the mask of x low bits leaves the remainder by 2^x, a set of which the table has the ones.
use mathlib.Core.Path.{◌≡◌, ap, ◌∙◌}
use mathlib.Core.List.{List}
use Prim.Native.Nat.{ℕ, ◌-◌, ◌%◌, ◌^◌, ◌≤◌, ◌<◌}
use native.Mathlib.Nat.{lt_trans, lt_of_le_of_lt, mod-le}
use native.Mathlib.Omega.{arith}
use lib.Bits.{bit_and, and_mask, and_le_l}
use lib.Dec.{lit<}
use lib.ListN.{get_or}
use lib.Pow.{pow_pos}
use Rattle.ones.specs.Ones.{set_places, set_count, ones_table}
use Rattle.ones.proofs.TableLaws.{table-ones, table-low}
use Rattle.perm.proofs.Sets.{shifted}
use Rattle.perm.proofs.set.ones_below.Goals as goal

pub overflow_sub-mask : goal.overflow_sub-mask
overflow_sub-mask c = omega (arith, shifted c.args.x c.requires.1, pow_pos c.args.x)

-- what a mask leaves of a set of panes is one, and the table's ones of it are few
masked : (set mask : ℕ) → set < set_count → bit_and set mask < set_count
masked set mask h = lt_of_le_of_lt (and_le_l set mask) h

entry-low : (table : List ℕ) (i : ℕ) → table ≡ ones_table → i < set_count → get_or table i 0 ≤ set_places
entry-low table i e h = rw e (table-low i h)

pub bounds-table-set : goal.bounds-table-set
bounds-table-set c = masked c.args.set _ c.requires.0

pub overflow_cast-result : goal.overflow_cast-result
overflow_cast-result c = record { fits = lt_trans (masked c.args.set _ c.requires.0) (lit< tt) }

pub overflow_cast-result-2 : goal.overflow_cast-result-2
overflow_cast-result-2 c =
    record { fits = lt_of_le_of_lt (entry-low c.table.result.now _ c.table.ensures (masked c.args.set _ c.requires.0)) (lit< tt) }

pub returns : goal.returns
returns c =
    let a = c.args in
    let e = ap (λ (y : ℕ). bit_and a.set (y - 1)) (shifted a.x c.requires.1) ∙ and_mask a.set a.x in
    rw (e, c.table.ensures) (table-ones (a.set % 2 ^ a.x) (lt_of_le_of_lt (mod-le a.set (2 ^ a.x)) c.requires.0))

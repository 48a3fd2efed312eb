-- `twobit::entry::set_entry` meets its contract: the byte that is stored is the one with the new digit, which is a byte.
use mathlib.Core.Path.{ap}
use Prim.Native.Nat.{ℕ, ◌/◌, ◌%◌}
use native.Mathlib.Omega.{arith}
use borrow.Author.Rules.{rules}
use lib.ListN.{get_or, set}
use Rattle.search.proofs.EntryLaws.{with_digit-byte}
use Rattle.search.specs.Entries.{set_entry}
use Rattle.twobit.proofs.Shifts.{old-le, stored_is}
use Rattle.twobit.proofs.entry.set_entry.Goals as goal

pub overflow_cast-at : goal.overflow_cast-at
overflow_cast-at c = search rules

pub overflow_sub-bytes : goal.overflow_sub-bytes
overflow_sub-bytes c = old-le (get_or c.args.bytes.now (c.args.i / 4) 0) (c.args.i % 4) (omega arith)

pub overflow_add-bytes : goal.overflow_add-bytes
overflow_add-bytes c =
    let i = c.args.i in
    let v = c.args.v in
    let b = get_or c.args.bytes.now (i / 4) 0 in
    rw (stored_is b (i % 4) v (omega arith) c.requires.0)
    (record { fits = with_digit-byte b (i % 4) v (c.slice_known-1.given (i / 4)).fits (omega arith) c.requires.0 })

pub returns : goal.returns
unfolding set_entry
returns c =
    let i = c.args.i in
    let bytes = c.args.bytes.now in
    ap (λ (b : ℕ). set bytes (i / 4) b)
    (stored_is (get_or bytes (i / 4) 0) (i % 4) c.args.v (omega arith) c.requires.0)

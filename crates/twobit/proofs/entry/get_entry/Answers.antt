-- `twobit::entry::get_entry` meets its contract.
use Prim.Native.Nat.{◌/◌, ◌%◌}
use borrow.Author.Rules.{rules}
use lib.ListN.{get_or}
use Rattle.search.specs.Entries.{entry_at}
use Rattle.twobit.proofs.Shifts.{digit-shifted}
use Rattle.twobit.proofs.entry.get_entry.Goals as goal

pub overflow_cast-at : goal.overflow_cast-at
overflow_cast-at c = search rules

pub returns : goal.returns
unfolding entry_at
returns c = digit-shifted (get_or c.args.bytes.now (c.args.i / 4) 0) (c.args.i % 4)

-- What the loop of `report::feed` keeps: so far it has come to what the characters before this one do.
use Rattle.std.proofs.Common.{◌≡◌, length, take}
use Rattle.text.specs.Reader.{read_all}
use Rattle.report.proofs.feed.Given as goal

abbrev pub invariant-loop-byte : goal.invariant-loop-byte
invariant-loop-byte g l =
    (length l.table ≡ length l.initial.table) × ((l.now, l.table) ≡ read_all l.initial.now l.initial.table (take l.byte-index l.chunk))

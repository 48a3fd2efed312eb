-- What the loop of `report::run` keeps: what it has come to is what reading some characters from the start comes to.
use Rattle.std.proofs.Common.{◌≡◌, ℕ, List, length}
use Rattle.text.specs.Reader.{new_reader, read_all}
use Rattle.report.proofs.run.Given as goal

abbrev pub invariant-loop : goal.invariant-loop
invariant-loop g l =
    (length l.table ≡ length l.initial.table)
    × (input : List ℕ) × ((l.reader, l.table) ≡ read_all new_reader l.initial.table input)

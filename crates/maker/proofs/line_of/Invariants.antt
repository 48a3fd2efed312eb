-- `maker::line_of` meets its contract. The loop's invariant: i entries are the table's.
use mathlib.Core.Path.{◌≡◌}
use mathlib.Core.List.{List}
use Prim.Native.Nat.{ℕ, ◌*◌}
use lib.ListN.{length, take, drop}
use Rattle.ones.specs.Ones.{ones_table}
use Rattle.maker.specs.OnesText.{line_bytes}
use Rattle.maker.proofs.line_of.Given as goal

-- the table from a line on
abbrev pub rest : ℕ → List ℕ
rest line = drop (line_bytes * line) ones_table

abbrev pub invariant-loop-i : goal.invariant-loop-i
invariant-loop-i l = (length l.bytes ≡ line_bytes) × (take l.i l.bytes ≡ take l.i (rest l.line))

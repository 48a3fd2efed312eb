-- `calls::load::Parents::byte` meets its contract: the bits below t are there.
use mathlib.Core.Path.{◌≡◌}
use mathlib.Core.Bool.{Bool, ◌&&◌}
use Prim.Native.Nat.{ℕ, ◌+◌}
use lib.Dec.{ltb, eqb}
use Rattle.search.specs.Entries.{entry_at}
use Rattle.search.proofs.ChangedLaws.{bits_to}
use Rattle.calls.specs.declared.load.Parents.{Parents}
use Rattle.calls.proofs.load.Parents.byte.Given as goal

-- the test of stack first + t
abbrev pub changed : Parents → ℕ → ℕ → Bool
changed of first t = ltb (first + t) of.stacks && eqb (entry_at of.segment.now (first + t)) of.entry

abbrev pub invariant-loop-t : goal.invariant-loop-t
invariant-loop-t l = l.byte ≡ bits_to (changed l.self l.first) l.t

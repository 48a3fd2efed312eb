-- `calls::load::Parents::fill` meets its contract. The loop's invariant: the first k bytes are the list's and the others as they were.
use mathlib.Core.Path.{◌≡◌}
use mathlib.Core.Bool.{◌&&◌}
use Prim.Native.Nat.{ℕ, ◌+◌, ◌*◌}
use lib.Dec.{ltb, eqb}
use Rattle.search.specs.Changed.{byte_of}
use Rattle.search.specs.Entries.{entry_at}
use Rattle.calls.specs.declared.load.Parents.{Parents}
use Rattle.calls.proofs.Loading.{filled_to}
use Rattle.calls.proofs.load.Parents.fill.Given as goal

-- byte k of the list
abbrev pub byte_at : Parents → ℕ → ℕ
byte_at of k = byte_of (λ t. ltb (8 * k + t) of.stacks && eqb (entry_at of.segment.now (8 * k + t)) of.entry)

abbrev pub invariant-loop-k : goal.invariant-loop-k
invariant-loop-k l = l.list ≡ filled_to (byte_at l.self) l.initial.list l.k

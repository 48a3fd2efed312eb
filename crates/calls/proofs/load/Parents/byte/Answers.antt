-- `calls::load::Parents::byte` meets its contract: the bits below t are there.
use mathlib.Core.Path.{refl, sym, ap, ◌∙◌}
use Prim.Native.Nat.{ℕ, ◌+◌}
use native.Mathlib.Omega.{arith}
use Rattle.base.specs.Words.{total, from}
use Rattle.search.specs.Changed.{byte_of}
use Rattle.search.proofs.ChangedLaws.{bits_to}
use Rattle.calls.proofs.Loading.{one_up, bits-byte, bit-set, bit-clear}
use Rattle.calls.proofs.load.Parents.byte.Invariants.{changed}
use Rattle.calls.proofs.load.Parents.byte.Goals.{then-has, else-has}
use Rattle.calls.proofs.load.Parents.byte.Goals as goal

pub loop-t-init : goal.loop-t-init
unfolding total from
loop-t-init c = refl

pub overflow_add-byte : goal.overflow_add-byte
overflow_add-byte c =
    let a = c.args in
    rw (one_up c.loop-t.t (omega arith))
    (record { fits = bits-byte (changed a.self.now a.first) c.loop-t.t c.loop-t.byte (omega arith) c.loop-t.invariant })

pub loop-t-preserved : goal.loop-t-preserved
loop-t-preserved c =
    let a = c.args in
    let t = changed a.self.now a.first in
    let f = c.has in
    elim c.if-has.branch [
      | then-has w ↦ w.byte-is
          ∙ ap (λ (x : ℕ). c.loop-t.byte + x) (one_up c.loop-t.t (omega arith))
          ∙ bit-set t c.loop-t.t c.loop-t.byte c.loop-t.invariant (sym f.ensures ∙ w.if-has.true)
      | else-has w ↦ w.byte-is
          ∙ bit-clear t c.loop-t.t c.loop-t.byte c.loop-t.invariant (sym f.ensures ∙ w.if-has.false)
    ]

pub returns : goal.returns
unfolding byte_of
returns c =
    let a = c.args in
    c.loop-t.invariant ∙ ap (bits_to (changed a.self.now a.first)) (omega arith)

-- `calls::load::Parents::fill` meets its contract. The loop's invariant: the first k bytes are the list's and the others as they were.
use mathlib.Core.Path.{ap, ◌∙◌}
use mathlib.Core.List.{List, map}
use Prim.Native.Nat.{ℕ}
use native.Mathlib.Omega.{arith}
use lib.ListN.{set}
use Rattle.base.specs.Words.{from}
use Rattle.search.specs.Changed.{list_of}
use Rattle.calls.proofs.Loading.{filled_to, filled_none, filled_more, filled-all}
use Rattle.calls.proofs.load.Parents.fill.Invariants.{byte_at}
use Rattle.calls.proofs.load.Parents.fill.Goals.{In-loop-k}
use Rattle.calls.proofs.load.Parents.fill.Goals as goal

pub loop-k-init : goal.loop-k-init
loop-k-init c = let a = c.args in filled_none (byte_at a.self.now) a.list.now

pub loop-k-preserved : goal.loop-k-preserved
loop-k-preserved c =
    let a = c.args in
    let f = byte_at a.self.now in
    let k = c.loop-k.k in
    ap (λ (xs : List ℕ). set xs k c.byte.result) c.loop-k.invariant
    ∙ ap (set (filled_to f a.list.now k) k) c.byte.ensures
    ∙ filled_more f a.list.now k (omega arith)

pub returns : goal.returns
unfolding list_of
returns c =
    let f = byte_at c.args.self.now in
    c.loop-k.invariant
    ∙ filled-all f c.args.list.now c.loop-k.k (omega arith)
    ∙ ap (λ (n : ℕ). map f (from 0 n)) c.requires

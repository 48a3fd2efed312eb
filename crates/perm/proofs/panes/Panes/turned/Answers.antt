-- `perm::panes::Panes::turned` meets its contract. The loop's invariant: the group is reversed, and its places above x are flipped.
use native.Mathlib.Omega.{arith}
use mathlib.Core.Path.{sym}
use mir.Syntax.{w8}
use mir.Val.{to_z, of_z}
use Prim.Native.Nat.{◌-◌, ◌<◌}
use Rattle.stacks.proofs.KindLaws.{panes-twelve}
use Rattle.perm.specs.Panes.{kind_of}
use Rattle.perm.proofs.Group.{group-within, pane-read, pane-flipped, half-at, half-more, half-all}
use Rattle.perm.proofs.panes.Panes.turned.Goals as goal

pub slice_bounds-next-end : goal.slice_bounds-next-end
slice_bounds-next-end c =
    let a = c.args in
    (group-within (kind_of a.self) a.self.n a.k a.stack a.self.in_range c.requires.0 c.requires.1).0

pub slice_bounds-group-end : goal.slice_bounds-group-end
slice_bounds-group-end c =
    let a = c.args in
    sym (group-within (kind_of a.self) a.self.n a.k a.stack a.self.in_range c.requires.0 c.requires.1).1

pub loop-x-init : goal.loop-x-init
loop-x-init c = c.reverse.ensures.after

pub flipped-requires : goal.flipped-requires
flipped-requires c =
    let a = c.args in
    let p = c.loop-x.x-index in
    let w = group-within (kind_of a.self) a.self.n a.k a.stack a.self.in_range c.requires.0 c.requires.1 in
    let here : p < a.k = omega (arith, w.1, c.reverse.ensures.len) in
    rw (half-at (kind_of a.self) a.k a.stack w.0 p c.loop-x.x-items c.loop-x.invariant here)
    (pane-read (kind_of a.self) a.self.n a.stack c.requires.0 (panes-twelve (kind_of a.self) a.self.n a.self.in_range) (a.k - 1 - p) (omega arith))

pub loop-x-preserved : goal.loop-x-preserved
loop-x-preserved c =
    let a = c.args in
    let p = c.loop-x.x-index in
    let w = group-within (kind_of a.self) a.self.n a.k a.stack a.self.in_range c.requires.0 c.requires.1 in
    let here : p < a.k = omega (arith, w.1, c.reverse.ensures.len) in
    let read = half-at (kind_of a.self) a.k a.stack w.0 p c.loop-x.x-items c.loop-x.invariant here in
    half-more (kind_of a.self) a.k a.stack w.0 p c.loop-x.x-items c.loop-x.invariant here (to_z w8 (of_z w8 c.flipped.result))
    (pane-flipped (kind_of a.self) a.self.n a.stack c.requires.0 (panes-twelve (kind_of a.self) a.self.n a.self.in_range) (a.k - 1 - p) (omega arith) c.flipped.result (rw read at c.flipped.ensures))

pub returns : goal.returns
returns c =
    let a = c.args in
    let w = group-within (kind_of a.self) a.self.n a.k a.stack a.self.in_range c.requires.0 c.requires.1 in
    half-all (kind_of a.self) a.k a.stack w.0 c.loop-x.x-index c.loop-x.x-items c.loop-x.invariant (omega (arith, w.1, c.reverse.ensures.len))

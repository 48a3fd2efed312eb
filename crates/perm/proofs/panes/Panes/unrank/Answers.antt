-- `perm::panes::Panes::unrank` meets its contract. The loop's invariant: the free panes are in the set, and what is left of the index orders them.
use Prim.Native.Nat.{ℕ, ◌+◌, ◌-◌, ◌/◌, ◌%◌, ◌^◌, ◌<◌}
use native.Mathlib.Omega.{arith}
use lib.IntN.{ℤ}
use mathlib.Core.List.{List}
use mir.Syntax.{w8}
use mir.Val.{to_z, of_z}
use lib.Pow.{pow_pos}
use Rattle.base.proofs.Bits.{bit_le}
use Rattle.base.proofs.Numbers.{fact-pos}
use Rattle.stacks.specs.Index.{stack_at}
use Rattle.stacks.proofs.KindLaws.{panes-twelve, coatings-pos}
use Rattle.perm.specs.Panes.{kind_of}
use Rattle.perm.proofs.Sets.{pow-twelve, shifted}
use Rattle.perm.proofs.Signed.{pane-back}
use Rattle.perm.proofs.Unranking.{unranked-start, unranked-room, unranked-within, unranked-step, unranked-end}
use Rattle.perm.proofs.panes.Panes.unrank.Goals.{At-loop-p}
use Rattle.perm.proofs.panes.Panes.unrank.Goals as goals

-- the stack at the index, and its coats
abbrev goal : At-loop-p → List ℤ
goal a = stack_at (kind_of a.args.self) a.args.self.n a.args.index

abbrev coats : At-loop-p → ℕ
coats a = a.args.index % a.coatings-ways.result

pub coatings-ways-requires : goals.coatings-ways-requires
coatings-ways-requires c = panes-twelve (kind_of c.args.self) c.args.self.n c.args.self.in_range

pub nonzero_rem-coats : goals.nonzero_rem-coats
nonzero_rem-coats c = omega (arith, c.coatings-ways.ensures, coatings-pos (kind_of c.args.self) c.args.self.n)

pub nonzero_div-left : goals.nonzero_div-left
nonzero_div-left c = omega (arith, c.coatings-ways.ensures, coatings-pos (kind_of c.args.self) c.args.self.n)

pub overflow_shl-free : goals.overflow_shl-free
overflow_shl-free c = omega (arith, panes-twelve (kind_of c.args.self) c.args.self.n c.args.self.in_range)

pub overflow_sub-free : goals.overflow_sub-free
overflow_sub-free c =
    let n = c.args.self.n in
    omega (arith, shifted n (panes-twelve (kind_of c.args.self) n c.args.self.in_range), pow_pos n)

pub loop-p-init : goals.loop-p-init
loop-p-init c =
    let a = c.args in
    unranked-start (kind_of a.self) a.self.n a.index c.coatings-ways.result c.args.self.in_range c.requires c.coatings-ways.ensures

pub factorial-f-requires : goals.factorial-f-requires
factorial-f-requires c = omega (arith, panes-twelve (kind_of c.args.self) c.args.self.n c.args.self.in_range)

pub nonzero_div-left-in-loop-p : goals.nonzero_div-left-in-loop-p
nonzero_div-left-in-loop-p c = omega (arith, c.factorial-f.ensures, fact-pos (c.args.self.n - 1 - c.loop-p.p))

pub nth_one-pane-requires : goals.nth_one-pane-requires
nth_one-pane-requires c =
    let a = c.before.before in
    let n = a.args.self.n in
    let u = a.loop-p.invariant in
    let here : a.loop-p.p < n = omega arith in
    let twelve = panes-twelve (kind_of a.args.self) n a.args.self.in_range in
    let digit = c.factorial-f in (
      omega (arith, u.are-free.bound, pow-twelve n twelve),
      omega (
        arith,
        twelve,
        unranked-room n (coats a) (goal a) a.loop-p.left a.loop-p.free a.loop-p.stack a.loop-p.p u digit.result here digit.ensures,
      ),
      unranked-within n (coats a) (goal a) a.loop-p.left a.loop-p.free a.loop-p.stack a.loop-p.p u digit.result here digit.ensures,
    )

pub nonzero_rem-left : goals.nonzero_rem-left
nonzero_rem-left c = nonzero_div-left-in-loop-p c.before

pub overflow_shl-free-in-loop-p : goals.overflow_shl-free-in-loop-p
overflow_shl-free-in-loop-p c = omega (arith, c.nth_one-pane.ensures.low)

pub overflow_sub-free-in-loop-p : goals.overflow_sub-free-in-loop-p
overflow_sub-free-in-loop-p c =
    let v = c.nth_one-pane.result in
    omega (arith, shifted v (omega (arith, c.nth_one-pane.ensures.low)), bit_le c.loop-p.free v c.nth_one-pane.ensures.is_one)

pub overflow_add-pane : goals.overflow_add-pane
overflow_add-pane c = record { fits = omega (arith, c.nth_one-pane.ensures.low) }

pub overflow_shr-coats : goals.overflow_shr-coats
overflow_shr-coats c = omega (arith, panes-twelve (kind_of c.args.self) c.args.self.n c.args.self.in_range)

pub pane_with-requires : goals.pane_with-requires
pane_with-requires c = omega (arith, c.nth_one-pane.ensures.low)

pub bounds-stack-p : goals.bounds-stack-p
bounds-stack-p c = omega (arith, panes-twelve (kind_of c.args.self) c.args.self.n c.args.self.in_range)

pub loop-p-preserved : goals.loop-p-preserved
loop-p-preserved c =
    let a = c.before.before.before.before in
    let n = a.args.self.n in
    let v = c.nth_one-pane.result in
    let twelve = panes-twelve (kind_of a.args.self) n a.args.self.in_range in
    let bit : ℕ = coats a / 2 ^ (n - 1 - a.loop-p.p) % 2 in
    unranked-step n (coats a) (goal a) a.loop-p.left a.loop-p.free a.loop-p.stack a.loop-p.p a.loop-p.invariant
    c.factorial-f.result (omega arith) c.factorial-f.ensures twelve
    v c.nth_one-pane.ensures (to_z w8 (of_z w8 c.pane_with.result))
    (pane-back (v + 1) bit c.pane_with.result (omega (arith, c.nth_one-pane.ensures.low)) c.pane_with.ensures)

pub returns : goals.returns
returns c =
    let a = c.before in
    unranked-end a.args.self.n (coats a) (goal a) a.loop-p.left a.loop-p.free a.loop-p.stack a.loop-p.p a.loop-p.invariant (omega arith)

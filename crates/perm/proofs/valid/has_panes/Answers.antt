-- `perm::valid::has_panes` meets its contract. The loop's invariant: the set holds the panes above place p, and the rest decides for all.
use mathlib.Core.Path.{◌≡◌, sym, ap, ◌∙◌}
use mathlib.Core.Bool.{true}
use Prim.Native.Nat.{◌+◌, ◌-◌, ◌*◌, ◌%◌, ◌^◌}
use native.Mathlib.Omega.{arith}
use lib.IntN.{ℤ, pos, nat_abs}
use lib.ListN.{get_or, take}
use Rattle.stacks.specs.Stack.{order_of}
use Rattle.perm.proofs.Sets.{pow-twelve, shifted}
use Rattle.perm.proofs.Signed.{place-back}
use Rattle.perm.proofs.Places.{Met, is_new, new-facts, met_start, met-step, met-stop, met-end, order-read, order-long}
use Rattle.perm.proofs.valid.has_panes.Goals.{After-is_new}
use Rattle.perm.proofs.valid.has_panes.Goals as goal

pub loop-x-init : goal.loop-x-init
loop-x-init c = (met_start c.args.n (order_of c.args.n c.args.stack))

-- the magnitude is the order's pane at the place
pane-is : (c : After-is_new)
    → let a = c.before.before.before.before in
    c.magnitude-pane.result ≡ get_or (order_of a.args.n a.args.stack) a.loop-x.x-index 0
pane-is c =
    let a = c.before.before.before.before in
    let x : ℤ = get_or (take a.args.n a.args.stack) a.loop-x.x-index (pos 0) in
    c.magnitude-pane.ensures ∙ ap nat_abs (place-back x c.magnitude-arg-1.given) ∙ sym (order-read a.args.n a.args.stack a.loop-x.x-index)

-- where the loop goes on, it is new
is-new : (c : goal.Else-not-is_new)
    → let a = c.before.before.before.before.before in is_new a.args.n a.loop-x.met c.magnitude-pane.result ≡ true
is-new c = sym c.is_new.ensures ∙ c.if-not-is_new.false

pub returns-then-not-is_new : goal.returns-then-not-is_new
returns-then-not-is_new c =
    let a = c.before.before.before.before.before in
    let n = a.args.n in
    let s = a.args.stack in
    met-stop n (order_of n s) a.loop-x.met a.loop-x.x-index a.loop-x.invariant c.magnitude-pane.result (omega (arith, order-long n s))
    (pane-is (goal.at.returns-then-not-is_new c).After-is_new) (sym c.is_new.ensures ∙ c.if-not-is_new.true)

pub overflow_sub-met : goal.overflow_sub-met
overflow_sub-met c =
    let a = c.before.before.before.before.before in
    (new-facts a.args.n a.loop-x.met c.magnitude-pane.result (is-new c)).0

pub overflow_shl-met : goal.overflow_shl-met
overflow_shl-met c =
    let a = c.before.before.before.before.before in
    omega (arith, (new-facts a.args.n a.loop-x.met c.magnitude-pane.result (is-new c)).1)

met_next : (c : goal.Else-not-is_new)
    → let a = c.before.before.before.before.before in
    Met a.args.n (order_of a.args.n a.args.stack) (a.loop-x.met + 1 * 2 ^ (c.magnitude-pane.result - 1) % 4294967296) (a.loop-x.x-index + 1)
met_next c =
    let a = c.before.before.before.before.before in
    let n = a.args.n in
    let s = a.args.stack in
    let x = c.magnitude-pane.result in
    rw (shifted (x - 1) (omega (arith, (new-facts n a.loop-x.met x (is-new c)).1)))
    (met-step n (order_of n s) a.loop-x.met a.loop-x.x-index a.loop-x.invariant x (omega (arith, order-long n s)) (pane-is c.before) (is-new c))

pub overflow_add-met : goal.overflow_add-met
overflow_add-met c =
    let a = c.before.before.before.before.before in
    record { fits = omega (arith, (met_next c).bound, pow-twelve a.args.n (omega arith)) }

pub loop-x-preserved : goal.loop-x-preserved
loop-x-preserved c =
    met_next c

pub returns : goal.returns
returns c =
    let s = c.args.stack in
    let n = c.args.n in
    met-end n (order_of n s) c.loop-x.met c.loop-x.x-index c.loop-x.invariant (omega (arith, order-long n s))

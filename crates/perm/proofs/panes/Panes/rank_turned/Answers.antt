-- `perm::panes::Panes::rank_turned` meets its contract. The loop's invariant: of the turned stack, what stands above place p is ranked.
use mathlib.Core.Path.{◌≡◌, sym, subst, ◌∙◌}
use Prim.Native.Nat.{ℕ, ◌+◌, ◌-◌, ◌*◌, ◌%◌, ◌^◌, ◌<◌}
use native.Mathlib.Omega.{arith}
use lib.IntN.{pos}
use lib.ListN.{get_or}
use mir.Syntax.{w8}
use mir.Val.{to_z, of_z}
use Rattle.stacks.specs.Turn.{turn_of}
use Rattle.stacks.proofs.KindLaws.{panes-twelve}
use Rattle.stacks.proofs.TurnLaws.{turn-stack}
use Rattle.perm.specs.Panes.{kind_of}
use Rattle.perm.specs.declared.numbering.Ranking.{Ranking}
use Rattle.perm.proofs.Sets.{shifted}
use Rattle.perm.proofs.Group.{pane-read, pane-flipped, turned-at}
use Rattle.perm.proofs.Ranking.{Ranked, is-nothing, ranked-start, ranked-fits, ranked-step}
use Rattle.perm.proofs.Below.{TurnedIndex, turned-index}
use Rattle.perm.proofs.panes.Panes.rank_turned.Goals.{After-factorial-orders}
use Rattle.perm.proofs.panes.Panes.rank_turned.Goals as goal

pub loop-p-init : goal.loop-p-init
loop-p-init c =
    rw (is-nothing c.default-above.result c.default-above.ensures) (let a = c.args in
    ranked-start a.self.n (turn_of (kind_of a.self) a.k a.stack.now))

pub bounds-stack-group : goal.bounds-stack-group
bounds-stack-group c = omega (arith, panes-twelve (kind_of c.args.self) c.args.self.n c.args.self.in_range)

pub flipped-x-requires : goal.flipped-x-requires
flipped-x-requires c =
    let a = c.before.before in
    pane-read (kind_of a.args.self) a.args.self.n a.args.stack.now a.requires.0 (panes-twelve (kind_of a.args.self) a.args.self.n a.args.self.in_range) _ (omega arith)

-- the pane that is ranked is the turned stack's
pane-is : (c : goal.After-flipped-x)
    → let a = c.before.before.before in
    to_z w8 (of_z w8 c.flipped-x.result) ≡ get_or (turn_of (kind_of a.args.self) a.args.k a.args.stack.now) a.loop-p.p (pos 0)
pane-is c =
    let a = c.before.before.before in
    let kind = (kind_of a.args.self) in
    let k = a.args.k in
    let s = a.args.stack.now in
    let here : a.loop-p.p < k = omega arith in
    let low = panes-twelve kind a.args.self.n a.args.self.in_range in
    pane-flipped kind a.args.self.n s a.requires.0 low (k - 1 - a.loop-p.p) (omega arith) c.flipped-x.result c.flipped-x.ensures
    ∙ sym (turned-at kind k s (omega arith) a.loop-p.p here)

pub with_place-above-requires : goal.with_place-above-requires
with_place-above-requires c =
    let a = c.before.before.before in
    let kind = (kind_of a.args.self) in
    let n = a.args.self.n in
    let k = a.args.k in
    let s = a.args.stack.now in
    ranked-fits kind n (turn_of kind k s) a.args.self.in_range (turn-stack kind n a.args.self.in_range k s a.requires.2 a.requires.0)
    a.loop-p.above a.loop-p.p a.loop-p.invariant (omega arith) (to_z w8 (of_z w8 c.flipped-x.result)) (pane-is c)

pub loop-p-preserved : goal.loop-p-preserved
loop-p-preserved c =
    let a = c.before.before.before.before in
    let kind = (kind_of a.args.self) in
    let n = a.args.self.n in
    let k = a.args.k in
    let s = a.args.stack.now in
    subst (λ (r : Ranking). Ranked n (turn_of kind k s) r (a.loop-p.p + 1)) (sym c.with_place-above.ensures)
    (ranked-step kind n (turn_of kind k s) a.args.self.in_range (turn-stack kind n a.args.self.in_range k s a.requires.2 a.requires.0)
    a.loop-p.above a.loop-p.p a.loop-p.invariant (omega arith) (to_z w8 (of_z w8 c.flipped-x.result)) (pane-is c.before))

pub coatings-ways-requires : goal.coatings-ways-requires
coatings-ways-requires c = panes-twelve (kind_of c.args.self) c.args.self.n c.args.self.in_range

pub factorial-orders-requires : goal.factorial-orders-requires
factorial-orders-requires c = omega (arith, panes-twelve (kind_of c.args.self) c.args.self.n c.args.self.in_range)

-- the group is ranked whole, and the index has the rest
turned : (c : After-factorial-orders)
    → let a = c.before.before.before in
    let g = a.args in
    TurnedIndex (kind_of g.self) g.self.n (turn_of (kind_of g.self) g.k g.stack.now) a.loop-p.above g.index c.coatings-ways.result c.factorial-orders.result
    (1 * 2 ^ (g.self.n - g.k) % 4294967296)
turned c =
    let a = c.before.before.before in
    let g = a.args in
    let f = a.requires in
    let done : a.loop-p.p ≡ g.k = omega arith in
    let r : Ranked g.self.n (turn_of (kind_of g.self) g.k g.stack.now) a.loop-p.above g.k =
    subst (λ (q : ℕ). Ranked g.self.n (turn_of (kind_of g.self) g.k g.stack.now) a.loop-p.above q) done a.loop-p.invariant in
    turned-index (kind_of g.self) g.self.n g.stack.now g.self.in_range f.0 g.k f.2 a.loop-p.above r g.index c.coatings-ways.result c.factorial-orders.result
    (1 * 2 ^ (g.self.n - g.k) % 4294967296) f.1 c.coatings-ways.ensures c.factorial-orders.ensures (shifted (g.self.n - g.k) (omega (arith, panes-twelve (kind_of g.self) g.self.n g.self.in_range)))

pub overflow_mul-order : goal.overflow_mul-order
overflow_mul-order c = record { fits = omega (arith, (turned (goal.at.overflow_mul-order c).After-factorial-orders).order_room) }

pub nonzero_div-order : goal.nonzero_div-order
nonzero_div-order c = (turned (goal.at.nonzero_div-order c).After-factorial-orders).ways-pos

pub nonzero_rem-order : goal.nonzero_rem-order
nonzero_rem-order c = (turned (goal.at.nonzero_rem-order c).After-factorial-orders).orders-pos

pub overflow_add-order : goal.overflow_add-order
overflow_add-order c = record { fits = (turned (goal.at.overflow_add-order c).After-factorial-orders).order_room }

pub overflow_shl-weight : goal.overflow_shl-weight
overflow_shl-weight c = omega (arith, panes-twelve (kind_of c.args.self) c.args.self.n c.args.self.in_range)

pub overflow_mul-coats : goal.overflow_mul-coats
overflow_mul-coats c = record { fits = omega (arith, (turned (goal.at.overflow_mul-coats c).After-factorial-orders).room) }

pub nonzero_rem-coats : goal.nonzero_rem-coats
nonzero_rem-coats c = (turned (goal.at.nonzero_rem-coats c).After-factorial-orders).ways-pos

pub nonzero_rem-coats-2 : goal.nonzero_rem-coats-2
nonzero_rem-coats-2 c = (turned (goal.at.nonzero_rem-coats-2 c).After-factorial-orders).weight-pos

pub overflow_add-coats : goal.overflow_add-coats
overflow_add-coats c = record { fits = omega (arith, (turned (goal.at.overflow_add-coats c).After-factorial-orders).room) }

pub overflow_mul-result : goal.overflow_mul-result
overflow_mul-result c = record { fits = omega (arith, (turned (goal.at.overflow_mul-result c).After-factorial-orders).room) }

pub overflow_add-result : goal.overflow_add-result
overflow_add-result c = record { fits = (turned (goal.at.overflow_add-result c).After-factorial-orders).room }

pub returns : goal.returns
returns c = (turned (goal.at.returns c).After-factorial-orders).whole

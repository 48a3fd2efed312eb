-- `plan::route::turn_to` meets its contract. The loop's invariant: no turn of the set above k leads there.
use mathlib.Core.Path.{◌≡◌, sym, ◌∙◌}
use mathlib.Core.Bool.{true}
use Prim.Native.Nat.{◌-◌}
use native.Mathlib.Omega.{arith}
use Rattle.base.proofs.Tests.{never}
use Rattle.stacks.specs.Turn.{is_turn}
use Rattle.stacks.proofs.TurnLaws.{first_pos, last-places, turn-between}
use Rattle.stacks.proofs.MoveLaws.{move-stack}
use Rattle.plan.specs.Questions.{kind_in}
use Rattle.plan.proofs.Routes.{entry_inside, read-leads, leads-read, none-past-last, tried-hit, tried-miss, tried-all}
use Rattle.plan.proofs.route.turn_to.Goals.{After-lifts, then-lifts+else-get_entry-v, else-lifts}
use Rattle.plan.proofs.route.turn_to.Goals as goal

pub loop-k-init : goal.loop-k-init
loop-k-init c = none-past-last c.args.question.now c.args.stack c.args.v c.last_turn-last.result (omega (arith, c.last_turn-last.ensures))

pub lifts-requires : goal.lifts-requires
lifts-requires c =
    let q = c.args.question.now in (
      omega (arith, c.loop-k-test.true, c.first_turn-first.ensures, first_pos (kind_in q)),
      omega (arith, c.loop-k.auto.k, c.last_turn-last.ensures, last-places (kind_in q) q.set.panes.n q.set.panes.in_range),
    )

-- what is tried is a turn
tried-turn : (c : After-lifts) → let q = c.args.question.now in is_turn (kind_in q) q.set.panes.n c.loop-k.k ≡ true
tried-turn c =
    let q = c.args.question.now in
    turn-between (kind_in q) q.set.panes.n c.loop-k.k (omega (arith, c.loop-k-test.true, c.first_turn-first.ensures))
    (omega (arith, c.loop-k.auto.k, c.last_turn-last.ensures))

pub rank_moved-child-requires : goal.rank_moved-child-requires
rank_moved-child-requires c =
    (c.requires.is-stack, tried-turn (goal.at.rank_moved-child-requires c).After-lifts, c.requires.at)

pub get_entry-requires : goal.get_entry-requires
get_entry-requires c =
    let q = c.args.question.now in
    entry_inside q _ c.rank_moved-child.result (record {
      is-stack =
          move-stack (kind_in q) q.set.panes.n q.set.panes.in_range c.loop-k.k c.args.stack
          (tried-turn (goal.at.get_entry-requires c).After-lifts) c.requires.is-stack;
      at = c.rank_moved-child.ensures;
    })

pub returns-then-get_entry-v : goal.returns-then-get_entry-v
returns-then-get_entry-v c =
    let q = c.args.question.now in
    let child = c.rank_moved-child in
    let entry = c.get_entry in (
      omega (arith, c.loop-k-test.true, c.first_turn-first.ensures, first_pos (kind_in q)),
      tried-hit q c.args.stack c.args.v _ c.loop-k.invariant
          (tried-turn (goal.at.returns-then-get_entry-v c).After-lifts)
          (sym c.lifts.ensures ∙ c.if-lifts.true)
          (read-leads q c.args.stack c.args.v _ child.result entry.result child.ensures entry.ensures c.if-get_entry-v.true),
      child.ensures,
    )

pub loop-k-preserved : goal.loop-k-preserved
loop-k-preserved c =
    let q = c.args.question.now in
    tried-miss q c.args.stack c.args.v c.loop-k.k c.loop-k.invariant
    (λ named leads. elim c.if-lifts.branch [
      | then-lifts+else-get_entry-v w ↦
          let child = w.rank_moved-child in
          let entry = w.get_entry in
          w.if-get_entry-v.false (leads-read q c.args.stack c.args.v _ child.result entry.result child.ensures entry.ensures leads)
      | else-lifts w ↦ never named (sym c.lifts.ensures ∙ w.if-lifts.false)
    ])

pub returns : goal.returns
returns c =
    tried-all c.args.question.now c.args.stack c.args.v c.loop-k.k c.loop-k.invariant (omega (arith, c.loop-k-test.false, c.first_turn-first.ensures))

pub returns-after-lifts : goal.returns-after-lifts
returns-after-lifts c =
    let q = c.args.question.now in
    tried-all q c.args.stack c.args.v (c.loop-k.k - 1)
    (tried-miss q c.args.stack c.args.v c.loop-k.k c.loop-k.invariant
    (λ named leads. elim c.if-lifts.branch [
      | then-lifts+else-get_entry-v w ↦
          let child = w.rank_moved-child in
          let entry = w.get_entry in
          w.if-get_entry-v.false (leads-read q c.args.stack c.args.v _ child.result entry.result child.ensures entry.ensures leads)
      | else-lifts w ↦ never named (sym c.lifts.ensures ∙ w.if-lifts.false)
    ]))
    (omega (arith, c.first_turn-first.ensures, first_pos (kind_in q)))

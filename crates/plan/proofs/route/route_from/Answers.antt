-- `plan::route::route_from` meets its contract. The loop's invariant: the whole run goes on from the route that is made so far.
use mathlib.Core.Path.{◌≡◌}
use native.Mathlib.Omega.{arith}
use Rattle.search.specs.Plan.{nearer_entry}
use Rattle.plan.specs.Questions.{kind_in}
use Rattle.plan.proofs.Routes.{found-nearer, travelled-start, travelled-arrived, travelled-stuck, travelled-step, travelled-end}
use Rattle.plan.proofs.route.route_from.Goals.{After-next_entry-nearer}
use Rattle.plan.proofs.route.route_from.Goals as goal

pub loop-init : goal.loop-init
loop-init c = rw c.new-turns.ensures (travelled-start c.args.question.now c.rank-index.result c.rank-index.ensures)

-- the entry that is looked for
nearer : (c : After-next_entry-nearer)
    → let q = c.args.question.now in c.next_entry-nearer.result ≡ nearer_entry (kind_in q) q.set.panes.n q.table.now c.loop.stack
nearer c =
    found-nearer c.args.question.now c.loop.stack c.loop.index c.get_entry-v.result c.next_entry.result c.next_entry-nearer.result
    c.loop.invariant.at c.get_entry-v.ensures c.next_entry.ensures c.next_entry-nearer.ensures

pub loop-preserved : goal.loop-preserved
loop-preserved c =
    let step = c.in-Some.step in
    rw c.push.ensures
    (travelled-step c.args.question.now c.loop.invariant c.rank-goal.result c.rank-goal.ensures c.if-index-goal.false
    c.next_entry-nearer.result (nearer (goal.at.loop-preserved c).After-next_entry-nearer) (omega (arith, c.loop-test.true)) step.k c.in-Some.ensures.1
    (λ z. omega (arith, c.in-Some.ensures.0)) c.moved-child.result c.moved-child.ensures step.index c.in-Some.ensures.2)

pub returns-after-loop : goal.returns-after-loop
returns-after-loop c = travelled-end c.args.question.now c.loop.invariant (omega (arith, c.loop-test.false))

pub returns-then-index-goal : goal.returns-then-index-goal
returns-then-index-goal c =
    travelled-arrived c.args.question.now c.loop.invariant c.rank-goal.result c.rank-goal.ensures c.if-index-goal.true

pub returns-in_default : goal.returns-in_default
returns-in_default c =
    travelled-stuck c.args.question.now c.loop.invariant c.rank-goal.result c.rank-goal.ensures c.if-index-goal.false
    c.next_entry-nearer.result (nearer (goal.at.returns-in_default c).After-next_entry-nearer) c.in_default.ensures

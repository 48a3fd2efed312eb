-- `plan::plan::drafted` meets its contract: what the route comes to is a stack.
use mathlib.Core.Path.{◌≡◌, ap}
use Rattle.search.specs.Plan.{Route}
use Rattle.plan.specs.Questions.{way_of}
use Rattle.plan.proofs.Routes.{route-stack}
use Rattle.plan.proofs.plan.drafted.Goals as goal

pub rank-requires : goal.rank-requires
rank-requires c =
    let q = c.args.question.now in
    let e : c.route_from-way.result.stack ≡ (way_of q).stack = ap (λ (r : Route). r.stack) c.route_from-way.ensures in
    rw e (route-stack q)

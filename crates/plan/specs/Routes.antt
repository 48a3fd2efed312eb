-- Routes as the code makes them.
use Rattle.search.specs.Plan.{Route}
use Rattle.plan.specs.Turns.{turns_listed}
use Rattle.plan.specs.declared.route.Route as declared

-- the route that the code's stands for
abbrev pub route_of : declared.Route → Route
route_of route = record { stack = route.stack; turns = turns_listed route.turns }

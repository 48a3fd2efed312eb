-- The turns of a plan in a local list.
use Rattle.std.specs.Prelude.{List, ℕ, take}
use Rattle.plan.specs.declared.turns.Turns.{Turns}

-- those that there are
abbrev pub turns_listed : Turns → List ℕ
turns_listed t = take t.count t.list

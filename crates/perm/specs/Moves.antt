-- The moves of a search.
use Rattle.std.specs.Prelude.{ℕ}
use Rattle.stacks.specs.Stack.{stack_places}

-- as many as it can have
abbrev pub most_moves : ℕ
most_moves = stack_places

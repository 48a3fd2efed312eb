-- Sets of panes as bits, as the leaves' contracts speak of them.
use Rattle.std.specs.Prelude.{◌≡◌, ℕ, ◌%◌, ◌^◌, ◌<◌}
use Rattle.std.specs.Int.Count.{ones}
use Rattle.base.specs.Words.{bit}
use Rattle.stacks.specs.Stack.{stack_places}

-- v is the place of a one of s with d ones below it
pub record NthOne (s d v : ℕ) : Type 0 where
  pub low : v < stack_places
  pub is_one : bit s v ≡ 1
  pub below : ones (s % 2 ^ v) ≡ d

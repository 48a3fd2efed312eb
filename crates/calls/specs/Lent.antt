-- What the helpers of Settle ask of what they are given, by the fields that each takes.
use Rattle.std.specs.Prelude.{List, ℕ, ◌+◌, ◌*◌, ◌/◌, ◌^◌, ◌<◌, length, get_or}
use Rattle.search.specs.JobState.{count_limit}
use Rattle.search.specs.declared.Found.{Found}
use Rattle.twobit.specs.Mark.{AtMost}

-- what marking at the offsets of a list asks for: a label, stacks of segment j whose indexes fit 32 bits and whose entries stand in the
-- segment, so few that the counts stay within 64 bits
pub record OffsetsFit (S j label : ℕ) (offsets : List ℕ) (found : Found) (segment : List ℕ) : Type 0 where
  pub below : label < 3
  pub starts : j * S < 2 ^ 32
  pub small : (k : ℕ) → k < length offsets → j * S + get_or offsets k 0 < 2 ^ 32
  pub own : (k : ℕ) → k < length offsets → get_or offsets k 0 < S
  pub inside : (k : ℕ) → k < length offsets → get_or offsets k 0 / 4 < length segment
  pub short : length offsets < 2 ^ 32
  pub few : AtMost found count_limit

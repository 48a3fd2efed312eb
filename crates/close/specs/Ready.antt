-- When a phase is ready to close, by a segment's number of swept pairs.
use Rattle.std.specs.Prelude.{Bool, ℕ, ◌/◌, ◌%◌, ◌^◌, eqb}
use Rattle.base.specs.Words.{all, from}

-- is_swept_whole of a job with G segments, by the segment's number
abbrev pub row_whole : ℕ → ℕ → Bool
row_whole G row = all (λ j. eqb (row / 2 ^ j % 2) 1) (from 0 G)

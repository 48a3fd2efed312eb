-- Segments (document 01, "Segments and entries"). S is the segment size, C the places of a log.
use Rattle.std.specs.Prelude.{Bool, ◌&&◌, List, [], ◌∷◌, ◌++◌, ℕ, ◌+◌, ◌-◌, ◌*◌, ◌/◌, ◌%◌, min, leb, eqb}

-- the most segments, and the range of S and of C
abbrev pub segment_limit : ℕ
segment_limit = 64

abbrev pub least_size : ℕ
least_size = 4

abbrev pub most_size : ℕ
most_size = 67108864

abbrev pub least_room : ℕ
least_room = 16

abbrev pub most_room : ℕ
most_room = 1048576

-- G, the count of segments, ⌈N/S⌉
unfoldable pub segment_count : ℕ → ℕ → ℕ
segment_count N S = (N + (S - 1)) / S

-- m, the stacks of segment j: those from j × S to just below the lesser of (j + 1) × S and N
unfoldable pub stack_count_in : ℕ → ℕ → ℕ → ℕ
stack_count_in N S j = min S (N - j * S)

-- a multiple of 4 from 4 to 67,108,864 that makes at most 64 segments
unfoldable pub is_segment_size : ℕ → ℕ → Bool
is_segment_size N S =
    eqb (S % 4) 0 && leb least_size S && leb S most_size && leb (segment_count N S) segment_limit

unfoldable pub is_log_room : ℕ → Bool
is_log_room C = leb least_room C && leb C most_room

-- the whole table: the segments joined in order
unfoldable pub joined : List (List ℕ) → List ℕ
joined [] = []
joined (segment ∷ segments) = segment ++ joined segments

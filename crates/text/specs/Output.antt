-- The report's lines (document 01, "The report"; document 02, F-6), each with its end.
use Rattle.std.specs.Prelude.{List, [], ◌∷◌, map, ℕ, suc, length, get_or, take}
use Rattle.base.specs.Words.{from}
use Rattle.search.specs.Segments.{joined}
use Rattle.text.specs.Hex.{line_of, four_bytes}

-- a level's number and its count
unfoldable pub level_line : ℕ → ℕ → List ℕ
level_line d count = line_of (d ∷ four_bytes count)

-- the lines of so many levels from 0 on, whatever a line says of its level
unfoldable pub levels_below : (ℕ → List ℕ) → ℕ → List ℕ
levels_below line levels = joined (map line (from 0 levels))

-- the line of level d, of a build's counts
abbrev pub line_at : List ℕ → ℕ → List ℕ
line_at counts d = level_line d (get_or counts d 0)

-- levels 0 to the deepest
unfoldable pub level_lines : ℕ → List ℕ → List ℕ
level_lines deepest counts = levels_below (line_at counts) (suc deepest)

-- their counts, which the total adds up
abbrev pub level_counts : ℕ → List ℕ → List ℕ
level_counts deepest counts = take (suc deepest) counts

-- ff and the deepest level
unfoldable pub deepest_line : ℕ → List ℕ
deepest_line d = line_of (255 ∷ d ∷ [])

-- fe and the total
unfoldable pub total_line : ℕ → List ℕ
total_line sum = line_of (254 ∷ four_bytes sum)

-- the number of turns and the turns
unfoldable pub plan_line : List ℕ → List ℕ
plan_line turns = line_of (length turns ∷ turns)

-- ee and the refusal's number
unfoldable pub refusal_line : ℕ → List ℕ
refusal_line r = line_of (238 ∷ r ∷ [])

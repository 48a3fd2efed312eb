-- Worked cases of the report's text: the refusals that come close, lines of document 01's example, and how an input falls into lines.
use mathlib.Core.Path.{◌≡◌, refl}
use mathlib.Core.List.{List, [], ◌∷◌, map}
use Prim.Native.Nat.{ℕ}
use Rattle.text.specs.Frame.{first_refusal}
use Rattle.text.specs.Hex.{hex_of}
use Rattle.text.specs.Lines.{lines_of}
use Rattle.text.specs.Output.{level_line, deepest_line, total_line, plan_line, refusal_line}
use Rattle.shown.proofs.Open.{report-open}

-- the first frame's refusal: no frame, `000d`, kind 2 with nothing after it, plain 9 with a wrong stack, plain 8, coated 7, and panes 80 and 81
firsts : map (λ (bs : List ℕ). first_refusal (hex_of bs))
    ([] ∷ (0 ∷ 13 ∷ []) ∷ (2 ∷ 1 ∷ []) ∷ (0 ∷ 9 ∷ 1 ∷ 1 ∷ 1 ∷ 1 ∷ 1 ∷ 1 ∷ 1 ∷ 1 ∷ 1 ∷ 0 ∷ 0 ∷ 0 ∷ 4 ∷ [])
    ∷ (0 ∷ 8 ∷ 8 ∷ 7 ∷ 6 ∷ 5 ∷ 4 ∷ 3 ∷ 2 ∷ 1 ∷ 0 ∷ 0 ∷ 4 ∷ 0 ∷ [])
    ∷ (1 ∷ 7 ∷ 1 ∷ 2 ∷ 3 ∷ 4 ∷ 5 ∷ 6 ∷ 7 ∷ 0 ∷ 0 ∷ 64 ∷ 0 ∷ [])
    ∷ (1 ∷ 1 ∷ 128 ∷ 0 ∷ 0 ∷ 0 ∷ 4 ∷ []) ∷ (1 ∷ 1 ∷ 129 ∷ 0 ∷ 0 ∷ 0 ∷ 4 ∷ []) ∷ (0 ∷ 1 ∷ 129 ∷ 0 ∷ 0 ∷ 0 ∷ 4 ∷ [])
    ∷ (0 ∷ 1 ∷ 1 ∷ 0 ∷ 0 ∷ 0 ∷ 6 ∷ []) ∷ [])
    ≡ 16 ∷ 2 ∷ 1 ∷ 16 ∷ 0 ∷ 16 ∷ 3 ∷ 0 ∷ 3 ∷ 5 ∷ []
unfolding report-open
firsts = refl

-- what the example's lines say: a level, the deepest level, the total, a plan and a refusal
lines : (level_line 1 2 ≡ 48 ∷ 49 ∷ 48 ∷ 48 ∷ 48 ∷ 48 ∷ 48 ∷ 48 ∷ 48 ∷ 50 ∷ 10 ∷ [])
    × (deepest_line 3 ≡ 102 ∷ 102 ∷ 48 ∷ 51 ∷ 10 ∷ [])
    × (total_line 6 ≡ 102 ∷ 101 ∷ 48 ∷ 48 ∷ 48 ∷ 48 ∷ 48 ∷ 48 ∷ 48 ∷ 54 ∷ 10 ∷ [])
    × (plan_line (3 ∷ 2 ∷ []) ≡ 48 ∷ 50 ∷ 48 ∷ 51 ∷ 48 ∷ 50 ∷ 10 ∷ [])
    × (refusal_line 16 ≡ 101 ∷ 101 ∷ 49 ∷ 48 ∷ 10 ∷ [])
unfolding report-open
lines = (refl, refl, refl, refl, refl)

-- an empty line is a line, nothing follows a last line end, and a last line may lack its end
cuts : (lines_of (48 ∷ 10 ∷ 10 ∷ []) ≡ (48 ∷ []) ∷ [] ∷ []) × (lines_of (48 ∷ 10 ∷ 49 ∷ []) ≡ (48 ∷ []) ∷ (49 ∷ []) ∷ []) × (lines_of [] ≡ [])
unfolding report-open
cuts = (refl, refl, refl)

-- What code's functions promise one another of the line in the making: as many of its characters as a
-- frame may have, and its length, which stops at one more.
--   pushed l c     the line in the making with one character more
--   text_of l       what it says: a text of one character more than a frame may have stands for any longer one
use Rattle.std.specs.Prelude.{List, [], ◌∷◌, ◌++◌, ℕ, suc, ◌+◌, min, take, set, replicate}
use Rattle.text.specs.Frame.{frame_limit}
use Rattle.text.specs.declared.Line.{Line}

unfoldable pub new_line : Line
new_line = record { chars = replicate frame_limit 0; length = 0 }

unfoldable pub pushed : Line → ℕ → Line
pushed line c = record { chars = set line.chars line.length c; length = min (line.length + 1) (suc frame_limit) }

unfoldable pub text_of : Line → List ℕ
text_of line = take line.length (line.chars ++ (0 ∷ []))

-- The text of the table of ones (document 02, F-7): 256 lines of 16 bytes, in the report's hexadecimal.
--   line_bytes           the bytes of a line
--   line_count           how many lines there are
--   printed_lines k bs   the first k lines of some bytes
--   ones_text            all lines of the table
use Rattle.std.specs.Prelude.{List, [], ◌++◌, ℕ, zero, suc, take, drop}
use Rattle.ones.specs.Ones.{ones_table}
use Rattle.text.specs.Hex.{line_of}

abbrev pub line_bytes : ℕ
line_bytes = 16

abbrev pub line_count : ℕ
line_count = 256

unfoldable pub printed_lines : ℕ → List ℕ → List ℕ
printed_lines zero bs = []
printed_lines (suc k) bs = line_of (take line_bytes bs) ++ printed_lines k (drop line_bytes bs)

unfoldable pub ones_text : List ℕ
ones_text = printed_lines line_count ones_table

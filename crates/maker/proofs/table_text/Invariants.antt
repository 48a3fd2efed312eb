-- `maker::table_text` meets its contract. The loop's invariant: the lines before this one are written.
use mathlib.Core.Path.{◌≡◌}
use mathlib.Core.List.{List}
use Prim.Native.Nat.{ℕ, ◌+◌, ◌*◌}
use lib.ListN.{length, replicate}
use Rattle.ones.specs.Ones.{ones_table}
use Rattle.text.specs.Written.{Wrote}
use Rattle.maker.specs.OnesText.{line_bytes, line_count, printed_lines}
use Rattle.maker.proofs.table_text.Given as goal

-- the characters of the whole text
abbrev pub text_length : ℕ
text_length = (2 * line_bytes + 1) * line_count

-- what the text is written over
abbrev pub blank : List ℕ
blank = replicate text_length 0

abbrev pub invariant-loop-line : goal.invariant-loop-line
invariant-loop-line l = (length l.text ≡ text_length) × Wrote (printed_lines l.line ones_table) blank l.text l.at

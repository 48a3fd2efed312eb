-- Document 01's example of the report, with the plans that document 02 takes: its output computes from the definitions, and the theorems are applied to it.
use mathlib.Core.Path.{◌≡◌, refl, subst, ◌∙◌}
use mathlib.Core.List.{List, [], ◌∷◌}
use Prim.Native.Char.{code}
use Prim.Native.Nat.{ℕ, ◌<◌}
use Prim.Native.String as string
use native.Mathlib.Omega.{arith}
use lib.IntN.{ℤ, pos}
use lib.ListN.{length, replicate}
use Rattle.text.specs.Frame.{table_limit}
use Rattle.text.specs.Hex.{bytes_of, four_bytes}
use Rattle.text.specs.Lines.{lines_of}
use Rattle.text.specs.Output.{level_line, total_line, plan_line}
use Rattle.text.specs.Promise.{Answers, Reports}
use Rattle.text.specs.Reader.{new_reader, printed_all}
use Rattle.text.specs.Report.{report_of}
use Rattle.text.proofs.Meaning.{report-means, report-refused, answer-says, level-says, total-says}
use Rattle.text.proofs.Reading.{read-report}
use Rattle.shown.proofs.Open.{report-open}

-- the characters of a text
codes : string.String → List ℕ
codes string.[] = []
codes (string.◌∷◌ c s) = code c ∷ codes s

input : List ℕ
unfolding codes
input = codes "000301020300000004\n030102\n010302\n010203\n010103\n"

output : List ℕ
unfolding codes
output = codes "0000000001\n0100000002\n0200000002\n0300000001\nff03\nfe00000006\n020302\n03030203\n00\nee03\n"

report : List ℕ → List ℕ → List ℕ
unfolding report-open
report table characters = report_of table (lines_of characters)

-- whatever the two bytes of the table that it uses held, and the rest of it
prints : (a b : ℕ) (rest : List ℕ) → report (a ∷ b ∷ rest) input ≡ output
unfolding report input output
prints a b rest = refl

-- read character by character the input prints that: the theorem `read-report`
reads : (a b : ℕ) (rest : List ℕ) → printed_all new_reader (a ∷ b ∷ rest) input ≡ output
unfolding report
reads a b rest = read-report (a ∷ b ∷ rest) input ∙ prints a b rest

-- the first line, and the later ones
first_line : List ℕ
unfolding codes
first_line = codes "000301020300000004"

later_lines : List (List ℕ)
unfolding codes
later_lines = codes "030102" ∷ codes "010302" ∷ codes "010203" ∷ codes "010103" ∷ []

-- those lines of output are the counts, their total and the plans of plain 3 and 1 2 3, whose table is 90 f6: the theorem `report-means`
means : (a b : ℕ) (rest : List ℕ) → length (a ∷ b ∷ rest) ≡ table_limit
    → Reports 0 3 (pos 1 ∷ pos 2 ∷ pos 3 ∷ replicate 9 (pos 0)) (144 ∷ 246 ∷ []) later_lines output
unfolding report input first_line later_lines
means a b rest long =
    subst (Reports 0 3 (pos 1 ∷ pos 2 ∷ pos 3 ∷ replicate 9 (pos 0)) (144 ∷ 246 ∷ []) later_lines) (prints a b rest)
    (report-means (a ∷ b ∷ rest) first_line later_lines long refl)

-- with thirteen panes the first frame is refused, and nothing follows: the theorem `report-refused`
refused : (table : List ℕ) → report_of table (codes "000d" ∷ codes "010203" ∷ []) ≡ codes "ee02\n"
unfolding report codes
refused table = report-refused table (codes "000d") (codes "010203" ∷ []) (λ h. omega (arith, h))

-- a plan, a level and the total can be read back from their lines: the theorems `answer-says`, `level-says` and `total-says`
plan-back : {kind n : ℕ} {wanted : List ℤ} {table cs : List ℕ} (answer : Answers kind n wanted table cs)
    → bytes_of (plan_line answer.turns) ≡ length answer.turns ∷ answer.turns
plan-back answer = answer-says answer

level-back : (d count : ℕ) → d < 256 → bytes_of (level_line d count) ≡ d ∷ four_bytes count
level-back = level-says

total-back : (sum : ℕ) → bytes_of (total_line sum) ≡ 254 ∷ four_bytes sum
total-back = total-says

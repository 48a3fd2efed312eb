-- What the reader's functions promise one another: how an input is read character by character. The theorem `read-report` says that so
-- read it prints the report of its lines.
--   log_limit, list_limit       the most that a build is lent of the log area and of the changed list
--   Effect                    what comes of a character: the reader and the table after it, and what is printed
--   byte_read, end_read         a character of the input, and its end
--   read_all                   the reader and the table after some characters
--   printed_all                what is printed of an input, read so
--   Shown                     what code shows of an effect
use Rattle.std.specs.Prelude.{◌≡◌, Bool, true, false, ◌||◌, cond, List, [], ◌∷◌, ◌++◌, ℕ, ltb, eqb, pos, take, replicate}
use Rattle.stacks.specs.Stack.{stack_places}
use Rattle.text.specs.Frame.{First, first_of}
use Rattle.text.specs.Kept.{new_line, pushed, text_of}
use Rattle.text.specs.Output.{refusal_line}
use Rattle.text.specs.Written.{Wrote}
use Rattle.text.specs.declared.Line.{Line}
use Rattle.text.specs.Report.{table_bytes, built_in, head_text, later_text}
use Rattle.text.specs.declared.Printed.{Printed}
use Rattle.text.specs.declared.Reader.{Reader}
use Rattle.text.specs.declared.Stage.{Stage}
use Rattle.text.specs.declared.Stage.TheVariants.{Start, Later, Over}

abbrev pub log_limit : ℕ
log_limit = 1024

abbrev pub list_limit : ℕ
list_limit = 5760

pub record Effect : Type 0 where
  pub reader : Reader
  pub table : List ℕ
  pub text : List ℕ

unfoldable pub is_start : Stage → Bool
is_start Start = true
is_start Later = false
is_start Over = false

unfoldable pub is_over : Stage → Bool
is_over Start = false
is_over Later = false
is_over Over = true

unfoldable pub new_reader : Reader
new_reader = record { stage = Start; kind = 0; n = 0; wanted = replicate stack_places (pos 0); line = new_line }

-- the reader with another line in the making
unfoldable pub with_line : Reader → Line → Reader
with_line reader line =
    record { stage = reader.stage; kind = reader.kind; n = reader.n; wanted = reader.wanted; line = line }

unfoldable pub after_first : First → Stage → Reader
after_first first stage = record { stage = stage; kind = first.kind; n = first.n; wanted = first.wanted; line = new_line }

-- an accepted first frame, whose table is built, and a refused one
unfoldable pub first_taken : First → List ℕ → Effect
first_taken first table =
    let end = built_in first.kind first.n first.wanted first.size table in
    record { reader = after_first first Later; table = end.0; text = head_text end.1 }

unfoldable pub first_left : First → List ℕ → Effect
first_left first table = record { reader = after_first first Over; table = table; text = refusal_line first.refusal }

unfoldable pub first_read : First → List ℕ → Effect
first_read first table = cond (eqb first.refusal 0) (first_taken first table) (first_left first table)

unfoldable pub first_line : Line → List ℕ → Effect
first_line line table = first_read (first_of (text_of line)) table

unfoldable pub later_line : Reader → List ℕ → Effect
later_line reader table =
    let kind = reader.kind in
    let n = reader.n in
    record {
      reader = with_line reader new_line;
      table = table;
      text = later_text kind n reader.wanted (take (table_bytes kind n) table) (text_of reader.line);
    }

-- nothing is printed, and the line in the making is another
unfoldable pub quiet : Reader → Line → List ℕ → Effect
quiet reader line table = record { reader = with_line reader line; table = table; text = [] }

-- the line in the making is whole
unfoldable pub line_as : Stage → Reader → List ℕ → Effect
line_as Start reader table = first_line reader.line table
line_as Later reader table = later_line reader table
line_as Over reader table = quiet reader new_line table

unfoldable pub line_read : Reader → List ℕ → Effect
line_read reader table = line_as reader.stage reader table

unfoldable pub byte_read : Reader → ℕ → List ℕ → Effect
byte_read reader c table = cond (eqb c 10) (line_read reader table) (quiet reader (pushed reader.line c) table)

-- a last line may lack its end; with no line at all the first frame is missing
unfoldable pub end_read : Reader → List ℕ → Effect
end_read reader table =
    cond (is_start reader.stage || ltb 0 reader.line.length) (line_read reader table) (quiet reader new_line table)

-- the reader and the table after characters
unfoldable pub read_all : Reader → List ℕ → List ℕ → Reader × List ℕ
read_all reader table [] = (reader, table)
read_all reader table (c ∷ cs) = let e = byte_read reader c table in read_all e.reader e.table cs

unfoldable pub printed_all : Reader → List ℕ → List ℕ → List ℕ
printed_all reader table [] = (end_read reader table).text
printed_all reader table (c ∷ cs) = let e = byte_read reader c table in e.text ++ printed_all e.reader e.table cs

-- what code shows of an effect: the text stands at the front of the lent buffer
pub record Shown (e : Effect) (r : Printed) (table before after : List ℕ) : Type 0 where
  pub kept : table ≡ e.table
  pub reads : r.reader ≡ e.reader
  pub wrote : Wrote e.text before after r.length

-- An input that is read character by character prints the report of its lines.
use mathlib.Core.Path.{◌≡◌, refl, sym, ap, ◌∙◌}
use mathlib.Core.Logic.{◌⊎◌, inl, inr}
use mathlib.Core.Bool.{Bool, true, false, cond}
use mathlib.Core.List.{List, [], ◌∷◌, ◌++◌, map, append-nil, append_assoc}
use Prim.Native.Nat.{ℕ}
use native.Mathlib.Omega.{arith}
use lib.Dec.{eqb}
use lib.IntN.{ℤ}
use lib.ListN.{take}
use borrow.Author.Tests.{eq-eqb, ne_eqb}
use Rattle.base.proofs.Tests.{eq-or-ne, test-cases, never}
use Rattle.search.specs.declared.Job.{Job}
use Rattle.base.specs.Words.{all}
use Rattle.text.specs.Frame.{First, is_frame, bytes_refusal, first_refusal, first_of}
use Rattle.text.specs.Hex.{is_pairs, bytes_of}
use Rattle.text.specs.Kept.{new_line, pushed, text_of}
use Rattle.text.specs.Lines.{in_first, lines_of}
use Rattle.text.specs.Output.{refusal_line}
use Rattle.text.specs.declared.Line.{Line}
use Rattle.text.proofs.Feeding.{reading, stepped, fed, ended, handled, read-lines}
use Rattle.text.proofs.LineLaws.{pushed_all, kept_of}
use Rattle.text.proofs.FrameRefusals.{kept-first, kept-later}
use Rattle.text.specs.Report.{table_bytes, built_in, head_text, later_text, later_texts, report_from, report_of}
use Rattle.text.specs.Reader.{Effect, is_start, new_reader, with_line, after_first, first_taken, first_left, first_read, first_line, later_line, quiet, line_as, line_read, byte_read, end_read, printed_all}
use Rattle.text.specs.declared.Reader.{Reader}
use Rattle.text.specs.declared.Stage.{Stage}
use Rattle.text.specs.declared.Stage.TheVariants.{Start, Later, Over}
use Rattle.text.proofs.AnswerLaws.{frame_said}
use Rattle.text.proofs.ReadLaws.{line_first, line-later, line-over, end-missing, end-last, end_quiet}

-- what was read and printed so far, and a line more
record Sofar : Type 0 where
  reader : Reader
  table : List ℕ
  text : List ℕ

abbrev added : Sofar → Effect → Sofar
added s e = record { reader = e.reader; table = e.table; text = s.text ++ e.text }

handle : Sofar → Line → Sofar
handle s line = added s (line_read (with_line s.reader line) s.table)

-- ---- after a whole line

-- the next line is new
first-new : (first : First) (table : List ℕ) → (first_read first table).reader.line ≡ new_line
unfolding first_read first_taken first_left after_first
first-new first table = go (eqb first.refusal 0)
  where
    go : (t : Bool) → (cond {A = Effect} t (first_taken first table) (first_left first table)).reader.line ≡ new_line
    go true = refl
    go false = refl

line-new : (reader : Reader) (table : List ℕ) → (line_read reader table).reader.line ≡ new_line
unfolding line_read line_as first_line later_line quiet with_line
line-new reader table = go reader.stage
  where
    go : (s : Stage) → (line_as s reader table).reader.line ≡ new_line
    go Start = first-new (first_of (text_of reader.line)) table
    go Later = refl
    go Over = refl

-- the first frame has been read
first-stage : (first : First) (table : List ℕ) → is_start (first_read first table).reader.stage ≡ false
unfolding first_read first_taken first_left after_first is_start
first-stage first table = go (eqb first.refusal 0)
  where
    go : (t : Bool) → is_start (cond {A = Effect} t (first_taken first table) (first_left first table)).reader.stage ≡ false
    go true = refl
    go false = refl

line-stage : (reader : Reader) (table : List ℕ) → is_start (line_read reader table).reader.stage ≡ false
unfolding line_read line_as first_line later_line quiet with_line is_start
line-stage reader table = go reader.stage refl
  where
    go : (s : Stage) → s ≡ reader.stage → is_start (line_as s reader table).reader.stage ≡ false
    go Start e = first-stage (first_of (text_of reader.line)) table
    go Later e = ap is_start (sym e)
    go Over e = ap is_start (sym e)

-- ---- reading by characters, as reading by lines

-- what is printed from s on, with l in the making
abbrev Prints : List ℕ → Sofar → Line → Type 0
Prints cs s l = (ended handle (fed handle (reading s l) cs)).text ≡ s.text ++ printed_all (with_line s.reader l) s.table cs

-- a first frame is not missing any more
abbrev Started : Sofar → Line → Type 0
Started s l = is_start s.reader.stage ≡ true → l.length ≡ 0 → ⊥

prints-end : (s : Sofar) (l : Line) → Started s l → Prints [] s l
unfolding fed ended printed_all handle with_line quiet
prints-end s l started = go (test-cases (is_start s.reader.stage)) (eq-or-ne l.length 0)
  where
    r : Reader
    r = with_line s.reader l

    whole : (l.length ≡ 0 → ⊥) → line_read r s.table ≡ end_read r s.table → Prints [] s l
    whole n e = rw (ne_eqb l.length 0 n) (ap (λ (x : Effect). s.text ++ x.text) e)

    go : (is_start s.reader.stage ≡ true) ⊎ (is_start s.reader.stage ≡ false) → (l.length ≡ 0) ⊎ (l.length ≡ 0 → ⊥) → Prints [] s l
    go (inl z) (inl e) = absurd (started z e)
    go (inl z) (inr n) = whole n (end-missing r s.table z)
    go (inr z) (inl e) =
        rw (eq-eqb l.length 0 e) (sym (append-nil s.text) ∙ ap (λ (x : Effect). s.text ++ x.text) (end_quiet r s.table z e))
    go (inr z) (inr n) = whole n (end-last r s.table z n)

pushed-some : (l : Line) (c : ℕ) → (pushed l c).length ≡ 0 → ⊥
unfolding pushed
pushed-some l c h = omega (arith, h)

-- a character more, where the rest is known
prints-more : (c : ℕ) (cs : List ℕ) (s : Sofar) (l : Line) → ((t : Sofar) (m : Line) → Started t m → Prints cs t m) → Prints (c ∷ cs) s l
unfolding fed stepped printed_all byte_read quiet with_line handle
prints-more c cs s l rest =
    go (rest (handle s l) new_line (λ h k. never h (line-stage r s.table))) (rest s (pushed l c) (λ h k. pushed-some l c k)) (eqb c 10)
  where
    r : Reader
    r = with_line s.reader l

    e : Effect
    e = line_read r s.table

    go : Prints cs (handle s l) new_line → Prints cs s (pushed l c) → (t : Bool)
        → (ended handle (fed handle (cond t (reading (handle s l) new_line) (reading s (pushed l c))) cs)).text
        ≡ s.text ++ (let x = cond t (line_read r s.table) (quiet r (pushed l c) s.table) in x.text ++ printed_all x.reader x.table cs)
    go cut on true =
        cut
        ∙ ap (λ (m : Line). (s.text ++ e.text) ++ printed_all (with_line e.reader m) e.table cs) (sym (line-new r s.table))
        ∙ append_assoc s.text e.text (printed_all e.reader e.table cs)
    go cut on false = on

prints-all : (cs : List ℕ) (s : Sofar) (l : Line) → Started s l → Prints cs s l
prints-all [] s l h = prints-end s l h
prints-all (c ∷ cs) s l h = prints-more c cs s l (λ t m k. prints-all cs t m k)

-- ---- the lines, as they are kept

later-kept : (kind n : ℕ) (wanted : List ℤ) (table cs : List ℕ)
    → later_text kind n wanted table (text_of (kept_of cs)) ≡ later_text kind n wanted table cs
unfolding later_text
later-kept kind n wanted table cs =
    ap (frame_said kind n wanted table) (kept-later kind n cs)

-- the answers of a reader that has the first frame's kind, n and wanted stack
abbrev answers : Reader → List ℕ → List (List ℕ) → List ℕ
answers r table lines = later_texts r.kind r.n r.wanted (take (table_bytes r.kind r.n) table) lines

-- after an accepted first frame each line is answered
later-lines : (lines : List (List ℕ)) (s : Sofar) → s.reader.stage ≡ Later
    → (handled handle s (map kept_of lines)).text ≡ s.text ++ answers s.reader s.table lines
unfolding handled handle later_texts later_line with_line
later-lines [] s h = sym (append-nil s.text)
later-lines (cs ∷ lines) s h =
    let kind = s.reader.kind in
    let n = s.reader.n in
    let wanted = s.reader.wanted in
    let part = take (table_bytes kind n) s.table in
    let r = with_line s.reader (kept_of cs) in
    ap (λ (x : Effect). (handled handle (added s x) (map kept_of lines)).text) (sym (line-later r s.table h))
    ∙ later-lines lines (added s (later_line r s.table)) h
    ∙ append_assoc s.text (later_text kind n wanted part (text_of (kept_of cs))) (later_texts kind n wanted part lines)
    ∙ ap (λ (t : List ℕ). s.text ++ (t ++ later_texts kind n wanted part lines)) (later-kept kind n wanted part cs)

-- after a refused one nothing is
no_lines : (lines : List (List ℕ)) (s : Sofar) → s.reader.stage ≡ Over → (handled handle s (map kept_of lines)).text ≡ s.text
unfolding handled handle quiet with_line
no_lines [] s h = refl
no_lines (cs ∷ lines) s h =
    let r = with_line s.reader (kept_of cs) in
    ap (λ (x : Effect). (handled handle (added s x) (map kept_of lines)).text) (sym (line-over r s.table h))
    ∙ no_lines lines (added s (quiet r new_line s.table)) h
    ∙ append-nil s.text

start : List ℕ → Sofar
start table = record { reader = new_reader; table = table; text = [] }

first-lines : (table cs : List ℕ) (lines : List (List ℕ))
    → (handled handle (start table) (map kept_of (cs ∷ lines))).text ≡ report_of table (cs ∷ lines)
unfolding handled handle start new_reader with_line first_line first_read first_taken first_left after_first report_from report_of
first-lines table cs lines =
    ap (λ (x : Effect). (handled handle (added (start table) x) (map kept_of lines)).text)
    (sym (line_first (with_line new_reader (kept_of cs)) table refl) ∙ ap (λ (f : First). first_read f table) (kept-first cs))
    ∙ go (eqb first.refusal 0)
  where
    first : First
    first = first_of cs

    end : List ℕ × Job
    end = built_in first.kind first.n first.wanted first.size table

    go : (t : Bool) → (handled handle (added (start table) (cond t (first_taken first table) (first_left first table))) (map kept_of lines)).text
        ≡ cond t (head_text end.1 ++ answers (after_first first Later) end.0 lines) (refusal_line first.refusal)
    go true = later-lines lines (added (start table) (first_taken first table)) refl
    go false = no_lines lines (added (start table) (first_left first table)) refl

-- an input that has a character has a line
some-line : (c : ℕ) (cs : List ℕ) → (l : List ℕ) × (ls : List (List ℕ)) × (lines_of (c ∷ cs) ≡ l ∷ ls)
unfolding lines_of in_first
some-line c cs = go (eqb c 10) (lines_of cs)
  where
    go : (t : Bool) (rest : List (List ℕ)) → (l : List ℕ) × (ls : List (List ℕ)) × (cond t ([] ∷ rest) (in_first c rest) ≡ l ∷ ls)
    go true rest = ([], rest, refl)
    go false [] = (c ∷ [], [], refl)
    go false (l ∷ ls) = (c ∷ l, ls, refl)

-- no input is a first frame that is missing
no-input : (table : List ℕ) → (end_read new_reader table).text ≡ refusal_line 16
unfolding is_start new_reader kept_of pushed_all first_line first_read first_left first_of first_refusal bytes_refusal is_frame is_pairs all bytes_of
no-input table =
    ap (λ (x : Effect). x.text) (sym (end-missing new_reader table refl) ∙ sym (line_first new_reader table refl))
    ∙ ap (λ (f : First). (first_read f table).text) (kept-first [])

-- Read character by character, an input prints the report of its lines, whatever the table held.
pub read-report : (table input : List ℕ) → printed_all new_reader table input ≡ report_of table (lines_of input)
unfolding printed_all lines_of report_of with_line new_reader start
read-report table [] = no-input table
read-report table (c ∷ cs) =
    let some = some-line c cs in
    sym (prints-more c cs (start table) new_line (prints-all cs))
    ∙ ap (λ (s : Sofar). s.text) (read-lines handle (start table) (c ∷ cs))
    ∙ ap (λ (ls : List (List ℕ)). (handled handle (start table) (map kept_of ls)).text) some.2
    ∙ first-lines table some.0 some.1
    ∙ ap (report_of table) (sym some.2)

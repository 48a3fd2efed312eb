-- What comes of a line and of a character, case by case, and that code shows it.
use mathlib.Core.Path.{◌≡◌, refl, sym, ap, ap₂, ◌∙◌, subst}
use mathlib.Core.Bool.{Bool, true, false, cond}
use mathlib.Core.List.{List, [], ◌∷◌, ◌++◌}
use Prim.Native.Nat.{ℕ, suc, ◌+◌, ◌<◌}
use native.Mathlib.Numerals.{add-one}
use native.Mathlib.Omega.{arith}
use lib.ListN.{length, get_or, take, drop, drop_of_length-le}
use lib.Seq.{drop-cons}
use borrow.Author.Tests.{eq-eqb, ne_eqb, lt-ltb, le-ltb}
use Rattle.text.specs.Frame.{First, first_of}
use Rattle.text.specs.Kept.{new_line, pushed, text_of}
use Rattle.text.specs.Output.{refusal_line}
use Rattle.text.specs.Written.{over, Wrote}
use Rattle.text.specs.declared.Line.{Line}
use Rattle.text.proofs.Writing.{wrote}
use Rattle.search.specs.declared.Job.{Job}
use Rattle.text.specs.Report.{table_bytes, built_in, head_text, later_text}
use Rattle.text.specs.Reader.{Effect, is_start, with_line, after_first, first_taken, first_left, first_read, first_line, later_line, quiet, line_as, line_read, byte_read, read_all, end_read, Shown}
use Rattle.text.specs.declared.Printed.{Printed}
use Rattle.text.specs.declared.Reader.{Reader}
use Rattle.text.specs.declared.Stage.{Stage}
use Rattle.text.specs.declared.Stage.TheVariants.{Start, Later, Over}

pub shown-as : {e x : Effect} {r : Printed} {table before after : List ℕ} → x ≡ e → Shown x r table before after → Shown e r table before after
shown-as {r = r} {table = table} {before = before} {after = after} same shown = subst (λ (y : Effect). Shown y r table before after) same shown

-- ---- the first frame

module _ (line : Line) (table : List ℕ) (first : First) (e : first ≡ first_of (text_of line)) where
  first-refused : (first.refusal ≡ 0 → ⊥) → first_left first table ≡ first_line line table
  unfolding first_line first_read
  first-refused h =
      ap (λ (t : Bool). cond t (first_taken first table) (first_left first table)) (sym (ne_eqb first.refusal 0 h))
      ∙ ap (λ (f : First). first_read f table) e

  first-accepted : first.refusal ≡ 0 → first_taken first table ≡ first_line line table
  unfolding first_line first_read
  first-accepted h =
      ap (λ (t : Bool). cond t (first_taken first table) (first_left first table)) (sym (eq-eqb first.refusal 0 h))
      ∙ ap (λ (f : First). first_read f table) e

  module _ (reader : Reader) (before after : List ℕ) (r : ℕ) where
    pub shows-refused : (first.refusal ≡ 0 → ⊥) → reader ≡ after_first first Over → Wrote (refusal_line first.refusal) before after r
        → Shown (first_line line table) (record { reader = reader; length = r }) table before after
    unfolding first_left
    shows-refused h same text = shown-as (first-refused h) (record { kept = refl; reads = same; wrote = text })

    pub shows-accepted : first.refusal ≡ 0 → reader ≡ after_first first Later → (table' : List ℕ) (job : Job)
        → (table', job) ≡ built_in first.kind first.n first.wanted first.size table → Wrote (head_text job) before after r
        → Shown (first_line line table) (record { reader = reader; length = r }) table' before after
    unfolding first_taken
    shows-accepted h same table' job built text =
        shown-as (first-accepted h)
        (record {
          kept = ap (λ (x : List ℕ × Job). x.0) built;
          reads = same;
          wrote = subst (λ (j : Job). Wrote (head_text j) before after r) (ap (λ (x : List ℕ × Job). x.1) built) text;
        })

-- ---- a later frame

pub shows_later : (reader next : Reader) (table before after : List ℕ) (bytes r : ℕ) → bytes ≡ table_bytes reader.kind reader.n
    → next ≡ with_line reader new_line
    → Wrote (later_text reader.kind reader.n reader.wanted (take bytes table) (text_of reader.line)) before after r
    → Shown (later_line reader table) (record { reader = next; length = r }) table before after
unfolding later_line
shows_later reader next table before after bytes r b same text =
    record {
      kept = refl;
      reads = same;
      wrote = subst (λ (k : ℕ). Wrote (later_text reader.kind reader.n reader.wanted (take k table) (text_of reader.line)) before after r) b text;
    }

-- ---- nothing to print

pub shows-quiet : (reader next : Reader) (line : Line) (table out : List ℕ) → next ≡ with_line reader line
    → Shown (quiet reader line table) (record { reader = next; length = 0 }) table out out
unfolding quiet over
shows-quiet reader next line table out same = record { kept = refl; reads = same; wrote = wrote [] out out 0 refl refl }

-- ---- characters one after the other

pub read_none : (reader : Reader) (table cs : List ℕ) (i : ℕ) → i ≡ length cs → (reader, table) ≡ read_all reader table (drop i cs)
unfolding read_all
read_none reader table cs i e = rw (drop_of_length-le cs {i = i} (omega arith))

pub read_more : (reader : Reader) (table cs : List ℕ) (i : ℕ) (r : Printed) (table' before after : List ℕ) → i < length cs
    → Shown (byte_read reader (get_or cs i 0) table) r table' before after → read_all r.reader table' (drop (i + 1) cs) ≡ read_all reader table (drop i cs)
unfolding read_all
read_more reader table cs i r table' before after h shown =
    rw (add-one i, drop-cons cs i 0 h) (ap₂ (λ (x : Reader) (t : List ℕ). read_all x t (drop (suc i) cs)) shown.reads shown.kept)

-- characters after others
read-after : (reader : Reader) (table input more : List ℕ)
    → (let a = read_all reader table input in read_all a.0 a.1 more ≡ read_all reader table (input ++ more))
unfolding read_all
read-after reader table [] more = refl
read-after reader table (c ∷ input) more = let e = byte_read reader c table in read-after e.reader e.table input more

pub read-on : (start reader next : Reader) (table held last input more : List ℕ) → (reader, held) ≡ read_all start table input
    → (next, last) ≡ read_all reader held more → (next, last) ≡ read_all start table (input ++ more)
read-on start reader next table held last input more before now =
    now ∙ ap (λ (a : Reader × List ℕ). read_all a.0 a.1 more) before ∙ read-after start table input more

-- ---- which line, and which character

module _ (reader : Reader) (table : List ℕ) where
  pub line_first : reader.stage ≡ Start → first_line reader.line table ≡ line_read reader table
  unfolding line_read line_as
  line_first h = ap (λ (s : Stage). line_as s reader table) (sym h)

  pub line-later : reader.stage ≡ Later → later_line reader table ≡ line_read reader table
  unfolding line_read line_as
  line-later h = ap (λ (s : Stage). line_as s reader table) (sym h)

  pub line-over : reader.stage ≡ Over → quiet reader new_line table ≡ line_read reader table
  unfolding line_read line_as
  line-over h = ap (λ (s : Stage). line_as s reader table) (sym h)

  pub byte-end : (c : ℕ) → c ≡ 10 → line_read reader table ≡ byte_read reader c table
  unfolding byte_read
  byte-end c h = rw (eq-eqb c 10 h)

  pub byte_more : (c : ℕ) → (c ≡ 10 → ⊥) → quiet reader (pushed reader.line c) table ≡ byte_read reader c table
  unfolding byte_read
  byte_more c h = rw (ne_eqb c 10 h)

  pub end-missing : is_start reader.stage ≡ true → line_read reader table ≡ end_read reader table
  unfolding end_read
  end-missing h = rw h

  pub end-last : is_start reader.stage ≡ false → (reader.line.length ≡ 0 → ⊥) → line_read reader table ≡ end_read reader table
  unfolding end_read
  end-last z h = rw (z, lt-ltb 0 reader.line.length (omega arith))

  pub end_quiet : is_start reader.stage ≡ false → reader.line.length ≡ 0 → quiet reader new_line table ≡ end_read reader table
  unfolding end_read
  end_quiet z h = rw (z, le-ltb 0 reader.line.length (omega arith))

-- `maker::table_text` meets its contract. The loop's invariant: the lines before this one are written.
use mathlib.Core.Path.{◌≡◌, refl, sym, ap, subst, ◌∙◌}
use mathlib.Core.List.{List, ◌++◌}
use Prim.Native.Nat.{ℕ, ◌+◌, ◌*◌, ◌≤◌}
use native.Mathlib.Numerals.{add-one}
use native.Mathlib.Omega.{arith}
use borrow.Author.Rules.{rules}
use lib.ListN.{take, drop, length-replicate}
use Rattle.ones.specs.Ones.{ones_table}
use Rattle.ones.proofs.TableLaws.{table_length}
use Rattle.text.specs.Hex.{line_of}
use Rattle.text.specs.Written.{over, Put, Wrote}
use Rattle.text.proofs.Writing.{wrote, put-after}
use Rattle.maker.specs.OnesText.{line_bytes, line_count, printed_lines, ones_text}
use Rattle.maker.proofs.TextLaws.{lines_more, lines-length, over-whole}
use Rattle.maker.proofs.table_text.Invariants.{text_length, blank}
use Rattle.maker.proofs.table_text.Goals as goal

-- how long the lines before this one are
written : (line : ℕ) (text : List ℕ) (at : ℕ) → line ≤ line_count → Wrote (printed_lines line ones_table) blank text at → at ≡ (2 * line_bytes + 1) * line
written line text at h w = w.count ∙ lines-length line ones_table (omega (arith, table_length))

-- a line more
one_more : (line : ℕ) (bytes text now : List ℕ) (at r : ℕ) → bytes ≡ take line_bytes (drop (line_bytes * line) ones_table)
    → Wrote (printed_lines line ones_table) blank text at → Put (line_of bytes) at text now r → Wrote (printed_lines (line + 1) ones_table) blank now r
one_more line bytes text now at r e w p =
    subst (λ (t : List ℕ). Wrote t blank now r)
    (ap (λ (bs : List ℕ). printed_lines line ones_table ++ line_of bs) e ∙ sym (lines_more line ones_table) ∙ ap (λ (k : ℕ). printed_lines k ones_table) (sym (add-one line)))
    (put-after (printed_lines line ones_table) (line_of bytes) blank text now at r w.count w.front p)

pub loop-line-init : goal.loop-line-init
unfolding printed_lines over
loop-line-init c = (length-replicate {A = ℕ} text_length 0, wrote (printed_lines 0 ones_table) blank blank 0 refl refl)

pub put_line-at-requires : goal.put_line-at-requires
put_line-at-requires c =
    let a = c.loop-line in
    omega (arith, a.invariant.0, written a.line a.text a.at (omega arith) a.invariant.1)

pub loop-line-preserved : goal.loop-line-preserved
loop-line-preserved c =
    let a = c.loop-line in (
      search rules,
      one_more a.line c.line_of.result a.text c.put_line-at.new.out a.at c.put_line-at.result
          c.line_of.ensures a.invariant.1 c.put_line-at.ensures,
    )

pub returns : goal.returns
unfolding ones_text
returns c =
    let a = c.loop-line in
    let e : a.line ≡ line_count = omega arith in
    let w : Wrote ones_text blank a.text a.at = subst (λ (k : ℕ). Wrote (printed_lines k ones_table) blank a.text a.at) e a.invariant.1 in
    w.front
    ∙ over-whole ones_text blank (omega (arith, length-replicate {A = ℕ} text_length 0, lines-length line_count ones_table (omega (arith, table_length))))

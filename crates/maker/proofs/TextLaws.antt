-- The text of a table in lines: a line more, how long it is, and a buffer that it fills.
use mathlib.Core.Path.{◌≡◌, refl, sym, ap, ◌∙◌}
use mathlib.Core.List.{List, ◌++◌, append_assoc, append-nil}
use Prim.Native.Nat.{ℕ, zero, suc, ◌+◌, ◌*◌, ◌≤◌}
use native.Mathlib.Omega.{arith}
use lib.ListN.{length, take, drop, length-append, length-drop, drop_of_length-le}
use lib.Seq.{length-take-le, drop-drop}
use Rattle.text.specs.Hex.{line_of}
use Rattle.text.specs.Written.{over}
use Rattle.text.proofs.Writing.{line-length}
use Rattle.maker.specs.OnesText.{line_bytes, printed_lines}

-- a line more
pub lines_more : (k : ℕ) (bs : List ℕ) → printed_lines (suc k) bs ≡ printed_lines k bs ++ line_of (take line_bytes (drop (line_bytes * k) bs))
unfolding printed_lines
lines_more zero bs = append-nil (line_of (take line_bytes bs))
lines_more (suc k) bs =
    ap (λ (l : List ℕ). line_of (take line_bytes bs) ++ l)
    (lines_more k (drop line_bytes bs)
    ∙ ap (λ (l : List ℕ). printed_lines k (drop line_bytes bs) ++ line_of (take line_bytes l))
    (drop-drop (line_bytes * k) line_bytes bs ∙ ap (λ (i : ℕ). drop i bs) (let e : line_bytes + line_bytes * k ≡ line_bytes * suc k = omega arith in e)))
    ∙ sym (append_assoc (line_of (take line_bytes bs)) (printed_lines k (drop line_bytes bs)) (line_of (take line_bytes (drop (line_bytes * suc k) bs))))

-- two characters a byte, and its end
pub lines-length : (k : ℕ) (bs : List ℕ) → line_bytes * k ≤ length bs → length (printed_lines k bs) ≡ (2 * line_bytes + 1) * k
unfolding printed_lines
lines-length zero bs h = refl
lines-length (suc k) bs h =
    length-append (line_of (take line_bytes bs)) (printed_lines k (drop line_bytes bs))
    ∙ omega (
      arith,
      line-length (take line_bytes bs),
      length-take-le line_bytes bs (omega arith),
      lines-length k (drop line_bytes bs) (omega (arith, length-drop line_bytes bs)),
    )

-- a buffer that a text fills holds the text
pub over-whole : (text out : List ℕ) → length out ≤ length text → over text out ≡ text
unfolding over
over-whole text out h = ap (λ (l : List ℕ). text ++ l) (drop_of_length-le out {i = length text} h) ∙ append-nil text

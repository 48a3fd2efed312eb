-- Writing digits into a buffer: what stands before them and after them stays.
use mathlib.Core.Path.{◌≡◌, refl, sym, ap, ap₂, ◌∙◌}
use mathlib.Core.List.{List, [], ◌∷◌, ◌++◌, append_assoc, append-nil, map}
use Prim.Native.Nat.{ℕ, zero, suc, ◌+◌, ◌*◌, ◌/◌, ◌%◌, ◌≤◌, ◌<◌}
use native.Mathlib.Numerals.{add-one}
use native.Mathlib.Omega.{arith}
use native.Mathlib.Nat.{add-zero, zero-add, suc-mul}
use lib.ListN.{length, get_or, set, take, drop, length-append, take-append-drop}
use lib.Seq.{take-suc, take-length, drop-cons, length-take-le, drop-drop, take-append_seam, drop-append-add, set-append_seam, append_snoc}
use Rattle.base.specs.Words.{from}
use Rattle.base.proofs.Lists.{map-append, from_more}
use Rattle.search.specs.JobState.{count_places}
use Rattle.search.specs.Segments.{joined}
use Rattle.text.specs.Hex.{digit_char, hex_of, line_of, four_bytes}
use Rattle.text.specs.Output.{level_line, levels_below, line_at, level_lines}
use Rattle.text.specs.Written.{over, Put, Wrote}

pub hex-length : (bs : List ℕ) → length (hex_of bs) ≡ 2 * length bs
unfolding hex_of
hex-length [] = refl
hex-length (b ∷ bs) = omega (arith, hex-length bs)

hex-append : (xs ys : List ℕ) → hex_of (xs ++ ys) ≡ hex_of xs ++ hex_of ys
unfolding hex_of
hex-append [] ys = refl
hex-append (x ∷ xs) ys = ap (λ (l : List ℕ). digit_char (x / 16) ∷ digit_char (x % 16) ∷ l) (hex-append xs ys)

-- what the buffer holds when i of the bytes are written from place at on
unfoldable pub put_to : List ℕ → ℕ → List ℕ → ℕ → List ℕ
put_to out at bytes i = take at out ++ hex_of (take i bytes) ++ drop (at + 2 * i) out

set-two : (p : List ℕ) (a b x y : ℕ) (rest : List ℕ) (k : ℕ) → length p ≡ k
    → set (set (p ++ (a ∷ b ∷ rest)) k x) (k + 1) y ≡ p ++ (x ∷ y ∷ rest)
set-two p a b x y rest k e = rw (add-one k, ← e) (go p)
  where
    go : (q : List ℕ) → set (set (q ++ (a ∷ b ∷ rest)) (length q) x) (suc (length q)) y ≡ q ++ (x ∷ y ∷ rest)
    go [] = refl
    go (z ∷ q) = ap (λ (l : List ℕ). z ∷ l) (go q)

pub put-none : (out : List ℕ) (at : ℕ) (bytes : List ℕ) → out ≡ put_to out at bytes 0
unfolding put_to hex_of
put-none out at bytes = rw (append-nil (take at out), add-zero at) (sym (take-append-drop at out))

module _ (out : List ℕ) (at : ℕ) (bytes : List ℕ) (i : ℕ) (h : i < length bytes) (l : at + 2 * i + 1 < length out) where
  -- the digits before byte i, with what stands before them
  abbrev head : List ℕ
  head = take at out ++ hex_of (take i bytes)

  head-length : length head ≡ at + 2 * i
  head-length =
      length-append (take at out) (hex_of (take i bytes))
      ∙ omega (arith, length-take-le at out (omega arith), hex-length (take i bytes), length-take-le i bytes (omega arith))

  -- two digits more
  head_more : hex_of (take (i + 1) bytes) ≡ hex_of (take i bytes) ++ (digit_char (get_or bytes i 0 / 16) ∷ digit_char (get_or bytes i 0 % 16) ∷ [])
  unfolding hex_of
  head_more = rw (add-one i, take-suc bytes i 0 h) (hex-append (take i bytes) (get_or bytes i 0 ∷ []))

  pub put-more : (x y : ℕ) (now : List ℕ) → now ≡ put_to out at bytes i → x ≡ digit_char (get_or bytes i 0 / 16) → y ≡ digit_char (get_or bytes i 0 % 16)
      → set (set now (at + 2 * i) x) (at + 2 * i + 1) y ≡ put_to out at bytes (i + 1)
  unfolding put_to
  put-more x y now e f g =
      let k : ℕ = at + 2 * i in
      let cut : drop k out ≡ get_or out k 0 ∷ get_or out (suc k) 0 ∷ drop (suc (suc k)) out =
      drop-cons out k 0 (omega arith) ∙ ap (λ (r : List ℕ). get_or out k 0 ∷ r) (drop-cons out (suc k) 0 (omega arith)) in
      ap (λ (o : List ℕ). set (set o k x) (k + 1) y) (e ∙ ap (λ (r : List ℕ). head ++ r) cut)
      ∙ set-two head (get_or out k 0) (get_or out (suc k) 0) x y (drop (suc (suc k)) out) k head-length
      ∙ sym (append_assoc head (x ∷ y ∷ []) (drop (suc (suc k)) out))
      ∙ ap (λ (r : List ℕ). r ++ drop (suc (suc k)) out) (append_assoc (take at out) (hex_of (take i bytes)) (x ∷ y ∷ []))
      ∙ ap₂ (λ (r : List ℕ) (j : ℕ). take at out ++ r ++ drop j out)
      (ap₂ (λ (a b : ℕ). hex_of (take i bytes) ++ (a ∷ b ∷ [])) f g ∙ sym head_more)
      (let j : suc (suc (at + 2 * i)) ≡ at + 2 * (i + 1) = omega arith in j)

-- all the bytes are written
pub put-end : (out : List ℕ) (at : ℕ) (bytes : List ℕ) (i : ℕ) (now : List ℕ) → i ≡ length bytes → now ≡ put_to out at bytes i
    → Put (hex_of bytes) at out now (at + 2 * length bytes)
unfolding put_to
put-end out at bytes i now h e =
    record { front = e ∙ rw (h, take-length bytes, hex-length bytes); end = rw hex-length }

-- ---- a line at the front of a buffer

-- a piece more after a text
pub over-more : (text piece out before now : List ℕ) (at : ℕ) → at ≡ length text → before ≡ over text out
    → now ≡ take at before ++ piece ++ drop (at + length piece) before → now ≡ over (text ++ piece) out
unfolding over
over-more text piece out before now at e f g =
    g
    ∙ rw (
      f,
      e,
      take-append_seam text (drop (length text) out),
      drop-append-add text (drop (length text) out) (length piece),
      drop-drop (length piece) (length text) out,
      length-append text piece,
    )

pub wrote : (text before after : List ℕ) (r : ℕ) → after ≡ over text before → r ≡ length text → Wrote text before after r
unfolding over
wrote text before after r e f =
    let within : r ≤ length after = omega (arith, ap length e, length-append text (drop (length text) before)) in
    record { front = e; count = f; within = within; part = sym (length-take-le r after within) }

-- as many bytes as were written are the text
pub wrote-text : {text before after : List ℕ} {r : ℕ} → Wrote text before after r → take r after ≡ text
unfolding over
wrote-text {text} {before} w = rw (w.front, w.count) (take-append_seam text (drop (length text) before))

-- ---- a line from some place on

pub line-length : (bytes : List ℕ) → length (line_of bytes) ≡ 2 * length bytes + 1
unfolding line_of
line-length bytes = length-append (hex_of bytes) (10 ∷ []) ∙ omega (arith, hex-length bytes)

-- the digits of a line's bytes, and its end
pub put-end-line : (bytes out before : List ℕ) (at r : ℕ) → at + 2 * length bytes < length out → Put (hex_of bytes) at out before r
    → Put (line_of bytes) at out (set before r 10) (r + 1)
unfolding line_of
put-end-line bytes out before at r h p =
    let e : r ≡ at + 2 * length bytes = omega (arith, p.end, hex-length bytes) in
    let head : List ℕ = take at out ++ hex_of bytes in
    let long : length head ≡ r =
    length-append (take at out) (hex_of bytes) ∙ omega (arith, length-take-le at out (omega arith), hex-length bytes) in
    let next : at + length (line_of bytes) ≡ suc r = omega (arith, line-length bytes) in
    record {
      front = ap (λ (l : List ℕ). set l r 10)
          (p.front ∙ ap (λ (k : ℕ). head ++ drop k out) (sym p.end) ∙ ap (λ (l : List ℕ). head ++ l) (drop-cons out r 0 (omega arith)))
          ∙ rw (← long) (set-append_seam head (get_or out (length head) 0) (drop (suc (length head)) out) 10)
          ∙ ap (λ (k : ℕ). head ++ (10 ∷ drop (suc k) out)) long
          ∙ sym (append_snoc head 10 (drop (suc r) out))
          ∙ ap₂ (λ (l : List ℕ) (k : ℕ). l ++ drop k out) (append_assoc (take at out) (hex_of bytes) (10 ∷ [])) (sym next);
      end = omega arith;
    }

-- a text put after a text is one text
pub put-after : (text piece out before now : List ℕ) (at r : ℕ) → at ≡ length text → before ≡ over text out → Put piece at before now r
    → Wrote (text ++ piece) out now r
put-after text piece out before now at r e f p =
    wrote (text ++ piece) out now r (over-more text piece out before now at e f p.front)
    (p.end ∙ ap (λ (k : ℕ). k + length piece) e ∙ sym (length-append text piece))

-- ---- the levels, one after the other

joined-last : (xs : List (List ℕ)) (x : List ℕ) → joined (xs ++ (x ∷ [])) ≡ joined xs ++ x
unfolding joined
joined-last [] x = append-nil x
joined-last (y ∷ xs) x = ap (λ (l : List ℕ). y ++ l) (joined-last xs x) ∙ sym (append_assoc y (joined xs) x)

-- whatever a line says of its level
module _ (line : ℕ → List ℕ) where
  pub levels-none : levels_below line 0 ≡ []
  unfolding levels_below joined from
  levels-none = refl

  -- one level more
  pub levels-more : (d : ℕ) → levels_below line (suc d) ≡ levels_below line d ++ line d
  unfolding levels_below
  levels-more d =
      ap (λ (ds : List ℕ). joined (map line ds)) (from_more 0 d)
      ∙ ap joined (map-append line (from 0 d) ((0 + d) ∷ []))
      ∙ joined-last (map line (from 0 d)) (line (0 + d))
      ∙ ap (λ (k : ℕ). joined (map line (from 0 d)) ++ line k) (zero-add d)

  -- lines of one length
  pub levels-length : (wide : ℕ) → ((d : ℕ) → length (line d) ≡ wide) → (levels : ℕ) → length (levels_below line levels) ≡ levels * wide
  levels-length wide each zero = ap length levels-none ∙ omega arith
  levels-length wide each (suc d) =
      ap length (levels-more d)
      ∙ length-append (levels_below line d) (line d)
      ∙ omega (arith, levels-length wide each d, each d, suc-mul d wide)

-- levels of which the same is said
pub levels-same : (line other : ℕ → List ℕ) (levels : ℕ) → ((d : ℕ) → d < levels → line d ≡ other d) → levels_below line levels ≡ levels_below other levels
levels-same line other zero same = levels-none line ∙ sym (levels-none other)
levels-same line other (suc d) same =
    levels-more line d
    ∙ ap₂ (λ (l x : List ℕ). l ++ x) (levels-same line other d (λ i h. same i (omega arith))) (same d (omega arith))
    ∙ sym (levels-more other d)

-- a level's line has eleven characters
pub level-length : (counts : List ℕ) (d : ℕ) → length (line_at counts d) ≡ 11
unfolding level_line line_of hex_of four_bytes
level-length counts d = refl

-- all levels that there are counts of
pub levels-most : (counts : List ℕ) (deepest : ℕ) → deepest < count_places → length (level_lines deepest counts) ≤ 11 * count_places
unfolding level_lines
levels-most counts deepest h = omega (arith, levels-length (line_at counts) 11 (level-length counts) (suc deepest))

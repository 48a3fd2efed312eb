-- Laws of tariffs: what one that is not refused is like, the one price of each size, and tariffs with the same refusal.
use mathlib.Core.Path.{◌≡◌, refl, ap, ◌∙◌, subst}
use mathlib.Core.Logic.{◌⊎◌, inl, inr}
use mathlib.Core.Bool.{Bool, true, false, ◌&&◌, cond}
use mathlib.Core.List.{List, [], ◌∷◌}
use Prim.Native.Nat.{ℕ, ◌+◌, ◌-◌, ◌≤◌, ◌<◌}
use native.Mathlib.Omega.{arith}
use lib.Dec.{leb}
use borrow.Author.Tests.{leb-true, lt-leb}
use Rattle.base.specs.Words.{unless, all, tally, from}
use Rattle.base.proofs.Counting.{all-at, tally-true, tally-false}
use Rattle.base.proofs.Lists.{from-length, get_or-from}
use Rattle.base.proofs.Rows.{check, at_most, ◌and_then◌}
use Rattle.base.proofs.Tests.{test-cases, and_left, and_right, and-fails-left, and-fails-right, lt-or-ge}
use Rattle.tariff.specs.Promise.{OnePrice, OnePriceEach}
use Rattle.tariff.specs.Tariffs.{line_limit, price_limit, tariff_lines, is_line, covers, lines_at, has_line, has_no_second, cover_refusal, tariff_refusal, price_at}
use Rattle.tariff.specs.declared.Line.{Line}
use Rattle.tariff.specs.declared.Tariff.{Tariff}

-- ---- a tariff that is not refused

pub record TariffFacts (last : ℕ) (tariff : Tariff) : Type 0 where
  pub counted : tariff.count ≤ line_limit
  pub lines : all (is_line last) (tariff_lines tariff) ≡ true
  pub covered : all (has_line (tariff_lines tariff)) (from 1 last) ≡ true
  pub single : all (has_no_second (tariff_lines tariff)) (from 1 last) ≡ true

pub tariff-facts : (last : ℕ) (tariff : Tariff) → tariff_refusal last tariff ≡ 0 → TariffFacts last tariff
unfolding tariff_refusal cover_refusal
tariff-facts last tariff h =
    let lines : List Line = tariff_lines tariff in
    let f = (at_most tariff.count line_limit 17 refl
    and_then check (all (is_line last) lines) 17 refl
    and_then check (all (has_line lines) (from 1 last)) 18 refl
    and_then check (all (has_no_second lines) (from 1 last)) 19 refl).asks h in
    record { counted = f.0; lines = f.1.0; covered = f.1.1.0; single = f.1.1.1 }

-- a test of the sizes from 1 to the last, at one of them
at-group : (p : ℕ → Bool) (last k : ℕ) → all p (from 1 last) ≡ true → 1 ≤ k → k ≤ last → p k ≡ true
at-group p last k h l m =
    let inside : k - 1 < last = omega arith in
    let e : 1 + (k - 1) ≡ k = omega arith in
    subst (λ (x : ℕ). p x ≡ true) (get_or-from 1 last (k - 1) 0 inside ∙ e) (all-at p (from 1 last) (k - 1) 0 h (rw from-length inside))

-- ---- the one price of a size

module _ (k : ℕ) where
  pub price-here : (line : Line) (lines : List Line) → covers k line ≡ true → price_at (line ∷ lines) k ≡ line.price
  unfolding price_at
  price-here line lines e = rw e

  pub price-later : (line : Line) (lines : List Line) → covers k line ≡ false → price_at (line ∷ lines) k ≡ price_at lines k
  unfolding price_at
  price-later line lines e = rw e

  one_price : (lines : List Line) → lines_at lines k ≡ 1 → OnePrice lines k
  unfolding lines_at tally
  one_price [] h = absurd (omega arith)
  one_price (line ∷ lines) h = go (test-cases (covers k line)) (one_price lines)
    where
      go : (covers k line ≡ true) ⊎ (covers k line ≡ false) → (lines_at lines k ≡ 1 → OnePrice lines k) → OnePrice (line ∷ lines) k
      go (inl e) rest =
          record {
            before = [];
            line = line;
            later = lines;
            place = refl;
            covered = e;
            none_before = refl;
            none_later = omega (arith, tally-true (covers k) line lines e);
            price = price-here line lines e;
          }
      go (inr e) rest =
          let r = rest (omega (arith, tally-false (covers k) line lines e)) in
          record {
            before = line ∷ r.before;
            line = r.line;
            later = r.later;
            place = ap (λ (l : List Line). line ∷ l) r.place;
            covered = r.covered;
            none_before = tally-false (covers k) line r.before e ∙ r.none_before;
            none_later = r.none_later;
            price = price-later line lines e ∙ r.price;
          }

pub one-price-each : OnePriceEach
unfolding OnePriceEach has_line has_no_second
one-price-each last tariff h k l m =
    let f = tariff-facts last tariff h in
    let lines : List Line = tariff_lines tariff in
    let least : 1 ≤ lines_at lines k = leb-true 1 (lines_at lines k) (at-group (has_line lines) last k f.covered l m) in
    let most : lines_at lines k ≤ 1 = leb-true (lines_at lines k) 1 (at-group (has_no_second lines) last k f.single l m) in
    one_price k lines (omega arith)

-- ---- what the lines are like

pub record LineFacts (last : ℕ) (line : Line) : Type 0 where
  pub starts : 1 ≤ line.first
  pub ends : line.last ≤ last
  pub cheap : line.price ≤ price_limit

line-facts : (last : ℕ) (line : Line) → is_line last line ≡ true → LineFacts last line
unfolding is_line
line-facts last line h =
    let a : Bool = leb 1 line.first in
    let b : Bool = leb line.first line.last in
    let c : Bool = leb line.last last in
    let abc = and_left (a && b && c) (leb line.price price_limit) h in
    record {
      starts = leb-true 1 line.first (and_left a b (and_left (a && b) c abc));
      ends = leb-true line.last last (and_right (a && b) c abc);
      cheap = leb-true line.price price_limit (and_right (a && b && c) (leb line.price price_limit) h);
    }

pub price-limit : (last k : ℕ) (lines : List Line) → all (is_line last) lines ≡ true → price_at lines k ≤ price_limit
unfolding price_at all
price-limit last k [] h = omega arith
price-limit last k (line ∷ lines) h =
    go (covers k line) (line-facts last line (and_left (is_line last line) (all (is_line last) lines) h)).cheap
    (price-limit last k lines (and_right (is_line last line) (all (is_line last) lines) h))
  where
    go : (b : Bool) → line.price ≤ price_limit → price_at lines k ≤ price_limit → cond b line.price (price_at lines k) ≤ price_limit
    go true l m = l
    go false l m = m

-- no line covers what is no size
outside-none : (last k : ℕ) → (k < 1) ⊎ (last < k) → (lines : List Line) → all (is_line last) lines ≡ true → lines_at lines k ≡ 0
unfolding lines_at tally all covers
outside-none last k o [] h = refl
outside-none last k o (line ∷ lines) h =
    tally-false (covers k) line lines (away o (line-facts last line (and_left (is_line last line) (all (is_line last) lines) h)))
    ∙ outside-none last k o lines (and_right (is_line last line) (all (is_line last) lines) h)
  where
    away : (k < 1) ⊎ (last < k) → LineFacts last line → covers k line ≡ false
    away (inl l) f = and-fails-left (leb line.first k) (leb k line.last) (lt-leb line.first k (omega (arith, f.starts)))
    away (inr l) f = and-fails-right (leb line.first k) (leb k line.last) (lt-leb k line.last (omega (arith, f.ends)))

pub never-two : (last : ℕ) (tariff : Tariff) → tariff_refusal last tariff ≡ 0 → (k : ℕ) → lines_at (tariff_lines tariff) k ≤ 1
unfolding has_no_second
never-two last tariff h k = go (lt-or-ge k 1) (lt-or-ge last k)
  where
    f : TariffFacts last tariff
    f = tariff-facts last tariff h

    go : (k < 1) ⊎ (1 ≤ k) → (last < k) ⊎ (k ≤ last) → lines_at (tariff_lines tariff) k ≤ 1
    go (inl l) m = omega (arith, outside-none last k (inl l) (tariff_lines tariff) f.lines)
    go (inr l) (inl m) = omega (arith, outside-none last k (inr m) (tariff_lines tariff) f.lines)
    go (inr l) (inr m) = leb-true (lines_at (tariff_lines tariff) k) 1 (at-group (has_no_second (tariff_lines tariff)) last k f.single l m)

-- ---- tariffs with the same refusal

-- as many lines cover each size, and both or neither have a line that is wrong or are too many
pub same-refusal : (one other : Tariff) → leb one.count line_limit ≡ leb other.count line_limit
    → ((last : ℕ) → all (is_line last) (tariff_lines one) ≡ all (is_line last) (tariff_lines other))
    → ((k : ℕ) → lines_at (tariff_lines one) k ≡ lines_at (tariff_lines other) k)
    → (last : ℕ) → tariff_refusal last one ≡ tariff_refusal last other
unfolding tariff_refusal cover_refusal has_line has_no_second
same-refusal one other c l k last =
    rw (c, l last)
    (ap (λ (at : ℕ → ℕ). unless (leb other.count line_limit) 17 (unless (all (is_line last) (tariff_lines other)) 17
    (unless (all (λ s. leb 1 (at s)) (from 1 last)) 18 (unless (all (λ s. leb (at s) 1) (from 1 last)) 19 0))))
    (λ i s. k s i))

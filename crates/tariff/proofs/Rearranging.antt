-- Tariffs that say the same: the lines in another order, and a line in two parts.
use mathlib.Core.Path.{◌≡◌, refl, sym, ap, ◌∙◌}
use mathlib.Core.Logic.{◌⊎◌, inl, inr}
use mathlib.Core.Bool.{Bool, true, false, ◌&&◌, cond}
use mathlib.Core.List.{List, [], ◌∷◌, ◌++◌}
use Prim.Native.Nat.{ℕ, suc, ◌+◌, ◌≤◌, ◌<◌}
use native.Mathlib.Omega.{arith}
use lib.Dec.{leb}
use borrow.Author.Tests.{leb-true, le-leb, lt-leb}
use Rattle.base.specs.Words.{all, tally}
use Rattle.base.proofs.Counting.{tally-append, all_split}
use Rattle.base.proofs.Tests.{lt-or-ge}
use Rattle.tariff.specs.Promise.{Rearranged, empty, keep, swap, again, AnyOrder, SplitAlike}
use Rattle.tariff.specs.Tariffs.{line_limit, price_limit, tariff_line, is_line, covers, lines_at, price_at}
use Rattle.tariff.specs.declared.Line.{Line}
use Rattle.tariff.proofs.TariffLaws.{never-two, same-refusal}
use Rattle.tariff.proofs.PriceLaws.{same-priced}

-- ---- the lines in another order

-- as many lines pass a test
rearranged-tally : (p : Line → Bool) {a b : List Line} → Rearranged a b → tally p a ≡ tally p b
unfolding tally
rearranged-tally p empty = refl
rearranged-tally p (keep line r) = ap (λ (k : ℕ). cond (p line) 1 0 + k) (rearranged-tally p r)
rearranged-tally p (swap x y a) = omega arith
rearranged-tally p (again r s) = rearranged-tally p r ∙ rearranged-tally p s

rearranged-all : (p : Line → Bool) {a b : List Line} → Rearranged a b → all p a ≡ all p b
unfolding all
rearranged-all p empty = refl
rearranged-all p (keep line r) = ap (λ (t : Bool). p line && t) (rearranged-all p r)
rearranged-all p (swap x y a) = go (p x) (p y)
  where
    go : (s t : Bool) → (s && (t && all p a)) ≡ (t && (s && all p a))
    go true t = refl
    go false true = refl
    go false false = refl
rearranged-all p (again r s) = rearranged-all p r ∙ rearranged-all p s

-- a size that at most one line covers costs the same
rearranged-price : (k : ℕ) {a b : List Line} → Rearranged a b → lines_at a k ≤ 1 → price_at a k ≡ price_at b k
unfolding lines_at tally price_at
rearranged-price k empty h = refl
rearranged-price k (keep line r) h =
    ap (λ (p : ℕ). cond (covers k line) line.price p) (rearranged-price k r (omega arith))
rearranged-price k (swap x y a) h = go (covers k x) (covers k y) h
  where
    go : (s t : Bool) → cond s 1 0 + (cond t 1 0 + tally (covers k) a) ≤ 1
        → cond s x.price (cond t y.price (price_at a k)) ≡ cond t y.price (cond s x.price (price_at a k))
    go true true l = absurd (omega arith)
    go true false l = refl
    go false true l = refl
    go false false l = refl
rearranged-price k (again r s) h = rearranged-price k r h ∙ rearranged-price k s (omega (arith, rearranged-tally (covers k) r))

pub any_order : AnyOrder
unfolding AnyOrder lines_at
any_order one other c r =
    same-priced one other
    (same-refusal one other (ap (λ (m : ℕ). leb m line_limit) c) (λ last. rearranged-all (is_line last) r) (λ k. rearranged-tally (covers k) r))
    (λ last h k. rearranged-price k r (never-two last one h k))

-- ---- a line in two parts

-- the line from first to last, and its parts on both sides of middle
module _ (first middle last price : ℕ) (starts : first ≤ middle) (ends : middle < last) where
  -- a size that the line covers is covered by one of the parts, and no other is
  split-cases : (k : ℕ) (P : Bool → Bool → Bool → Type 0) → P false false false → P true false true → P false true true
      → P (covers k (tariff_line first middle price)) (covers k (tariff_line (suc middle) last price)) (covers k (tariff_line first last price))
  unfolding covers
  split-cases k P neither low up = go (lt-or-ge k first) (lt-or-ge middle k) (lt-or-ge last k)
    where
      go : (k < first) ⊎ (first ≤ k) → (middle < k) ⊎ (k ≤ middle) → (last < k) ⊎ (k ≤ last)
          → P (leb first k && leb k middle) (leb (suc middle) k && leb k last) (leb first k && leb k last)
      go (inl a) b c = rw (lt-leb first k a, lt-leb (suc middle) k (omega arith)) neither
      go (inr a) (inl b) (inl c) = rw (le-leb first k a, lt-leb k middle b, lt-leb k last c, le-leb (suc middle) k b) neither
      go (inr a) (inl b) (inr c) = rw (le-leb first k a, lt-leb k middle b, le-leb k last c, le-leb (suc middle) k b) up
      go (inr a) (inr b) c = rw (le-leb first k a, le-leb k middle b, le-leb k last (omega arith), lt-leb (suc middle) k (omega arith)) low

  split-tally : (k : ℕ) (later : List Line) → tally (covers k) (tariff_line first last price ∷ later) ≡ tally (covers k) (tariff_line first middle price ∷ tariff_line (suc middle) last price ∷ later)
  unfolding tally
  split-tally k later =
      split-cases k (λ l u w. cond w 1 0 + tally (covers k) later ≡ cond l 1 0 + (cond u 1 0 + tally (covers k) later)) (omega arith) (omega arith) (omega arith)

  split-price : (k : ℕ) (later : List Line) → price_at (tariff_line first last price ∷ later) k ≡ price_at (tariff_line first middle price ∷ tariff_line (suc middle) last price ∷ later) k
  unfolding price_at
  split-price k later =
      split-cases k (λ l u w. cond w price (price_at later k) ≡ cond l price (cond u price (price_at later k))) refl refl refl

  -- the parts pass where the line does
  split-all : (n : ℕ) (later : List Line) → all (is_line n) (tariff_line first last price ∷ later) ≡ all (is_line n) (tariff_line first middle price ∷ tariff_line (suc middle) last price ∷ later)
  unfolding all is_line
  split-all n later =
      rw (le-leb first middle starts, le-leb (suc middle) last ends, le-leb first last (omega arith), le-leb 1 (suc middle) (omega arith))
      (go (leb 1 first) (leb middle n) (leb price price_limit) (leb last n) (all (is_line n) later) (λ e. le-leb middle n (omega (arith, leb-true last n e))))
    where
      go : (a b c d rest : Bool) → (d ≡ true → b ≡ true) → (a && true && d && c && rest) ≡ ((a && true && b && c) && ((d && c) && rest))
      go false b c d rest h = refl
      go true true true false rest h = refl
      go true true false false rest h = refl
      go true false c false rest h = refl
      go true b true true rest h = rw (h refl)
      go true b false true rest h = rw (h refl)

-- what follows some lines decides, where it costs the same
price-after : (k : ℕ) (before a b : List Line) → price_at a k ≡ price_at b k → price_at (before ++ a) k ≡ price_at (before ++ b) k
unfolding price_at
price-after k [] a b e = e
price-after k (line ∷ before) a b e = ap (λ (p : ℕ). cond (covers k line) line.price p) (price-after k before a b e)

pub split-alike : SplitAlike
unfolding SplitAlike lines_at
split-alike one other s =
    same-priced one other
    (same-refusal one other counted
    (λ n. ap (all (is_line n)) s.whole ∙ lines n ∙ sym (ap (all (is_line n)) s.parts))
    (λ k. ap (tally (covers k)) s.whole ∙ cover k ∙ sym (ap (tally (covers k)) s.parts)))
    (λ n h k. ap (λ (l : List Line). price_at l k) s.whole ∙ price k ∙ sym (ap (λ (l : List Line). price_at l k) s.parts))
  where
    line : List Line
    line = tariff_line s.first s.last s.price ∷ s.later

    pair : List Line
    pair = tariff_line s.first s.middle s.price ∷ tariff_line (suc s.middle) s.last s.price ∷ s.later

    counted : leb one.count line_limit ≡ leb other.count line_limit
    counted = le-leb one.count line_limit (omega (arith, s.more, s.fits)) ∙ sym (le-leb other.count line_limit s.fits)

    lines : (n : ℕ) → all (is_line n) (s.before ++ line) ≡ all (is_line n) (s.before ++ pair)
    lines n = rw (all_split, all_split) (ap (λ (t : Bool). all (is_line n) s.before && t) (split-all s.first s.middle s.last s.price s.starts s.ends n s.later))

    cover : (k : ℕ) → tally (covers k) (s.before ++ line) ≡ tally (covers k) (s.before ++ pair)
    cover k = rw (tally-append, tally-append) (ap (λ (m : ℕ). tally (covers k) s.before + m) (split-tally s.first s.middle s.last s.price s.starts s.ends k s.later))

    price : (k : ℕ) → price_at (s.before ++ line) k ≡ price_at (s.before ++ pair) k
    price k = price-after k s.before line pair (split-price s.first s.middle s.last s.price s.starts s.ends k s.later)

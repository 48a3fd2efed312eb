-- What the definitions say of lists, in the words that chains of iterators are said in.
use mathlib.Core.Path.{◌≡◌, refl, sym, ap, ap₂, ◌∙◌, subst}
use mathlib.Core.Bool.{Bool, true, false, cond}
use mathlib.Core.List.{List, [], ◌∷◌}
use Prim.Native.Nat.{ℕ, suc, ◌+◌, ◌-◌}
use native.Mathlib.Omega.{arith}
use Rattle.std.specs.List.{count_by, sum, find}
use denote.Ref.{Bor}
use Rattle.std.specs.Prelude.{Option, Some, None, MatchOption}
use Rattle.std.specs.declared.ops.RangeInclusive.{RangeInclusive}
use Rattle.std.specs.Range.{range_inclusive_len, range_inclusive_start, range_inclusive_end, range_inclusive_exhausted, range_inclusive_left}
use Rattle.std.specs.Iterator.{AlwaysYields}
use Rattle.std.proofs.iter.Yields.{listed}
use Rattle.std.proofs.iter.runs.Sources.{nat_range_inclusive_steps}
use Rattle.std.proofs.lemmas.Iterator.{YieldsList}
use Rattle.std.specs.Option.{option_map, unwrap_or}
use Rattle.std.proofs.lemmas.List.Sums.{sum_by-cons}
use Rattle.base.specs.Words.{tally, total, from}
use Rattle.base.proofs.Lists.{from-length}
use Rattle.tariff.specs.Tariffs.{covers, price_at}
use Rattle.tariff.specs.declared.Line.{Line}

pub tally_is : {A : Type 0} (p : A → Bool) (xs : List A) → tally p xs ≡ count_by p xs
unfolding tally
tally_is p [] = refl
tally_is p (x ∷ xs) = omega (arith, tally_is p xs, sum_by-cons (λ y. cond (p y) 1 0) x xs)

pub total_is : (xs : List ℕ) → total xs ≡ sum xs
unfolding total
total_is [] = refl
total_is (x ∷ xs) = omega (arith, total_is xs, sum_by-cons (λ y. y) x xs)

pub price_is : (k : ℕ) (lines : List Line) → price_at lines k ≡ unwrap_or (option_map (λ (line : Line). line.price) (find (covers k) lines)) 0
unfolding price_at
price_is k [] = refl
price_is k (line ∷ lines) = go (covers k line) (price_is k lines)
  where
    go : (t : Bool) → price_at lines k ≡ unwrap_or (option_map (λ (l : Line). l.price) (find (covers k) lines)) 0
        → cond t line.price (price_at lines k) ≡ unwrap_or (option_map (λ (l : Line). l.price) (cond t (Some line) (find (covers k) lines))) 0
    go true e = refl
    go false e = e

-- the price of the line that is found
pub found_price : (k : ℕ) (lines : List Line) (found : Option (Bor Line)) (v : ℕ) → option_map (λ (y : Bor Line). y.now) found ≡ find (covers k) lines
    → MatchOption found (v ≡ 0) (λ y. v ≡ y.now.price) → v ≡ price_at lines k
found_price k lines None v e h = h ∙ ap (λ (o : Option Line). unwrap_or (option_map (λ (l : Line). l.price) o) 0) e ∙ sym (price_is k lines)
found_price k lines (Some y) v e h = h ∙ ap (λ (o : Option Line). unwrap_or (option_map (λ (l : Line). l.price) o) 0) e ∙ sym (price_is k lines)

-- ---- the numbers of `a..=b`

abbrev left : RangeInclusive ℕ → ℕ
left = range_inclusive_left (λ x y. y - x)

abbrev numbers : RangeInclusive ℕ → List ℕ
numbers s = from (range_inclusive_start s) (left s)

after : (a b n : ℕ) (spent : Bool) → (spent ≡ true → n ≡ 0) → (spent ≡ false → b ≡ a + 1) → from (suc a) n ≡ from b n
unfolding from
after a b n true none next = rw (none refl) refl
after a b n false none next = ap (λ (m : ℕ). from m n) (let e : suc a ≡ b = omega (arith, next refl) in e)

spent_left : (s : RangeInclusive ℕ) → range_inclusive_exhausted s ≡ true → left s ≡ 0
spent_left s e = ap (range_inclusive_len (λ x y. y - x) (range_inclusive_start s) (range_inclusive_end s)) e

next_number : (s : RangeInclusive ℕ) (x : ℕ) (t : RangeInclusive ℕ) → nat_range_inclusive_steps s (Some x) t → numbers s ≡ x ∷ numbers t
unfolding from
next_number s x t p =
    ap (from (range_inclusive_start s)) (let e : left s ≡ suc (left t) = omega (arith, p.1.1) in e)
    ∙ ap₂ (λ (y : ℕ) (ys : List ℕ). y ∷ ys) (sym p.1.0) (after (range_inclusive_start s) (range_inclusive_start t) (left t) (range_inclusive_exhausted t) (spent_left t) p.1.2)

pub sizes_yielded : (last : ℕ) (s : RangeInclusive ℕ) → range_inclusive_start s ≡ 1 → range_inclusive_end s ≡ last → range_inclusive_exhausted s ≡ false
    → YieldsList nat_range_inclusive_steps (λ x. x) s (from 1 last)
sizes_yielded last s a b e =
    let long : left s ≡ last =
    ap (range_inclusive_len (λ x y. y - x) (range_inclusive_start s) (range_inclusive_end s)) e ∙ omega (arith, a, b) in
    record {
      runs = subst (AlwaysYields nat_range_inclusive_steps (λ x. x) s) (ap₂ from a long)
          (listed nat_range_inclusive_steps (λ x. x) numbers (λ t u p. from-length (range_inclusive_start t) (left t) ∙ p.1.0) next_number s);
    }

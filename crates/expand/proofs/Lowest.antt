-- Which segments lack room for a stack's children, and the lowest of them.
use mathlib.Core.Path.{◌≡◌, refl, sym, ap, ◌∙◌}
use mathlib.Core.Logic.{◌⊎◌, inl, inr}
use mathlib.Core.Bool.{Bool, true, false, cond}
use mathlib.Core.List.{List, [], ◌∷◌}
use Prim.Native.Nat.{ℕ, zero, suc, ◌+◌, ◌/◌, ◌<◌, ◌≤◌}
use native.Mathlib.Nat.{not-suc-le-zero}
use native.Mathlib.Omega.{arith}
use lib.Dec.{ltb, eqb}
use lib.ListN.{length, get_or}
use borrow.Author.Tests.{lt-ltb, le-ltb, eqb-true}
use borrow.Author.Count.{below_more}
use Rattle.std.specs.Bool.{then_some}
use Rattle.std.specs.List.{count_by}
use Rattle.std.specs.Option.{MatchOption}
use Rattle.std.specs.Prelude.{Option}
use Rattle.std.proofs.lemmas.List.Recursion.{is_count_by}
use Rattle.base.specs.Words.{tally, first_from}
use Rattle.base.proofs.Tests.{lt-or-ge, never, not-is-false}
use Rattle.search.specs.Logs.{falling_in, lacks_room}
use Rattle.expand.specs.Scan.{first_full}
use Rattle.expand.specs.declared.scan.Scan.{Scan}
use Rattle.search.proofs.ExpandCases.{first-before, first_passes, room-lacks}

-- what falls in a segment, counted by the standard library
pub falling-counted : (S t : ℕ) (children : List ℕ) → count_by (λ c. eqb (c / S) t) children ≡ falling_in S t children
unfolding falling_in tally
falling-counted S t children = sym (is_count_by (tally p) p refl (λ x xs. go (p x) (tally p xs)) children)
  where
    p : ℕ → Bool
    p = λ c. eqb (c / S) t

    go : (b : Bool) (n : ℕ) → cond b 1 0 + n ≡ cond b (1 + n) n
    go true n = refl
    go false n = omega arith

-- a segment in which a child falls: its place among the children
tally-place : (p : ℕ → Bool) (xs : List ℕ) → 0 < tally p xs → (i : ℕ) × (i < length xs) × (p (get_or xs i 0) ≡ true)
unfolding tally
tally-place p [] h = absurd (not-suc-le-zero h)
tally-place p (x ∷ xs) h = go (p x) refl (λ l. tally-place p xs l) h
  where
    go : (t : Bool) → p x ≡ t → (0 < tally p xs → (i : ℕ) × (i < length xs) × (p (get_or xs i 0) ≡ true))
        → 0 < cond t 1 0 + tally p xs → (i : ℕ) × (i < suc (length xs)) × (p (get_or (x ∷ xs) i 0) ≡ true)
    go true e rest h = (0, omega arith, e)
    go false e rest h = let r = rest (omega arith) in (suc r.0, omega (arith, r.1), r.2)

pub falling-place : (S t : ℕ) (children : List ℕ) → 0 < falling_in S t children → (i : ℕ) × (i < length children) × (get_or children i 0 / S ≡ t)
unfolding falling_in
falling-place S t children h =
    let r = tally-place (λ c. eqb (c / S) t) children h in (r.0, r.1, eqb-true (get_or children r.0 0 / S) t r.2)

first-most : (p : ℕ → Bool) (a n : ℕ) → first_from p a n ≤ a + n
unfolding first_from
first-most p a zero = omega arith
first-most p a (suc n) = go (p a) (first-most p (suc a) n)
  where
    go : (t : Bool) → first_from p (suc a) n ≤ suc a + n → cond t a (first_from p (suc a) n) ≤ a + suc n
    go true h = omega arith
    go false h = omega arith

-- the first that passes, by what it is
pub first-is : (p : ℕ → Bool) (n r : ℕ) → r ≤ n → ((t : ℕ) → t < r → p t ≡ false) → (r < n → p r ≡ true) → r ≡ first_from p 0 n
first-is p n r l before at = go (lt-or-ge r f) (lt-or-ge f r)
  where
    f : ℕ
    f = first_from p 0 n

    go : (r < f) ⊎ (f ≤ r) → (f < r) ⊎ (r ≤ f) → r ≡ f
    go (inl h) k = never (at (omega (arith, first-most p 0 n))) (first-before p 0 n r (omega arith) h)
    go (inr h) (inl k) = never (first_passes p 0 n (omega arith)) (before f k)
    go (inr h) (inr k) = omega arith

-- segment t lacks room for children
abbrev lacks : Scan → List ℕ → List ℕ → ℕ → Bool
lacks scan waiting children t = lacks_room scan.size scan.room scan.j waiting children t

-- the lowest segment that lacks room among those of the first i children, and G where there is none
pub record LowestTo (scan : Scan) (waiting children : List ℕ) (i lowest : ℕ) : Type 0 where
  pub within : lowest ≤ scan.segments
  pub full : lowest < scan.segments → lacks scan waiting children lowest ≡ true
  pub least : (k : ℕ) → k < i → lacks scan waiting children (get_or children k 0 / scan.size) ≡ true → lowest ≤ get_or children k 0 / scan.size

module _ {scan : Scan} {waiting children : List ℕ} where
  pub lowest-none : LowestTo scan waiting children 0 scan.segments
  lowest-none = record { within = omega arith; full = λ h. absurd (omega arith); least = λ k h. absurd (omega arith) }

  module _ {i lowest : ℕ} (l : LowestTo scan waiting children i lowest) where
    -- the same number by another name
    pub lowest-same : {lowest' : ℕ} → lowest' ≡ lowest → LowestTo scan waiting children i lowest'
    lowest-same e = rw e l

    kept : (lacks scan waiting children (get_or children i 0 / scan.size) ≡ true → lowest ≤ get_or children i 0 / scan.size)
        → LowestTo scan waiting children (i + 1) lowest
    kept h =
        record {
          within = l.within;
          full = l.full;
          least = below_more
              (λ (k : ℕ). lacks scan waiting children (get_or children k 0 / scan.size) ≡ true → lowest ≤ get_or children k 0 / scan.size) i l.least h;
        }

    -- the child at place i falls no lower
    pub lowest-past : lowest ≤ get_or children i 0 / scan.size → LowestTo scan waiting children (i + 1) lowest
    lowest-past h = kept (λ b. h)

    -- the test of its segment
    module _ {r : Bool} (test : r ≡ lacks scan waiting children (get_or children i 0 / scan.size)) where
      pub lowest-kept : r ≡ false → LowestTo scan waiting children (i + 1) lowest
      lowest-kept h = kept (λ b. never b (sym test ∙ h))

      pub lowest-new : get_or children i 0 / scan.size < lowest → r ≡ true → LowestTo scan waiting children (i + 1) (get_or children i 0 / scan.size)
      lowest-new h k =
          let t : ℕ = get_or children i 0 / scan.size in
          record {
            within = omega (arith, l.within);
            full = λ g. sym test ∙ k;
            least = below_more (λ (k : ℕ). lacks scan waiting children (get_or children k 0 / scan.size) ≡ true → t ≤ get_or children k 0 / scan.size) i
                (λ q g b. omega (arith, l.least q g b))
                (λ b. omega arith);
          }

    -- at the last child it is the lowest of all segments: where none of the children falls, none lacks room
    lowest-end : length children ≤ i → lowest ≡ first_full scan waiting children
    lowest-end past =
        first-is p scan.segments lowest l.within (λ t h. not-is-false (p t) (λ k. omega (arith, reached t k))) l.full
      where
        p : ℕ → Bool
        p = lacks scan waiting children

        reached : (t : ℕ) → p t ≡ true → lowest ≤ t
        reached t k =
            let q = falling-place scan.size t children (omega (arith, (room-lacks scan.size scan.room scan.j waiting children t k).1)) in
            rw q.2 at (l.least q.0 (omega (arith, q.1)) (ap p q.2 ∙ k))

    -- the answer: that segment, if it is one
    pub lowest-found : length children ≤ i → (r : Option ℕ) → r ≡ then_some (ltb lowest scan.segments) lowest
        → MatchOption r (scan.segments ≤ first_full scan waiting children) (λ t. (t ≡ first_full scan waiting children) × (t < scan.segments))
    lowest-found past r e = rw e (go (lt-or-ge lowest scan.segments))
      where
        is : lowest ≡ first_full scan waiting children
        is = lowest-end past

        go : (lowest < scan.segments) ⊎ (scan.segments ≤ lowest)
            → MatchOption (then_some (ltb lowest scan.segments) lowest) (scan.segments ≤ first_full scan waiting children)
            (λ t. (t ≡ first_full scan waiting children) × (t < scan.segments))
        go (inl h) = rw (lt-ltb lowest scan.segments h) (is, h)
        go (inr h) = rw (le-ltb lowest scan.segments h, ← is) h

-- A set of counts, one for each depth, of the vertices that a test f lets by: what it holds while a level is searched, and at the end. A search
-- may keep more than one, each by its own test.
--   depth_count   how many are at depth i
--   Counting     in level d: complete below d, what is found so far at d, 0 above
--   Counted      at the end, with d the deepest: complete below the bound b, 0 past d
use mathlib.Core.Path.{◌≡◌, sym, ap, ◌∙◌, subst}
use mathlib.Core.Logic.{◌⊎◌, inl, inr}
use mathlib.Core.Bool.{Bool, ◌&&◌, cond, and-false}
use mathlib.Core.List.{List}
use Prim.Native.Nat.{ℕ, suc, ◌-◌, ◌<◌, ◌≤◌}
use native.Mathlib.Omega.{arith}
use lib.Dec.{leb, eqb}
use borrow.Author.Tests.{ne_eqb, le-leb, lt-leb}
use Rattle.base.specs.Words.{tally, from}
use Rattle.base.proofs.Tests.{lt-or-ge, eq-or-ne}
use Rattle.graph.proofs.Counts.{found, found-goal, found-start, found-next, found_all}
use Rattle.graph.proofs.Depths.{Depths}
use Rattle.graph.proofs.Levels.{Level, Reached}
use Rattle.graph.proofs.Tally.{tally-le, tally-none}

abbrev pub depth_count : (ℕ → Bool) → ℕ → (ℕ → ℕ) → ℕ → ℕ
depth_count f N D i = tally (λ v. f v && eqb (D v) i) (from 0 N)

module _ (f : ℕ → Bool) (N : ℕ) (D count : ℕ → ℕ) where
  pub record Counting (e : ℕ → ℕ) (d : ℕ) : Type 0 where
    pub below : (i : ℕ) → i < d → count i ≡ depth_count f N D i
    pub here : count d ≡ tally (found f D d e) (from 0 N)
    pub above : (i : ℕ) → d < i → count i ≡ 0

  pub record Counted (b d : ℕ) : Type 0 where
    pub each : (i : ℕ) → i < b → count i ≡ depth_count f N D i
    pub past : (i : ℕ) → d < i → count i ≡ 0

-- at a depth where there is no vertex none is counted
depth-none : (f : ℕ → Bool) (N : ℕ) (D : ℕ → ℕ) (i : ℕ) → ((v : ℕ) → v < N → D v ≡ i → ⊥) → depth_count f N D i ≡ 0
depth-none f N D i none =
    tally-none (λ v. f v && eqb (D v) i) N (λ v h. ap (λ (t : Bool). f v && t) (ne_eqb (D v) i (none v h)) ∙ and-false (f v))

-- when the first level begins, w alone is counted
pub counting-start : (f : ℕ → Bool) {N : ℕ} {moves : List ℕ} {step : ℕ → ℕ → ℕ} {w b : ℕ} {D : ℕ → ℕ} → Depths N moves step w b D → w < N
    → {e : ℕ → ℕ} → ((v : ℕ) → v < N → (v ≡ w → ⊥) → e v ≡ 3)
    → (count : ℕ → ℕ) → count 0 ≡ cond (f w) 1 0 → ((i : ℕ) → 0 < i → count i ≡ 0) → Counting f N D count e 1
counting-start f {N} {D} depths inside blank count one none =
    record {
      below = λ i h. subst (λ (x : ℕ). count x ≡ depth_count f N D x) (let first : 0 ≡ i = omega arith in first)
          (one ∙ sym (found-goal f depths inside));
      here = none 1 (omega arith) ∙ sym (found-start f depths blank);
      above = λ i h. none i (omega arith);
    }

module _ {f : ℕ → Bool} {N : ℕ} {D count e : ℕ → ℕ} {d : ℕ} (counting : Counting f N D count e d) where
  -- the level has found more
  pub counting-found : {count' e' : ℕ → ℕ} → ((i : ℕ) → (i ≡ d → ⊥) → count' i ≡ count i) → count' d ≡ tally (found f D d e') (from 0 N)
      → Counting f N D count' e' d
  counting-found others here =
      record {
        below = λ i h. others i (λ q. omega arith) ∙ counting.below i h;
        here = here;
        above = λ i h. others i (λ q. omega arith) ∙ counting.above i h;
      }

  -- no count exceeds the number of all vertices
  pub counting-le : (i : ℕ) → count i ≤ N
  counting-le i = go (lt-or-ge i d) (eq-or-ne i d)
    where
      go : (i < d) ⊎ (d ≤ i) → (i ≡ d) ⊎ (i ≡ d → ⊥) → count i ≤ N
      go (inl h) q = omega (arith, counting.below i h, tally-le (λ v. f v && eqb (D v) i) N)
      go (inr h) (inl q) = omega (arith, ap count q, counting.here, tally-le (found f D d e) N)
      go (inr h) (inr q) = omega (arith, counting.above i (omega arith))

  -- a level that is searched whole
  module _ {H : ℕ → ℕ → Type 0} {L : ℕ → Type 0} (level : Level N D d e H L) (none : (v : ℕ) → L v → ⊥) (reached : Reached N D d H) where
    pub counting-whole : count d ≡ depth_count f N D d
    counting-whole = counting.here ∙ found_all f level none reached

    counting-upto : (i : ℕ) → i ≤ d → count i ≡ depth_count f N D i
    counting-upto i h = go (eq-or-ne i d)
      where
        go : (i ≡ d) ⊎ (i ≡ d → ⊥) → count i ≡ depth_count f N D i
        go (inl q) = subst (λ (x : ℕ). count x ≡ depth_count f N D x) (sym q) counting-whole
        go (inr q) = counting.below i (omega arith)

    -- each count follows from the depths alone
    pub counting-is : (i : ℕ) → count i ≡ cond (leb i d) (depth_count f N D i) 0
    counting-is i = go (lt-or-ge d i)
      where
        go : (d < i) ⊎ (i ≤ d) → count i ≡ cond (leb i d) (depth_count f N D i) 0
        go (inl h) = rw (lt-leb i d h) (counting.above i h)
        go (inr h) = rw (le-leb i d h) (counting-upto i h)

    -- by counts that stay, the next level begins, or the search ends where nothing is at d or deeper
    module _ {count' : ℕ → ℕ} (kept : (i : ℕ) → count' i ≡ count i) where
      pub counting-next : Counting f N D count' e (suc d)
      counting-next =
          record {
            below = λ i h. kept i ∙ counting-upto i (omega arith);
            here = kept (suc d) ∙ counting.above (suc d) (omega arith) ∙ sym (found-next f level);
            above = λ i h. kept i ∙ counting.above i (omega arith);
          }

      pub counting-end : {b : ℕ} → d < b → ((v : ℕ) → v < N → D v < b → D v < d) → Counted f N D count' b (d - 1)
      counting-end {b} low shallow = record { each = λ i h. each i h (lt-or-ge d i); past = λ i h. past i h (lt-or-ge d i) }
        where
          empty : (i : ℕ) → i < b → d ≤ i → depth_count f N D i ≡ 0
          empty i h l = depth-none f N D i (λ v g q. omega (arith, shallow v g (omega arith)))

          each : (i : ℕ) → i < b → (d < i) ⊎ (i ≤ d) → count' i ≡ depth_count f N D i
          each i h (inl l) = kept i ∙ counting.above i l ∙ sym (empty i h (omega arith))
          each i h (inr l) = kept i ∙ counting-upto i l

          past : (i : ℕ) → d - 1 < i → (d < i) ⊎ (i ≤ d) → count' i ≡ 0
          past i h (inl l) = kept i ∙ counting.above i l
          past i h (inr l) = kept i ∙ counting-upto i l ∙ empty i (omega arith) (omega arith)

-- nor does one at the end
pub counted-le : {f : ℕ → Bool} {N : ℕ} {D count : ℕ → ℕ} {b d : ℕ} → Counted f N D count b d → d < b → (i : ℕ) → count i ≤ N
counted-le {f} {N} {D} {count} {b} counted low i = go (lt-or-ge i b)
  where
    go : (i < b) ⊎ (b ≤ i) → count i ≤ N
    go (inl h) = omega (arith, counted.each i h, tally-le (λ v. f v && eqb (D v) i) N)
    go (inr h) = omega (arith, counted.past i (omega arith))

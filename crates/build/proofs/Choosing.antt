-- A loop that looks for the first segment that passes a test, and those that the driver has.
use mathlib.Core.Path.{◌≡◌, ap}
use mathlib.Core.Bool.{Bool, true, false, not}
use Prim.Native.Nat.{ℕ, ◌≤◌, ◌<◌}
use native.Mathlib.Omega.{arith}
use borrow.Author.Tests.{eq-eqb, ne_eqb, le-ltb}
use Rattle.base.proofs.Tests.{and-fails-right}
use lib.Dec.{ltb}
use Rattle.search.specs.Drive.{first_pair}
use Rattle.search.specs.JobState.{segment_count_of, is_loaded, is_coherent, no_segment}
use Rattle.search.specs.Segments.{segment_limit}
use Rattle.search.specs.declared.Job.{Job}
use Rattle.search.proofs.Coherence.{coherent-facts}
use Rattle.search.proofs.PairLaws.{loaded-below}
use Rattle.job.proofs.Bounds.{coherent-bounds}
use Rattle.expand.proofs.Lowest.{first-is}
use Rattle.base.specs.Words.{first_from}
use Rattle.std.specs.Prelude.{Option, Some, None, MatchOption}
use Rattle.std.specs.Bool.{⊤}
use Rattle.std.specs.declared.ops.Range.{Range}
use Rattle.std.specs.Fn.{CalledAt}
use Rattle.std.specs.Iterator.{YieldsThen}
use Rattle.std.specs.List.{FoldsTo}
use Rattle.std.proofs.iter.Yields.{nat_range_steps}
use Rattle.std.proofs.lemmas.Iterator.{first_from_Range}
use denote.Param.Members.{Mut}
use denote.Ref.{Bor}
use mathlib.Core.List.{List}
use mathlib.Core.Path.{sym}
use Rattle.build.specs.First.{IsFirst, IsPair}

-- of so many segments, the first that passes
first : (p : ℕ → Bool) (n : ℕ) (r : Option ℕ)
    → MatchOption r ((k : ℕ) → k < n → p k ≡ false) (λ j. (j < n) × (p j ≡ true) × ((k : ℕ) → k < j → p k ≡ false)) → IsFirst (first_from p 0 n) n r
first p n None none = omega (arith, first-is p n n (omega arith) none (λ h. absurd (omega arith)))
first p n (Some j) at = let is : j ≡ first_from p 0 n = first-is p n j (omega (arith, at.0)) at.2 (λ h. at.1) in (is, omega (arith, at.0))

-- what `find` answers over the segments, where the closure tells whether p holds
pub found : {F : Type 0} {g : Mut F (Bor ℕ × Unit {0}) Bool} (p : ℕ → Bool) (n : ℕ) (s u : Range ℕ) (f : F) (r : Option ℕ)
    → (xs : List ℕ) × (j : F) × YieldsThen nat_range_steps s xs r u × FoldsTo (λ p x q. CalledAt g p x false q) f xs j × MatchOption r ⊤ (λ x. (h : F) × CalledAt g j x true h)
    → ((x : ℕ) (b : Bool) (q : F) → CalledAt g f x b q → (q ≡ f) × (b ≡ p x)) → s.start ≡ 0 → s.end ≡ n
    → IsFirst (first_from p 0 n) n r
found {F = F} {g = g} p n s u f r ran tells starts ends = first p n r (plain r (first_from_Range s u f r (λ j. p j ≡ true) (λ j. p j ≡ false) ran yes no))
  where
    yes : (x : ℕ) (q : F) → CalledAt g f x true q → p x ≡ true
    yes x q k = sym (tells x true q k).1

    no : (x : ℕ) (q : F) → CalledAt g f x false q → (q ≡ f) × (p x ≡ false)
    no x q k = ((tells x false q k).0, sym (tells x false q k).1)

    plain : (r : Option ℕ) → MatchOption r ((k : ℕ) → s.start ≤ k → k < s.end → p k ≡ false)
        (λ i. (s.start ≤ i) × (i < s.end) × (p i ≡ true) × ((k : ℕ) → s.start ≤ k → k < i → p k ≡ false))
        → MatchOption r ((k : ℕ) → k < n → p k ≡ false) (λ j. (j < n) × (p j ≡ true) × ((k : ℕ) → k < j → p k ≡ false))
    plain None none = λ k h. none k (omega (arith, starts)) (omega (arith, ends))
    plain (Some i) at = (omega (arith, at.1, ends), at.2, λ k h. at.3 k (omega (arith, starts)) h)

-- whether a segment is loaded, as the code asks it
module _ (job : Job) where
  pub loaded-none : job.loaded ≡ no_segment → is_loaded job ≡ false
  unfolding is_loaded
  loaded-none e = ap not (eq-eqb job.loaded no_segment e)

  pub loaded-some : (job.loaded ≡ no_segment → ⊥) → is_loaded job ≡ true
  unfolding is_loaded
  loaded-some ne = ap not (ne_eqb job.loaded no_segment ne)

  -- then it is one of the job's
  pub loaded-inside : is_coherent job ≡ true → (job.loaded ≡ no_segment → ⊥) → job.loaded < segment_limit
  loaded-inside coherent ne =
      omega (arith, loaded-below job (coherent-facts job coherent).loaded-fits (loaded-some ne), (coherent-bounds job coherent).few)

  -- with one loaded, what is found is the pair to sweep
  pub paired : is_loaded job ≡ true → (r : Option ℕ) → IsFirst (first_pair job) (segment_count_of job) r → IsPair job r
  paired loaded None none = and-fails-right (is_loaded job) (ltb (first_pair job) (segment_count_of job)) (le-ltb (first_pair job) (segment_count_of job) none)
  paired loaded (Some j) at = (loaded, at.0, at.1)

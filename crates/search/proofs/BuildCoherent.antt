-- Every job of a build is coherent: no call of it is refused 7.
use mathlib.Core.Path.{◌≡◌, ap, ◌∙◌}
use mathlib.Core.Logic.{◌⊎◌, inl, inr}
use mathlib.Core.Bool.{true, not, cond}
use mathlib.Core.List.{[]}
use Prim.Native.Nat.{ℕ, ◌≤◌, ◌<◌}
use native.Mathlib.Omega.{arith}
use lib.Dec.{leb, ltb}
use lib.ListN.{get_or}
use borrow.Author.Tests.{lt-ltb, le-ltb, le-leb, eq-eqb}
use Rattle.base.proofs.Tests.{and_both, or_right, lt-or-ge}
use Rattle.graph.proofs.LevelCounts.{counting-le, counted-le}
use Rattle.stacks.proofs.KindLaws.{count_fits}
use Rattle.search.specs.Blank.{blanked}
use Rattle.search.specs.Build.{World}
use Rattle.search.specs.JobState.{last_level, no_segment, count_limit, segment_count_of, passed_of, waiting_of, count_of, phase_fits, is_loaded, loaded_fits, is_coherent}
use Rattle.search.specs.Terms.{N, G, m}
use Rattle.search.specs.declared.Terms.{Terms}
use Rattle.search.proofs.Coherence.{facts-coherent}
use Rattle.search.proofs.Invariant.{Shaped, Blanks, Searches, Ended, InPhase, blanking, searching, ended, Invariant}
use Rattle.search.proofs.Shapes.{room-is, segments-is, stacks-is, begins-is}
use Rattle.search.proofs.Given.{Given}

-- a log that is within bounds by what it may hold there
within : (x j g C : ℕ) → (j < g → x ≤ C) → (g ≤ j → x ≡ 0) → x ≤ cond (ltb j g) C 0
within x j g C low high = go (lt-or-ge j g)
  where
    go : (j < g) ⊎ (g ≤ j) → x ≤ cond (ltb j g) C 0
    go (inl h) = rw (lt-ltb j g h) (low h)
    go (inr h) = rw (le-ltb j g h) (omega (arith, high h))

module _ {terms : Terms} (given : Given terms) {w : World} (shaped : Shaped terms w) where
  count_small : (x : ℕ) → x ≤ N terms → x ≤ count_limit
  unfolding count_limit
  count_small x h = omega (arith, count_fits terms.kind terms.n given.in-range)

  module _ (passed : (j : ℕ) → passed_of w.job j ≤ m terms j) (waiting : (j : ℕ) → waiting_of w.job j ≤ terms.room)
      (beyond : (j : ℕ) → G terms ≤ j → waiting_of w.job j ≡ 0)
      (counts : (d : ℕ) → count_of w.job d ≤ N terms) (fits : phase_fits w.job.phase ≡ true) where
    shaped-coherent : is_coherent w.job ≡ true
    unfolding waiting_of loaded_fits is_loaded
    shaped-coherent =
        facts-coherent w.job
        (record {
          begins = begins-is shaped given;
          phase-fits = fits;
          passed-fits = λ j h. rw (stacks-is shaped j) (passed j);
          waiting-fits = λ j h. rw (segments-is shaped, room-is shaped)
              (within (waiting_of w.job j) j (G terms) terms.room (λ l. waiting j) (beyond j));
          counts-fit = λ d. count_small (count_of w.job d) (counts d);
          loaded-fits = loaded shaped.loaded-fits;
          swept-fits = λ b h. rw (segments-is shaped) (shaped.swept-fits b);
        })
      where
        loaded : (w.job.loaded ≡ no_segment) ⊎ (w.job.loaded < G terms) → loaded_fits w.job ≡ true
        loaded (inl e) = rw (eq-eqb w.job.loaded no_segment e)
        loaded (inr l) =
            or_right (not (is_loaded w.job)) (ltb w.job.loaded (segment_count_of w.job))
            (lt-ltb w.job.loaded (segment_count_of w.job) (rw (segments-is shaped) l))

  blanks-coherent : Blanks terms w → is_coherent w.job ≡ true
  unfolding phase_fits
  blanks-coherent blanks =
      shaped-coherent
      (λ j. passed j (lt-or-ge j (G terms)))
      (λ j. omega (arith, blanks.none-waits j))
      (λ j h. blanks.none-waits j)
      (λ d. omega (arith, blanks.none-counted d))
      (ap phase_fits blanks.phase_is)
    where
      each : (j : ℕ) → (passed_of w.job j ≡ 0)
          ⊎ ((passed_of w.job j ≡ m terms j) × (get_or w.segments j [] ≡ blanked w.job j))
          → passed_of w.job j ≤ m terms j
      each j (inl e) = omega arith
      each j (inr e) = omega (arith, e.0)

      passed : (j : ℕ) → (j < G terms) ⊎ (G terms ≤ j) → passed_of w.job j ≤ m terms j
      passed j (inl h) = each j (blanks.each j h)
      passed j (inr h) = omega (arith, blanks.none-beyond j h)

  searches-coherent : {d : ℕ} → Searches terms w d → is_coherent w.job ≡ true
  unfolding phase_fits
  searches-coherent {d} s =
      shaped-coherent
      s.passed-fits
      s.waiting-fits
      s.waiting-beyond
      (counting-le s.counts)
      (ap phase_fits s.phase_is
      ∙ and_both (leb 1 d) (leb d last_level) (le-leb 1 d s.level.positive) (le-leb d last_level s.last))

  ended-coherent : {d : ℕ} → Ended terms w d → is_coherent w.job ≡ true
  unfolding phase_fits
  ended-coherent {d} s =
      shaped-coherent
      (λ j. omega (arith, s.none_passed j))
      (λ j. omega (arith, s.none-waits j))
      (λ j h. s.none-waits j)
      (counted-le s.counts (omega (arith, s.last)))
      (ap phase_fits s.phase_is ∙ lt-ltb d last_level s.last)

pub invariant-coherent : {terms : Terms} {w : World} → Given terms → Invariant terms w
    → is_coherent w.job ≡ true
invariant-coherent {terms} {w} given invariant = go invariant.phase
  where
    go : InPhase terms w → is_coherent w.job ≡ true
    go (blanking s) = blanks-coherent given invariant.shaped s
    go (searching d s) = searches-coherent given invariant.shaped s
    go (ended d s) = ended-coherent given invariant.shaped s

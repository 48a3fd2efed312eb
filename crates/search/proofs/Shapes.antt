-- Laws of a shaped world: G, m and the log area's length by its job are those of what Begin was given.
use mathlib.Core.Path.{◌≡◌, ap, ◌∙◌}
use mathlib.Core.Logic.{◌⊎◌, inl, inr}
use mathlib.Core.Bool.{true}
use Prim.Native.Nat.{ℕ, ◌*◌, ◌<◌}
use native.Mathlib.Omega.{arith}
use lib.Dec.{eqb}
use borrow.Author.Tests.{eq-eqb, not-true}
use Rattle.base.proofs.Tests.{never}
use Rattle.search.specs.Blank.{goal_of}
use Rattle.search.specs.Build.{World}
use Rattle.search.specs.JobState.{no_segment, is_loaded, stack_count_of, segment_count_of, stack_count_at, log_length}
use Rattle.search.specs.Terms.{begin_refusal, N, G, m}
use Rattle.search.specs.declared.Terms.{Terms}
use Rattle.search.proofs.Coherence.{given-begin}
use Rattle.search.proofs.Invariant.{Shaped}
use Rattle.search.proofs.SegmentLaws.{Segmented, segment-size-facts}
use Rattle.search.proofs.Given.{Given, goal}

module _ {terms : Terms} {w : World} (shaped : Shaped terms w) where
  pub size_is : w.job.terms.size ≡ terms.size
  size_is = ap (λ (t : Terms). t.size) shaped.terms_is

  pub room-is : w.job.terms.room ≡ terms.room
  room-is = ap (λ (t : Terms). t.room) shaped.terms_is

  pub count-is : stack_count_of w.job ≡ N terms
  unfolding stack_count_of
  count-is = ap N shaped.terms_is

  pub segments-is : segment_count_of w.job ≡ G terms
  unfolding segment_count_of stack_count_of
  segments-is = ap G shaped.terms_is

  pub stacks-is : (j : ℕ) → stack_count_at w.job j ≡ m terms j
  unfolding stack_count_at stack_count_of
  stacks-is j = ap (λ (t : Terms). m t j) shaped.terms_is

  pub area-is : log_length w.job ≡ G terms * terms.room
  unfolding log_length segment_count_of stack_count_of
  area-is = ap (λ (t : Terms). G t * t.room) shaped.terms_is

  pub goal-is : goal_of w.job ≡ goal terms
  unfolding goal_of
  goal-is = ap goal shaped.terms_is

  -- what is loaded is a segment
  pub loaded-low : is_loaded w.job ≡ true → w.job.loaded < G terms
  unfolding is_loaded
  loaded-low h = go shaped.loaded-fits
    where
      go : (w.job.loaded ≡ no_segment) ⊎ (w.job.loaded < G terms) → w.job.loaded < G terms
      go (inl e) = never (eq-eqb w.job.loaded no_segment e) (not-true (eqb w.job.loaded no_segment) h)
      go (inr l) = l

  pub begins-is : Given terms → begin_refusal w.job.terms ≡ 0
  begins-is given = ap begin_refusal shaped.terms_is ∙ given-begin terms given

  pub shaped-segmented : Given terms → Segmented (N terms) terms.size w.segments
  shaped-segmented given =
      let facts = segment-size-facts (N terms) terms.size given.segments in
      record { some = omega (arith, facts.least); four = facts.four; count = shaped.segments-length; sizes = shaped.segment-bytes }

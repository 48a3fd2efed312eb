-- How much a build has left to do, as a number that falls: levels first, then what is left of the phase: stacks not passed, then logs with
-- entries; in a reverse level pairs not swept, then whether a load is due.
use mathlib.Core.Path.{◌≡◌, sym, ap, ◌∙◌}
use mathlib.Core.Bool.{Bool, true, false, not, cond}
use mathlib.Core.List.{List}
use Prim.Native.Nat.{ℕ, suc, ◌+◌, ◌-◌, ◌*◌, ◌/◌, ◌%◌, ◌^◌, ◌≤◌, ◌<◌}
use native.Mathlib.Omega.{arith}
use lib.Arith.{digits_div, digits_mod}
use lib.Dec.{leb, ltb, eqb}
use lib.ListN.{get_or}
use borrow.Author.Tests.{lt-ltb, le-ltb, leb-true, le-leb, lt-leb, not-true}
use Rattle.base.specs.Words.{tally, from}
use Rattle.base.proofs.Radix.{digits-less}
use Rattle.base.proofs.Tests.{not-is-false, never}
use Rattle.graph.proofs.Tally.{tally-le, tally-one-more, tally-falls}
use Rattle.search.specs.Build.{is_load_due}
use Rattle.search.specs.Drive.{is_pending}
use Rattle.search.specs.JobState.{last_level, passed_of, waiting_of, swept_of, is_swept, in_reverse}
use Rattle.search.specs.Segments.{segment_count, stack_count_in}
use Rattle.search.specs.declared.Job.{Job}
use Rattle.search.specs.declared.Phase.{Phase}
use Rattle.search.specs.declared.Phase.TheVariants.{Blanking, Level, Finished}
use Rattle.search.proofs.SegmentLaws.{segment-stack, segment-stack-div, segment-stack-mod}

unfoldable pub levels_left : Phase → ℕ
levels_left Blanking = suc last_level
levels_left (Level d) = suc last_level - d
levels_left (Finished d) = 0

-- stack v is not passed
unfoldable pub is_left : ℕ → Job → ℕ → Bool
is_left S job v = leb (passed_of job (v / S)) (v % S)

module _ (N S : ℕ) where
  unfoldable pub stacks_left : Job → ℕ
  stacks_left job = tally (is_left S job) (from 0 N)

  unfoldable pub logs_left : Job → ℕ
  logs_left job = tally (is_pending job) (from 0 (segment_count N S))

  -- pair p of the G × G ones is that of segments p / G and p mod G
  unfoldable pub is_pair_left : Job → ℕ → Bool
  is_pair_left job p = not (is_swept job (p / segment_count N S) (p % segment_count N S))

  unfoldable pub pairs_left : Job → ℕ
  pairs_left job = tally (is_pair_left job) (from 0 (segment_count N S * segment_count N S))

  -- what is left of the phase that the job is in, and a number that it stays below
  unfoldable pub forward_left : Job → ℕ
  forward_left job = stacks_left job * suc (segment_count N S) + logs_left job

  unfoldable pub reverse_left : Job → ℕ
  reverse_left job = 2 * pairs_left job + cond (is_load_due job) 1 0

  unfoldable pub phase_left : Job → ℕ
  phase_left job = cond (in_reverse job) (reverse_left job) (forward_left job)

  unfoldable pub phase_most : ℕ
  phase_most = suc N * suc (segment_count N S) + 2 * suc (segment_count N S * segment_count N S)

  unfoldable pub work_left : Job → ℕ
  work_left job = levels_left job.phase * phase_most + phase_left job

  forward-less : (job : Job) → forward_left job < suc N * suc (segment_count N S)
  unfolding forward_left stacks_left logs_left
  forward-less job =
      omega (
        arith,
        digits-less (suc (segment_count N S)) (stacks_left job) (logs_left job) (suc N) 0
            (omega (arith, tally-le (is_pending job) (segment_count N S)))
            (omega (arith, tally-le (is_left S job) N)),
      )

  reverse-less : (job : Job) → reverse_left job < 2 * suc (segment_count N S * segment_count N S)
  unfolding reverse_left pairs_left
  reverse-less job = go (is_load_due job)
    where
      go : (t : Bool) → 2 * pairs_left job + cond t 1 0 < 2 * suc (segment_count N S * segment_count N S)
      go true = omega (arith, tally-le (is_pair_left job) (segment_count N S * segment_count N S))
      go false = omega (arith, tally-le (is_pair_left job) (segment_count N S * segment_count N S))

  pub phase-less : (job : Job) → phase_left job < phase_most
  unfolding phase_left phase_most
  phase-less job = go (in_reverse job) forward reverse
    where
      forward : forward_left job < suc N * suc (segment_count N S)
      forward = forward-less job

      reverse : reverse_left job < 2 * suc (segment_count N S * segment_count N S)
      reverse = reverse-less job

      go : (t : Bool) → forward_left job < suc N * suc (segment_count N S) → reverse_left job < 2 * suc (segment_count N S * segment_count N S)
          → cond t (reverse_left job) (forward_left job) < suc N * suc (segment_count N S) + 2 * suc (segment_count N S * segment_count N S)
      go true f r = omega arith
      go false f r = omega arith

  module _ (a b : Job) where
    pub levels-work : levels_left b.phase < levels_left a.phase → work_left b < work_left a
    unfolding work_left
    levels-work h = digits-less phase_most (levels_left b.phase) (phase_left b) (levels_left a.phase) (phase_left a) (phase-less b) h

    phase-work : b.phase ≡ a.phase → phase_left b < phase_left a → work_left b < work_left a
    unfolding work_left
    phase-work e h = omega (arith, ap (λ (p : Phase). levels_left p * phase_most) e)

    -- neither is in a reverse level, or both are
    forward-work : in_reverse a ≡ false → in_reverse b ≡ false → b.phase ≡ a.phase → forward_left b < forward_left a → work_left b < work_left a
    unfolding phase_left
    forward-work f g e h = phase-work e (rw (f, g) h)

    reverse-work : in_reverse a ≡ true → in_reverse b ≡ true → b.phase ≡ a.phase → reverse_left b < reverse_left a → work_left b < work_left a
    unfolding phase_left
    reverse-work f g e h = phase-work e (rw (f, g) h)

    pub stacks-work : in_reverse a ≡ false → in_reverse b ≡ false → b.phase ≡ a.phase → stacks_left b < stacks_left a → work_left b < work_left a
    unfolding forward_left logs_left
    stacks-work f g e h =
        forward-work f g e
        (digits-less (suc (segment_count N S)) (stacks_left b) (logs_left b) (stacks_left a) (logs_left a) (omega (arith, tally-le (is_pending b) (segment_count N S))) h)

    pub logs-work : in_reverse a ≡ false → in_reverse b ≡ false → b.phase ≡ a.phase → stacks_left b ≡ stacks_left a → logs_left b < logs_left a
        → work_left b < work_left a
    unfolding forward_left
    logs-work f g e s h = forward-work f g e (omega (arith, ap (λ (x : ℕ). x * suc (segment_count N S)) s))

    pub stacks-fall : 0 < S → (j : ℕ) → passed_of a j < stack_count_in N S j → passed_of a j < passed_of b j
        → ((i : ℕ) → passed_of a i ≤ passed_of b i) → stacks_left b < stacks_left a
    unfolding stacks_left is_left
    stacks-fall some j left more each =
        let x = passed_of a j in
        let v = j * S + x in
        let home = segment-stack-div N S some j x left in
        let place = segment-stack-mod N S some j x left in
        tally-falls (is_left S b) (is_left S a) N v (segment-stack N S some j x left)
        (lt-leb (passed_of b (v / S)) (v % S) (omega (arith, ap (passed_of b) home)))
        (le-leb (passed_of a (v / S)) (v % S) (omega (arith, ap (passed_of a) home)))
        (λ u t. le-leb (passed_of a (u / S)) (u % S) (omega (arith, leb-true (passed_of b (u / S)) (u % S) t, each (u / S))))

    pub stacks-stay : ((i : ℕ) → passed_of b i ≡ passed_of a i) → stacks_left b ≡ stacks_left a
    unfolding stacks_left is_left
    stacks-stay same = ap (λ (f : ℕ → ℕ). tally (λ v. leb (f (v / S)) (v % S)) (from 0 N)) (λ i x. same x i)

    pub logs-fall : (j : ℕ) → j < segment_count N S → 0 < waiting_of a j → waiting_of b j ≡ 0
        → ((i : ℕ) → (i ≡ j → ⊥) → waiting_of b i ≡ waiting_of a i) → logs_left b < logs_left a
    unfolding logs_left is_pending
    logs-fall j h some none same =
        omega (
          arith,
          tally-one-more (is_pending b) (is_pending a) (segment_count N S) j h
              (le-ltb 0 (waiting_of b j) (omega arith))
              (lt-ltb 0 (waiting_of a j) some)
              (λ u l ne. ap (ltb 0) (sym (same u ne))),
        )

    -- a new pair, and a load where one is due
    pub pairs-work : in_reverse a ≡ true → in_reverse b ≡ true → b.phase ≡ a.phase → pairs_left b < pairs_left a → work_left b < work_left a
    unfolding reverse_left
    pairs-work f g e h = reverse-work f g e (go (is_load_due a) (is_load_due b))
      where
        go : (s t : Bool) → 2 * pairs_left b + cond t 1 0 < 2 * pairs_left a + cond s 1 0
        go true true = omega arith
        go true false = omega arith
        go false true = omega arith
        go false false = omega arith

    pub load-work : in_reverse a ≡ true → in_reverse b ≡ true → b.phase ≡ a.phase → b.swept ≡ a.swept → is_load_due a ≡ true → is_load_due b ≡ false
        → work_left b < work_left a
    unfolding reverse_left pairs_left is_pair_left is_swept swept_of
    load-work f g e s due none =
        reverse-work f g e
        (rw (due, none)
        (omega (
          arith,
          ap (λ (swept : List ℕ). tally (λ p. not (eqb (get_or swept (p / segment_count N S) 0 / 2 ^ (p % segment_count N S) % 2) 1)) (from 0 (segment_count N S * segment_count N S))) s,
        )))

    pub pairs-fall : (i j : ℕ) → i < segment_count N S → j < segment_count N S → is_swept a i j ≡ false → is_swept b i j ≡ true
        → ((x y : ℕ) → is_swept a x y ≡ true → is_swept b x y ≡ true) → pairs_left b < pairs_left a
    unfolding pairs_left is_pair_left
    pairs-fall i j low inside was is keeps =
        let g = segment_count N S in
        let p = i * g + j in
        let home : p / g ≡ i = digits_div i inside in
        let place : p % g ≡ j = digits_mod i inside in
        tally-falls (is_pair_left b) (is_pair_left a) (g * g) p (omega (arith, digits-less g i j g 0 inside low))
        (ap not (ap (λ (x : ℕ). is_swept b x (p % g)) home ∙ ap (is_swept b i) place ∙ is))
        (ap not (ap (λ (x : ℕ). is_swept a x (p % g)) home ∙ ap (is_swept a i) place ∙ was))
        (λ u t. ap not (not-is-false (is_swept a (u / g) (u % g)) (λ h. never (keeps (u / g) (u % g) h) (not-true (is_swept b (u / g) (u % g)) t))))

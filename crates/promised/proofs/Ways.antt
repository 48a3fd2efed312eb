-- Either way leaves the same: each clause of `either_way`, of any two lists of calls after one Begin that have searched level d whole, Close or not,
-- and of `either-way-closed`, of two that have just closed it.
use mathlib.Core.Path.{◌≡◌, refl}
use mathlib.Core.Bool.{true, false}
use mathlib.Core.List.{List, [], ◌∷◌, ◌++◌}
use Prim.Native.Nat.{ℕ, ◌<◌}
use lib.IntN.{ℤ}
use Rattle.search.specs.Begin.{begun}
use Rattle.search.specs.Build.{World, Call, outcome, after, do_close}
use Rattle.search.specs.EitherWay.{SearchedWhole, SameLevel, EitherWay, SameClosed, EitherWayClosed}
use Rattle.search.specs.JobState.{segment_count_of, stack_count_at, passed_of, waiting_of, is_swept, is_reverse}
use Rattle.search.specs.Promise.{right_lengths, Buffers}
use Rattle.search.specs.PromiseBy.{AtEnd}
use Rattle.search.specs.Terms.{begin_refusal, terms_of}
use Rattle.search.specs.declared.Phase.TheVariants.{Level}
use Rattle.search.specs.declared.Terms.{Terms}
use Rattle.search.specs.declared.Way.{Way}
use Rattle.search.proofs.EitherWay as Either

-- a level is searched whole: forward with every stack passed and no entry waiting, or reverse with each pair swept
searched-from : {d : ℕ} {w : World}
    → w.job.phase ≡ Level d
    → (is_reverse w.job.way ≡ false → (j : ℕ) → j < segment_count_of w.job → passed_of w.job j ≡ stack_count_at w.job j)
    → (is_reverse w.job.way ≡ false → (j : ℕ) → j < segment_count_of w.job → waiting_of w.job j ≡ 0)
    → (is_reverse w.job.way ≡ true → (b j : ℕ) → b < segment_count_of w.job → j < segment_count_of w.job → is_swept w.job b j ≡ true)
    → SearchedWhole d w
searched-from level passed settled swept = record { level = level; passed = passed; settled = settled; swept = swept }

module _ (kind n : ℕ) (wanted : List ℤ) (groups S C : ℕ) (segments segments' : List (List ℕ)) (log log' changed changed' : List ℕ)
    (begins : begin_refusal (terms_of kind n wanted groups S C) ≡ 0)
    (buffers : Buffers (terms_of kind n wanted groups S C) segments log) (buffers' : Buffers (terms_of kind n wanted groups S C) segments' log') where
  abbrev terms : Terms
  terms = terms_of kind n wanted groups S C

  start : World
  start = record { job = begun terms; segments = segments; log = log; changed = changed }

  start' : World
  start' = record { job = begun terms; segments = segments'; log = log'; changed = changed' }

  module _ (calls calls' : List (Call (right_lengths terms))) (d : ℕ) where
    module _ (whole : SearchedWhole d (after start calls)) (whole' : SearchedWhole d (after start' calls')) where
      same : SameLevel (right_lengths terms) (after start calls) (after start' calls')
      unfolding EitherWay start start'
      same =
          Either.either_way terms segments segments' log log' changed changed' begins buffers buffers' calls calls' d whole whole'

      same-segments : (after start calls).segments ≡ (after start' calls').segments
      same-segments = same.segments

      same-counts : (after start calls).job.counts ≡ (after start' calls').job.counts
      same-counts = same.counts

      -- Close answers both alike, whatever way each is told
      same-refusals : (way way' : Way)
          → (outcome {right = right_lengths terms} (after start calls) (do_close way)).refusal
          ≡ (outcome {right = right_lengths terms} (after start' calls') (do_close way')).refusal
      same-refusals = same.refusals

      same-phases : (way way' : Way)
          → (outcome {right = right_lengths terms} (after start calls) (do_close way)).world.job.phase
          ≡ (outcome {right = right_lengths terms} (after start' calls') (do_close way')).world.job.phase
      same-phases = same.phases

  -- any two that come to the other end, Level 255, whose Close says 14, have the same table and the same counts
  ends-alike : (calls calls' : List (Call (right_lengths terms)))
      → AtEnd terms (right_lengths terms) (after start calls)
      → AtEnd terms (right_lengths terms) (after start' calls')
      → ((after start calls).segments ≡ (after start' calls').segments) × ((after start calls).job.counts ≡ (after start' calls').job.counts)
  ends-alike calls calls' end end' =
      let whole = Either.end_whole end in
      let whole' = Either.end_whole end' in
      (same-segments calls calls' 255 whole whole', same-counts calls calls' 255 whole whole')

  -- each list is some calls that bring the job to level d, and a Close of it that is not refused
  module _ (before before' : List (Call (right_lengths terms))) (way way' : Way) (d : ℕ)
      (level : (after start before).job.phase ≡ Level d) (level' : (after start' before').job.phase ≡ Level d)
      (accepted : (outcome {right = right_lengths terms} (after start before) (do_close way)).refusal ≡ 0)
      (accepted' : (outcome {right = right_lengths terms} (after start' before') (do_close way')).refusal ≡ 0) where
    closed : SameClosed (after start (before ++ (do_close way ∷ []))) (after start' (before' ++ (do_close way' ∷ [])))
    unfolding EitherWayClosed start start'
    closed =
        Either.either-way-closed terms segments segments' log log' changed changed' begins buffers buffers'
        (before ++ (do_close way ∷ [])) (before' ++ (do_close way' ∷ [])) d
        (record { before = before; way = way; place = refl; level = level; accepted = accepted })
        (record { before = before'; way = way'; place = refl; level = level'; accepted = accepted' })

    closed-segments : (after start (before ++ (do_close way ∷ []))).segments ≡ (after start' (before' ++ (do_close way' ∷ []))).segments
    closed-segments = closed.segments

    closed_counts : (after start (before ++ (do_close way ∷ []))).job.counts ≡ (after start' (before' ++ (do_close way' ∷ []))).job.counts
    closed_counts = closed.counts

    closed-phases : (after start (before ++ (do_close way ∷ []))).job.phase ≡ (after start' (before' ++ (do_close way' ∷ []))).job.phase
    closed-phases = closed.phases

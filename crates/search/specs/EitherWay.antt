-- A level leaves the same by either way (document 02, F-5), in any mixture of ways and any orders, whatever the buffers held.
--   SearchedWhole     level d is searched whole: forward with every stack passed and no entry waiting, or reverse with each pair swept
--   SameLevel         the segments are equal, spare entries too, and so are the counts, what Close answers and the phase after it
--   EitherWay         so after any two lists that have searched level d whole, Close or not: the last level too, whose Close says 14
--   JustClosed        the last call of a list is a Close of level d that was not refused
--   SameClosed        the segments, the counts and the phase are equal
--   EitherWayClosed   so after any two lists that have just closed level d
use Rattle.std.specs.Prelude.{◌≡◌, true, false, List, [], ◌∷◌, ◌++◌, ℕ, ◌<◌}
use Rattle.search.specs.Build.{World, Lengths, Call, outcome, after, do_close}
use Rattle.search.specs.JobState.{segment_count_of, stack_count_at, passed_of, waiting_of, is_swept, is_reverse}
use Rattle.search.specs.Promise.{right_lengths, Buffers, start_of}
use Rattle.search.specs.Terms.{begin_refusal}
use Rattle.search.specs.declared.Phase.TheVariants.{Level}
use Rattle.search.specs.declared.Terms.{Terms}
use Rattle.search.specs.declared.Way.{Way}

pub record SearchedWhole (d : ℕ) (w : World) : Type 0 where
  pub level : w.job.phase ≡ Level d
  pub passed : is_reverse w.job.way ≡ false → (j : ℕ) → j < segment_count_of w.job → passed_of w.job j ≡ stack_count_at w.job j
  pub settled : is_reverse w.job.way ≡ false → (j : ℕ) → j < segment_count_of w.job → waiting_of w.job j ≡ 0
  pub swept : is_reverse w.job.way ≡ true → (b j : ℕ) → b < segment_count_of w.job → j < segment_count_of w.job → is_swept w.job b j ≡ true

-- whatever way Close is told
pub record SameLevel (right : Lengths) (w w' : World) : Type 0 where
  pub segments : w.segments ≡ w'.segments
  pub counts : w.job.counts ≡ w'.job.counts
  pub refusals : (way way' : Way) → (outcome {right = right} w (do_close way)).refusal ≡ (outcome {right = right} w' (do_close way')).refusal
  pub phases : (way way' : Way)
      → (outcome {right = right} w (do_close way)).world.job.phase ≡ (outcome {right = right} w' (do_close way')).world.job.phase

unfoldable pub EitherWay : Type 0
EitherWay =
    (terms : Terms) (segments segments' : List (List ℕ)) (log log' changed changed' : List ℕ)
    → begin_refusal terms ≡ 0
    → Buffers terms segments log
    → Buffers terms segments' log'
    → (let start : World = start_of terms segments log changed in
    let start' : World = start_of terms segments' log' changed' in
    (calls calls' : List (Call (right_lengths terms))) (d : ℕ) → SearchedWhole d (after start calls) → SearchedWhole d (after start' calls')
    → SameLevel (right_lengths terms) (after start calls) (after start' calls'))

pub record JustClosed {right : Lengths} (start : World) (d : ℕ) (calls : List (Call right)) : Type 0 where
  pub before : List (Call right)
  pub way : Way
  pub place : calls ≡ before ++ (do_close way ∷ [])
  pub level : (after start before).job.phase ≡ Level d
  pub accepted : (outcome {right = right} (after start before) (do_close way)).refusal ≡ 0

pub record SameClosed (w w' : World) : Type 0 where
  pub segments : w.segments ≡ w'.segments
  pub counts : w.job.counts ≡ w'.job.counts
  pub phases : w.job.phase ≡ w'.job.phase

unfoldable pub EitherWayClosed : Type 0
EitherWayClosed =
    (terms : Terms) (segments segments' : List (List ℕ)) (log log' changed changed' : List ℕ)
    → begin_refusal terms ≡ 0
    → Buffers terms segments log
    → Buffers terms segments' log'
    → (let start : World = start_of terms segments log changed in
    let start' : World = start_of terms segments' log' changed' in
    (calls calls' : List (Call (right_lengths terms))) (d : ℕ) → JustClosed start d calls → JustClosed start' d calls'
    → SameClosed (after start calls) (after start' calls'))

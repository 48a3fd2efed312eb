-- The refusals that the calls on a segment share. Each takes the rest of its call's list.
--   call_refusal      7, 8 where the call has no part in the job's phase, 9
--   segment_refusal   those, then 10 for the segment
--   level_refusal     those of a call of a forward level, then 10 for the log area
use Rattle.std.specs.Prelude.{Bool, ℕ, ltb, eqb}
use Rattle.base.specs.Words.{unless}
use Rattle.search.specs.Entries.{bytes_for}
use Rattle.search.specs.JobState.{is_coherent, in_forward, segment_count_of, stack_count_at, log_length}
use Rattle.search.specs.declared.Job.{Job}

unfoldable pub call_refusal : Bool → Job → ℕ → ℕ → ℕ
call_refusal in_phase job j rest =
    unless (is_coherent job) 7 (unless in_phase 8 (unless (ltb j (segment_count_of job)) 9 rest))

unfoldable pub segment_refusal : Bool → Job → ℕ → ℕ → ℕ → ℕ
segment_refusal in_phase job j bytes rest = call_refusal in_phase job j (unless (eqb bytes (bytes_for (stack_count_at job j))) 10 rest)

unfoldable pub level_refusal : Job → ℕ → ℕ → ℕ → ℕ → ℕ
level_refusal job j bytes words rest =
    segment_refusal (in_forward job) job j bytes (unless (eqb words (log_length job)) 10 rest)

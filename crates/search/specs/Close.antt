-- Close: from one phase to the next.
use Rattle.std.specs.Prelude.{Bool, not, ◌&&◌, cond, List, ℕ, ◌+◌, ◌-◌, eqb, get_or, set, replicate}
use Rattle.base.specs.Words.{unless, all, from}
use Rattle.search.specs.JobState.{is_coherent, is_finished, in_reverse, is_swept, level_of, last_level, no_segment, segment_count_of, stack_count_at, passed_of, waiting_of, count_of, progressed, recounted, directed}
use Rattle.search.specs.Segments.{segment_limit}
use Rattle.search.specs.Answers.{Answer}
use Rattle.search.specs.declared.Job.{Job}
use Rattle.search.specs.declared.Phase.{Phase}
use Rattle.search.specs.declared.Phase.TheVariants.{Blanking, Level, Finished}
use Rattle.search.specs.declared.Way.{Way}

-- a segment has all its stacks passed and no entry waiting
unfoldable pub is_done : Job → ℕ → Bool
is_done job j = eqb (passed_of job j) (stack_count_at job j) && eqb (waiting_of job j) 0

-- every segment is swept against segment b
unfoldable pub is_swept_whole : Job → ℕ → Bool
is_swept_whole job b = all (is_swept job b) (from 0 (segment_count_of job))

-- ready to close: in a reverse level each pair is swept, else each segment is done
unfoldable pub is_ready : Job → Bool
is_ready job = all (cond (in_reverse job) (is_swept_whole job) (is_done job)) (from 0 (segment_count_of job))

-- no level after the last
unfoldable pub is_past_last : Job → Bool
is_past_last job = eqb (level_of job.phase) last_level && not (eqb (count_of job last_level) 0)

unfoldable pub close_refusal : Job → ℕ
close_refusal job =
    unless (is_coherent job) 7 (unless (not (is_finished job.phase)) 8 (unless (is_ready job) 13 (unless (not (is_past_last job)) 14 0)))

-- the phase after one that closes, by the counts: a level that brought nothing new ends the search
unfoldable pub next_phase : List ℕ → Phase → Phase
next_phase counts Blanking = Level 1
next_phase counts (Level d) = cond (eqb (get_or counts d 0) 0) (Finished (d - 1)) (Level (d + 1))
next_phase counts (Finished d) = Finished d

-- when Blanking closes, count 0 is set to 1
unfoldable pub next_counts : List ℕ → Phase → List ℕ
next_counts counts Blanking = set counts 0 1
next_counts counts (Level d) = counts
next_counts counts (Finished d) = counts

-- each close sets all passed numbers to 0, and leaves nothing loaded or swept; the job takes the way that it is told, a finished one too
unfoldable pub closed : Job → Way → Job
closed job way =
    directed
    (progressed (recounted job (next_counts job.counts job.phase)) (next_phase job.counts job.phase) (replicate segment_limit 0) job.waiting)
    way
    no_segment
    (replicate segment_limit 0)

unfoldable pub close_of : Job → Way → Answer
close_of job way =
    let r = close_refusal job in record { refusal = r; job = cond (eqb r 0) (closed job way) job }

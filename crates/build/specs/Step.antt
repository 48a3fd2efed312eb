-- What a step of the driver asks of the job and of what it is lent.
use Rattle.std.specs.Prelude.{◌≡◌, true, false, ◌&&◌, List, ltb, length, ℕ}
use Rattle.search.specs.Changed.{list_bytes}
use Rattle.search.specs.Drive.{first_pair}
use Rattle.search.specs.Entries.{bytes_for}
use Rattle.search.specs.JobState.{is_blanking, is_coherent, is_loaded, in_reverse, segment_count_of, stack_count_at, stack_count_of}
use Rattle.search.specs.declared.Job.{Job}

pub record StepFits (job : Job) (table list : List ℕ) : Type 0 where
  pub coherent : is_coherent job ≡ true
  pub bytes : length table ≡ bytes_for (stack_count_of job)
  pub listed : length list ≡ list_bytes (stack_count_at job 0)

-- in a reverse level
pub record ReverseFits (job : Job) (table list : List ℕ) : Type 0 where
  pub step : StepFits job table list
  pub blanked : is_blanking job.phase ≡ false
  pub reverse : in_reverse job ≡ true

-- with no pair left of the loaded segment
pub record LoadFits (job : Job) (table list : List ℕ) : Type 0 where
  pub level : ReverseFits job table list
  pub none : (is_loaded job && ltb (first_pair job) (segment_count_of job)) ≡ false

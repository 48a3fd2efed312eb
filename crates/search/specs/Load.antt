-- Load a segment: its changed list.
use Rattle.std.specs.Prelude.{cond, List, ℕ, eqb, length}
use Rattle.base.specs.Words.{unless}
use Rattle.search.specs.Changed.{list_bytes, list_of}
use Rattle.search.specs.Entries.{entry_at}
use Rattle.search.specs.Expand.{is_parent}
use Rattle.search.specs.JobState.{in_reverse, level_of, stack_count_at, directed}
use Rattle.search.specs.Refusals.{segment_refusal}
use Rattle.search.specs.Answers.{Answer}
use Rattle.search.specs.declared.Job.{Job}

-- in a reverse level; 10 for the segment, 10 for the list
unfoldable pub load_refusal : Job → ℕ → ℕ → ℕ → ℕ
load_refusal job b bytes listed =
    segment_refusal (in_reverse job) job b bytes (unless (eqb listed (list_bytes (stack_count_at job b))) 10 0)

-- a bit is set where the entry is that of the level before
unfoldable pub changed_of : Job → ℕ → List ℕ → List ℕ
changed_of job b segment = list_of (stack_count_at job b) (λ i. is_parent (level_of job.phase) (entry_at segment i))

unfoldable pub load_of : Job → ℕ → List ℕ → List ℕ → List ℕ × Answer
load_of job b segment list =
    let r = load_refusal job b (length segment) (length list) in
    cond (eqb r 0)
    (changed_of job b segment, record { refusal = 0; job = directed job job.way b job.swept })
    (list, record { refusal = r; job = job })

-- Sweep a segment against the loaded one: what it leaves in the segment, and its answer.
use Rattle.std.specs.Prelude.{Bool, not, ◌&&◌, cond, List, ℕ, ◌+◌, ◌*◌, ◌/◌, ◌%◌, ◌^◌, eqb, length, set}
use Rattle.base.specs.Words.{unless, any, filter, from}
use Rattle.search.specs.Changed.{list_bytes, bit_at}
use Rattle.search.specs.Entries.{bytes_for}
use Rattle.search.specs.Expand.{children_of}
use Rattle.search.specs.JobState.{in_reverse, is_loaded, is_swept, swept_of, level_of, stack_count_at, moves_of, directed}
use Rattle.search.specs.Logs.{indexes_of}
use Rattle.search.specs.Marks.{mark_all, marks_from, marked_job}
use Rattle.search.specs.Refusals.{call_refusal}
use Rattle.search.specs.Answers.{Answer}
use Rattle.search.specs.declared.Job.{Job}

-- in a reverse level; 22 where no segment is loaded, 10 for the segment, 10 for the list, 11 where the pair is swept
unfoldable pub sweep_refusal : Job → ℕ → ℕ → ℕ → ℕ
sweep_refusal job j bytes listed =
    call_refusal (in_reverse job) job j
    (unless (is_loaded job) 22
    (unless (eqb bytes (bytes_for (stack_count_at job j))) 10
    (unless (eqb listed (list_bytes (stack_count_at job job.loaded))) 10 (unless (not (is_swept job job.loaded j)) 11 0))))

-- the stack at index c is one of segment b, and its bit is set
unfoldable pub is_changed : ℕ → ℕ → List ℕ → ℕ → Bool
is_changed S b list c = eqb (c / S) b && bit_at list (c % S)

-- the stack at index v has such a child in the loaded segment
unfoldable pub is_reached : Job → List ℕ → ℕ → Bool
is_reached job list v = any (is_changed job.terms.size job.loaded list) (children_of job.terms.kind job.terms.n (moves_of job) v)

-- the stacks of segment j that have one, as offsets
unfoldable pub reached_in : Job → ℕ → List ℕ → List ℕ
reached_in job j list = filter (λ i. is_reached job list (j * job.terms.size + i)) (from 0 (stack_count_at job j))

-- the pair is noted in the loaded segment's number
unfoldable pub with_pair : Job → ℕ → List ℕ
with_pair job j = set job.swept job.loaded (swept_of job job.loaded + 2 ^ j)

-- each of them that is unseen gets d mod 3 and adds one to the count. The list is not touched, so only the segment is given back
unfoldable pub sweep_of : Job → ℕ → List ℕ → List ℕ → List ℕ × Answer
sweep_of job j segment list =
    let r = sweep_refusal job j (length segment) (length list) in
    let marks = mark_all job.terms (level_of job.phase) (indexes_of job.terms.size j (reached_in job j list)) (marks_from job segment) in
    cond (eqb r 0) (
      marks.segment,
      record {
        refusal = 0;
        job = directed (marked_job job job.passed job.waiting marks) job.way job.loaded (with_pair job j);
      },
    )
    (segment, record { refusal = r; job = job })

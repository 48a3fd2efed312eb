-- Blank a segment: what it leaves in the segment, and its answer.
use Rattle.std.specs.Prelude.{cond, List, ℕ, ◌/◌, ◌%◌, ltb, eqb, length, set}
use Rattle.base.specs.Words.{unless}
use Rattle.stacks.specs.Index.{rank_of}
use Rattle.search.specs.Entries.{blank, set_entry}
use Rattle.search.specs.JobState.{is_blanking, stack_count_at, passed_of, progressed}
use Rattle.search.specs.Refusals.{segment_refusal}
use Rattle.search.specs.Answers.{Answer}
use Rattle.search.specs.declared.Job.{Job}

unfoldable pub blank_refusal : Job → ℕ → ℕ → ℕ
blank_refusal job j bytes =
    segment_refusal (is_blanking job.phase) job j bytes (unless (ltb (passed_of job j) (stack_count_at job j)) 11 0)

-- the index of the wanted stack
unfoldable pub goal_of : Job → ℕ
goal_of job = rank_of job.terms.kind job.terms.n job.terms.wanted

-- all entries 3, and that of the wanted stack, if here, 0
unfoldable pub blanked : Job → ℕ → List ℕ
blanked job j =
    cond (eqb (goal_of job / job.terms.size) j)
    (set_entry (blank (stack_count_at job j)) (goal_of job % job.terms.size) 0)
    (blank (stack_count_at job j))

unfoldable pub blank_of : Job → ℕ → List ℕ → List ℕ × Answer
blank_of job j segment =
    let r = blank_refusal job j (length segment) in
    cond (eqb r 0) (
      blanked job j,
      record {
        refusal = 0;
        job = progressed job job.phase (set job.passed j (stack_count_at job j)) job.waiting;
      },
    )
    (segment, record { refusal = r; job = job })

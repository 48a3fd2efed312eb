-- Settle a segment: apply its log.
use Rattle.std.specs.Prelude.{cond, List, ℕ, ltb, eqb, length, set}
use Rattle.base.specs.Words.{unless, all}
use Rattle.search.specs.JobState.{level_of, stack_count_at}
use Rattle.search.specs.Refusals.{level_refusal}
use Rattle.search.specs.Logs.{indexes_of, pending}
use Rattle.search.specs.Marks.{mark_all, marks_from, marked_job}
use Rattle.search.specs.Answers.{Answer}
use Rattle.search.specs.declared.Job.{Job}

-- 12 when a waiting offset is m or more
unfoldable pub settle_refusal : Job → ℕ → ℕ → List ℕ → ℕ
settle_refusal job j bytes log =
    level_refusal job j bytes (length log) (unless (all (λ i. ltb i (stack_count_at job j)) (pending job j log)) 12 0)

-- in log order, each unseen entry gets d mod 3 and adds one to the count. The log numbers are not touched, so only the segment is given back
unfoldable pub settle_of : Job → ℕ → List ℕ → List ℕ → List ℕ × Answer
settle_of job j segment log =
    let r = settle_refusal job j (length segment) log in
    let marks = mark_all job.terms (level_of job.phase) (indexes_of job.terms.size j (pending job j log)) (marks_from job segment) in
    cond (eqb r 0)
    (marks.segment, record { refusal = 0; job = marked_job job job.passed (set job.waiting j 0) marks })
    (segment, record { refusal = r; job = job })

-- Marking: what every call that finds stacks does to an unseen one of its segment, and to what the level has found.
--   counted     a count, and one more where a test lets the stack at index v by
--   found_one    what a level has found (Found), with the stack at index v: each of its counts has its own test
--   Marks       a segment's bytes, and what the level has found
--   found_at     what level d of a job has found; with_found, the job with that
use Rattle.std.specs.Prelude.{Bool, true, cond, List, [], ◌∷◌, ℕ, ◌+◌, ◌%◌, eqb, set}
use Rattle.search.specs.Entries.{entry_at, set_entry, unseen}
use Rattle.search.specs.JobState.{level_of, count_of, progressed, recounted}
use Rattle.search.specs.declared.Found.{Found}
use Rattle.search.specs.declared.Job.{Job}
use Rattle.search.specs.declared.Terms.{Terms}

unfoldable pub counted : (ℕ → Bool) → ℕ → ℕ → ℕ
counted test v count = cond (test v) (count + 1) count

-- the test of a level's count, by what Begin was given: every stack
abbrev pub every_stack : Terms → ℕ → Bool
every_stack terms v = true

unfoldable pub found_one : Terms → ℕ → Found → Found
found_one terms v found = record { count = counted (every_stack terms) v found.count }

pub record Marks : Type 0 where
  pub segment : List ℕ
  pub found : Found

-- the stack at index v, which is one of the segment's, gets d mod 3 and is found where it is unseen
unfoldable pub mark_one : Terms → ℕ → ℕ → Marks → Marks
mark_one terms d v marks =
    cond (eqb (entry_at marks.segment (v % terms.size)) unseen)
    (record { segment = set_entry marks.segment (v % terms.size) (d % 3); found = found_one terms v marks.found })
    marks

-- the stacks of a list, in its order
unfoldable pub mark_all : Terms → ℕ → List ℕ → Marks → Marks
mark_all terms d [] marks = marks
mark_all terms d (v ∷ stacks) marks = mark_all terms d stacks (mark_one terms d v marks)

abbrev pub found_at : Job → ℕ → Found
found_at job d = record { count = count_of job d }

abbrev pub with_found : Job → ℕ → Found → Job
with_found job d found = recounted job (set job.counts d found.count)

-- what a call on a segment starts from, and the job that it gives back: other passed and waiting numbers, and what this level has found
abbrev pub marks_from : Job → List ℕ → Marks
marks_from job segment = record { segment = segment; found = found_at job (level_of job.phase) }

abbrev pub marked_job : Job → List ℕ → List ℕ → Marks → Job
marked_job job passed waiting marks = progressed (with_found job (level_of job.phase) marks.found) job.phase passed waiting

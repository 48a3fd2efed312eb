-- A call's result as the answer that its definition speaks of: the refusal's number, 0 for none, and what stands beside it.
use Rattle.std.specs.Prelude.{true, false, List, ℕ, Result, Ok, Err, Option, Some, None}
use Rattle.stacks.specs.Refusals.{number, refusal_of}
use Rattle.stacks.specs.declared.refusal.Refusal.{Refusal}
use Rattle.search.specs.Begin.{no_job}
use Rattle.search.specs.Answers.{Answer}
use Rattle.search.specs.Answers.{Entry}
use Rattle.search.specs.Answers.{Expanded}
use Rattle.search.specs.declared.Job.{Job}
use Rattle.search.specs.Answers.{Planned}

-- of a call that is lent the job: the job after it
abbrev pub as_answer : Job → Result (Unit {0}) Refusal → Answer
as_answer job result = record { refusal = refusal_of result; job = job }

-- of Begin and Build the whole table: the job that they make, and no job beside a refusal
abbrev pub as_begun : Result Job Refusal → Answer
as_begun (Ok job) = record { refusal = 0; job = job }
as_begun (Err r) = record { refusal = number r; job = no_job }

-- of Expand: the segment that the call waits for, if it waits
abbrev pub as_expanded : Job → Result (Option ℕ) Refusal → Expanded
as_expanded job (Ok None) = record { refusal = 0; waits = false; on = 0; job = job }
as_expanded job (Ok (Some t)) = record { refusal = 0; waits = true; on = t; job = job }
as_expanded job (Err r) = record { refusal = number r; waits = false; on = 0; job = job }

-- of Read an entry: the entry
abbrev pub as_entry : Result ℕ Refusal → Entry
as_entry (Ok v) = record { refusal = 0; entry = v }
as_entry (Err r) = record { refusal = number r; entry = 0 }

-- of Plan: how many turns
abbrev pub as_planned : Result ℕ Refusal → Planned
as_planned (Ok turns) = record { refusal = 0; turns = turns }
as_planned (Err r) = record { refusal = number r; turns = 0 }

-- Expand a segment: what it leaves in the segment and the log area, and its answer.
--   Expansion    how far a call has come: the first stack not passed, whether it waits before it and for which segment, marks and logs
use Rattle.std.specs.Prelude.{Bool, true, false, cond, List, [], ◌∷◌, map, ℕ, zero, suc, ◌+◌, ◌-◌, ◌*◌, ◌/◌, ◌%◌, ltb, eqb, length, set}
use Rattle.base.specs.Words.{unless, first_from}
use Rattle.stacks.specs.Index.{rank_of, stack_at}
use Rattle.stacks.specs.Turn.{move_of}
use Rattle.search.specs.Entries.{entry_at}
use Rattle.search.specs.JobState.{level_of, segment_count_of, stack_count_at, moves_of, passed_of}
use Rattle.search.specs.Refusals.{level_refusal}
use Rattle.search.specs.Logs.{Logs, log_one, lacks_room}
use Rattle.search.specs.Marks.{Marks, mark_one, marks_from, marked_job}
use Rattle.search.specs.Answers.{Expanded}
use Rattle.search.specs.declared.Job.{Job}

pub record Expansion : Type 0 where
  pub at : ℕ
  pub waits : Bool
  pub on : ℕ
  pub marks : Marks
  pub logs : Logs

unfoldable pub expand_refusal : Job → ℕ → ℕ → ℕ → ℕ
expand_refusal job j bytes words = level_refusal job j bytes words (unless (ltb (passed_of job j) (stack_count_at job j)) 11 0)

-- a stack with this entry is taken for one of the level before d
unfoldable pub is_parent : ℕ → ℕ → Bool
is_parent d entry = eqb entry ((d - 1) % 3)

-- the children of the stack at an index by some moves, in their order, as indexes
unfoldable pub children_of : ℕ → ℕ → List ℕ → ℕ → List ℕ
children_of kind n moves i = map (λ k. rank_of kind n (move_of kind n k (stack_at kind n i))) moves

module _ (job : Job) (j : ℕ) where
  -- a child of this segment is marked, a child elsewhere is logged, seen or not
  unfoldable pub place_child : ℕ → Expansion → Expansion
  place_child c e =
      let here = eqb (c / job.terms.size) j in
      record {
        at = e.at;
        waits = e.waits;
        on = e.on;
        marks = cond here (mark_one job.terms (level_of job.phase) c e.marks) e.marks;
        logs = cond here e.logs (log_one job.terms.room (c / job.terms.size) (c % job.terms.size) e.logs);
      }

  unfoldable pub place_all : List ℕ → Expansion → Expansion
  place_all [] e = e
  place_all (c ∷ children) e = place_all children (place_child c e)

  -- the next stack is passed; the call waits for segment t before it
  unfoldable pub pass_one : Expansion → Expansion
  pass_one e = record { at = suc e.at; waits = e.waits; on = e.on; marks = e.marks; logs = e.logs }

  unfoldable pub wait_for : ℕ → Expansion → Expansion
  wait_for t e = record { at = e.at; waits = true; on = t; marks = e.marks; logs = e.logs }

  -- a stack with the entry of the level before: where some other segment lacks room, the call waits for the lowest such
  unfoldable pub expand_stack : List ℕ → Expansion → Expansion
  expand_stack children e =
      let t = first_from (lacks_room job.terms.size job.terms.room j e.logs.waiting children) 0 (segment_count_of job) in
      cond (ltb t (segment_count_of job)) (wait_for t e) (pass_one (place_all children e))

  unfoldable pub expand_next : Expansion → Expansion
  expand_next e =
      cond e.waits e
      (cond (is_parent (level_of job.phase) (entry_at e.marks.segment e.at))
      (expand_stack (children_of job.terms.kind job.terms.n (moves_of job) (j * job.terms.size + e.at)) e)
      (pass_one e))

  -- as many stacks as are left
  unfoldable pub expand_run : ℕ → Expansion → Expansion
  expand_run zero e = e
  expand_run (suc left) e = expand_run left (expand_next e)

  -- from the first stack not passed to the last
  unfoldable pub expansion : List ℕ → List ℕ → Expansion
  expansion segment log =
      expand_run (stack_count_at job j - passed_of job j)
      (record {
        at = passed_of job j;
        waits = false;
        on = 0;
        marks = marks_from job segment;
        logs = record { log = log; waiting = job.waiting };
      })

  unfoldable pub expanded_job : Expansion → Job
  expanded_job e = marked_job job (set job.passed j e.at) e.logs.waiting e.marks

  unfoldable pub expand_of : List ℕ → List ℕ → List ℕ × List ℕ × Expanded
  expand_of segment log =
      let r = expand_refusal job j (length segment) (length log) in
      let e = expansion segment log in
      cond (eqb r 0)
      (e.marks.segment, e.logs.log, record { refusal = 0; waits = e.waits; on = e.on; job = expanded_job e })
      (segment, log, record { refusal = r; waits = false; on = 0; job = job })

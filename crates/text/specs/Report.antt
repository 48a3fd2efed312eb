-- The report of an input (document 01, "The report"), by its lines.
--   is_reported              the kinds and numbers of panes that a report is made of
--   report_groups            the set of a report: every size
--   table_bytes, log_words    how much of its table and log area the build of a first frame is lent
--   changed_bytes            how much of its changed list: that of the first segment, which is the largest
--   printed_total job        the total of a finished build
--   head_text job            its levels, the deepest, and the total
--   built_in S table         the build of a first frame: the table that it leaves, and its job
--   later_text table cs      what a later frame of characters cs is answered
--   report_of table lines    what is printed of an input of these lines, with a table that held anything before
use Rattle.std.specs.Prelude.{Bool, ◌&&◌, cond, List, [], ◌∷◌, ◌++◌, ℕ, ◌*◌, leb, eqb, ℤ, take, drop, replicate}
use Rattle.base.specs.Words.{total}
use Rattle.stacks.specs.Turn.{all_groups}
use Rattle.stacks.specs.Stack.{is_pane_count, stack_count}
use Rattle.search.specs.Changed.{list_bytes}
use Rattle.search.specs.Entries.{bytes_for}
use Rattle.search.specs.Drive.{build_of}
use Rattle.search.specs.JobState.{level_of}
use Rattle.search.specs.Plan.{plan_of, plan_limit}
use Rattle.search.specs.Segments.{segment_count, stack_count_in, is_segment_size}
use Rattle.search.specs.Terms.{terms_of}
use Rattle.search.specs.declared.Job.{Job}
use Rattle.text.specs.Frame.{First, stack_limit, report_room, first_of, later_of}
use Rattle.text.specs.Output.{level_counts, level_lines, deepest_line, total_line, plan_line, refusal_line}

module _ (kind n : ℕ) where
  unfoldable pub is_reported : Bool
  is_reported = is_pane_count kind n && leb (stack_count kind n) stack_limit

  unfoldable pub report_groups : ℕ
  report_groups = cond is_reported (all_groups kind n) 0

  unfoldable pub table_bytes : ℕ
  table_bytes = cond is_reported (bytes_for (stack_count kind n)) 0

  unfoldable pub log_words : ℕ → ℕ
  log_words S = cond (is_reported && is_segment_size (stack_count kind n) S) (segment_count (stack_count kind n) S * report_room) 0

  unfoldable pub changed_bytes : ℕ → ℕ
  changed_bytes S = cond is_reported (list_bytes (stack_count_in (stack_count kind n) S 0)) 0

-- the sum of the counts that are printed of a finished build
unfoldable pub printed_total : Job → ℕ
printed_total job = total (level_counts (level_of job.phase) job.counts)

-- what a finished build found: its levels with their counts, the deepest, and the total
unfoldable pub head_text : Job → List ℕ
head_text job = level_lines (level_of job.phase) job.counts ++ deepest_line (level_of job.phase) ++ total_line (printed_total job)

-- for a wanted stack
module _ (kind n : ℕ) (wanted : List ℤ) where
  -- the build of a frame's table: what it leaves in a table that held anything, and its job
  unfoldable pub built_in : ℕ → List ℕ → List ℕ × Job
  built_in S table =
      let bytes = table_bytes kind n in
      let log : List ℕ = replicate (log_words kind n S) 0 in
      let list : List ℕ = replicate (changed_bytes kind n S) 0 in
      let end = build_of (terms_of kind n wanted (report_groups kind n) S report_room) (take bytes table) log list in
      (end.0 ++ drop bytes table, end.3.job)

  -- the plan of a stack, or Plan's refusal
  unfoldable pub plan_text : List ℕ → List ℤ → List ℕ
  plan_text table given =
      let out = plan_of kind n wanted given (report_groups kind n) table (replicate plan_limit 0) in
      cond (eqb out.1.refusal 0) (plan_line (take out.1.turns out.0)) (refusal_line out.1.refusal)

  -- the frame's refusal, or the plan of its stack
  unfoldable pub later_text : List ℕ → List ℕ → List ℕ
  later_text table cs =
      let frame = later_of kind n cs in
      cond (eqb frame.refusal 0) (plan_text table frame.stack) (refusal_line frame.refusal)

  -- the later frames, each answered from the first frame's table
  unfoldable pub later_texts : List ℕ → List (List ℕ) → List ℕ
  later_texts table [] = []
  later_texts table (cs ∷ lines) = later_text table cs ++ later_texts table lines

-- the first frame's refusal, which ends the run, or what its build found and the later frames' answers
unfoldable pub report_from : First → List ℕ → List (List ℕ) → List ℕ
report_from first table lines =
    let kind = first.kind in
    let n = first.n in
    let end = built_in kind n first.wanted first.size table in
    cond (eqb first.refusal 0)
    (head_text end.1 ++ later_texts kind n first.wanted (take (table_bytes kind n) end.0) lines)
    (refusal_line first.refusal)

-- no input at all is a first frame that is missing
unfoldable pub report_of : List ℕ → List (List ℕ) → List ℕ
report_of table [] = refusal_line 16
report_of table (cs ∷ lines) = report_from (first_of cs) table lines

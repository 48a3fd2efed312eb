-- Build the whole table: a build that is run from Begin to its end, in a table, a log area and a changed list that are lent whole.
--   Store       what the driver keeps between calls: the job and the lent buffers
--   way_after    the way that the driver tells Close
--   next_call    the call that it makes next
--   held        a store as a build's world; laid puts a world back
--   has_ended    whether a build has ended, in Finished or where Close says 14
--   drive       the calls chosen so, one after the other, until the build has ended
--   build_of     what the operation leaves in the table, the log area and the list, and its answer
--   Builds      what we promise of it
use Rattle.std.specs.Prelude.{◌≡◌, Bool, true, not, ◌&&◌, ◌||◌, cond, List, map, ◌++◌, ℕ, zero, suc, ◌+◌, ◌-◌, ◌*◌, ◌/◌, leb, ltb, eqb, length, take, drop}
use Rattle.base.specs.Words.{unless, from, first_from, total}
use Rattle.search.specs.Begin.{begun, no_job}
use Rattle.search.specs.Build.{World, Lengths, Call, own, own_list, do_blank, do_expand, do_settle, do_load, do_sweep, do_close, outcome}
use Rattle.search.specs.Changed.{list_bytes}
use Rattle.search.specs.Close.{is_swept_whole, close_refusal}
use Rattle.search.specs.Entries.{bytes_for}
use Rattle.search.specs.JobState.{last_level, stack_count_of, segment_count_of, stack_count_at, passed_of, waiting_of, count_of, is_swept, is_loaded, is_blanking, is_finished, in_reverse, level_of}
use Rattle.search.specs.Promise.{right_words, right_lengths}
use Rattle.search.specs.PromiseBy.{Needs, FinishesBy, AtEnd}
use Rattle.search.specs.Segments.{segment_count, stack_count_in, joined}
use Rattle.search.specs.Terms.{N, G, m, begin_refusal}
use Rattle.search.specs.Answers.{Answer}
use Rattle.search.specs.declared.Job.{Job}
use Rattle.search.specs.declared.Terms.{Terms}
use Rattle.search.specs.declared.Way.{Way}
use Rattle.search.specs.declared.Way.TheVariants.{Forward, Reverse}

-- ---- which call comes next

-- segment j has stacks that are not passed; segment t has entries waiting; segment b is not swept whole
unfoldable pub is_open : Job → ℕ → Bool
is_open job j = ltb (passed_of job j) (stack_count_at job j)

unfoldable pub is_pending : Job → ℕ → Bool
is_pending job t = ltb 0 (waiting_of job t)

unfoldable pub is_unswept : Job → ℕ → Bool
is_unswept job b = not (is_swept_whole job b)

-- the first such segment, and G where there is none
unfoldable pub first_open : Job → ℕ
first_open job = first_from (is_open job) 0 (segment_count_of job)

unfoldable pub first_pending : Job → ℕ
first_pending job = first_from (is_pending job) 0 (segment_count_of job)

unfoldable pub first_unswept : Job → ℕ
first_unswept job = first_from (is_unswept job) 0 (segment_count_of job)

-- the first segment that is not swept against the loaded one
unfoldable pub first_pair : Job → ℕ
first_pair job = first_from (λ j. not (is_swept job job.loaded j)) 0 (segment_count_of job)

-- the next level is searched reverse where few stacks are unseen: an unseen stack is tried once for each segment that is loaded, a stack of the
-- level that closes is expanded once
unfoldable pub is_few : Job → Bool
is_few job = leb ((stack_count_of job - total job.counts) * segment_count_of job) (count_of job (level_of job.phase))

unfoldable pub way_after : Job → Way
way_after job = cond (is_few job) Reverse Forward

-- the bytes of the list of segment b
unfoldable pub list_bytes_at : Job → ℕ → ℕ
list_bytes_at job b = list_bytes (stack_count_at job b)

module _ {right : Lengths} (job : Job) (list : List ℕ) where
  -- in Blanking the first open segment is blanked
  unfoldable pub next_blank : Call right
  next_blank = cond (ltb (first_open job) (segment_count_of job)) (do_blank (first_open job) own) (do_close (way_after job))

  -- in a forward level the first pending segment is settled, and where there is none the first open one is expanded
  unfoldable pub next_forward : Call right
  next_forward =
      cond (ltb (first_pending job) (segment_count_of job))
      (do_settle (first_pending job) own own)
      (cond (ltb (first_open job) (segment_count_of job)) (do_expand (first_open job) own own) (do_close (way_after job)))

  -- in a reverse level the first segment that is not swept against the loaded one is swept, and where there is none the first one with pairs
  -- left is loaded, into the front of the list
  unfoldable pub next_load : Call right
  next_load =
      cond (ltb (first_unswept job) (segment_count_of job))
      (do_load (first_unswept job) own (take (list_bytes_at job (first_unswept job)) list))
      (do_close (way_after job))

  unfoldable pub next_reverse : Call right
  next_reverse = cond (is_loaded job && ltb (first_pair job) (segment_count_of job)) (do_sweep (first_pair job) own own_list) next_load

  -- with nothing left the phase is closed
  unfoldable pub next_call : Call right
  next_call = cond (is_blanking job.phase) next_blank (cond (in_reverse job) next_reverse next_forward)

-- ---- the whole table

pub record Store : Type 0 where
  pub job : Job
  pub table : List ℕ
  pub log : List ℕ
  pub list : List ℕ

-- the store of a job and lent buffers
abbrev pub store_of : Job → List ℕ → List ℕ → List ℕ → Store
store_of job table log list = record { job = job; table = table; log = log; list = list }

-- segment j starts at byte j × S/4, as every segment before it is full
unfoldable pub cut : ℕ → ℕ → List ℕ → List (List ℕ)
cut N S table = map (λ j. take (bytes_for (stack_count_in N S j)) (drop (j * (S / 4)) table)) (from 0 (segment_count N S))

-- the changed list of the loaded segment stands at the list's front; no segment, no list
unfoldable pub held : Store → World
held s =
    record {
      job = s.job;
      segments = cut (stack_count_of s.job) s.job.terms.size s.table;
      log = s.log;
      changed = take (list_bytes_at s.job s.job.loaded) s.list;
    }

unfoldable pub laid : List ℕ → World → Store
laid list w =
    record { job = w.job; table = joined w.segments; log = w.log; list = w.changed ++ drop (length w.changed) list }

unfoldable pub advanced : Store → Store
advanced s =
    laid s.list
    (outcome {right = right_lengths s.job.terms} (held s) (next_call s.job s.list)).world

-- it has finished, or Close says that there is no level after the last
unfoldable pub has_ended : Job → Bool
has_ended job = is_finished job.phase || eqb (close_refusal job) 14

-- at most as many calls as are named; the let waits until the test is known
unfoldable pub drive : ℕ → Store → Store
drive zero s = s
drive (suc calls) s = let rest = drive calls (advanced s) in cond (has_ended s.job) s rest

-- each call leaves less to do, levels first, then stacks not passed and logs with entries, or pairs not swept and a load that is due, so that no
-- build makes more calls
unfoldable pub most_calls : ℕ → ℕ → ℕ
most_calls N G = suc (suc last_level) * (suc N * suc G + 2 * suc (G * G))

-- ---- Build the whole table

-- Begin's refusals, then 10 for the table, 10 for the log area, 10 for the list, which is that of the largest segment
unfoldable pub build_refusal : Terms → ℕ → ℕ → ℕ → ℕ
build_refusal terms bytes words listed =
    let r = begin_refusal terms in
    cond (eqb r 0)
    (unless (eqb bytes (bytes_for (N terms))) 10
    (unless (eqb words (right_words terms)) 10 (unless (eqb listed (list_bytes (m terms 0))) 10 0)))
    r

module _ (terms : Terms) (table log list : List ℕ) where
  -- what the build ends with, and its world
  unfoldable pub ended : Store
  ended =
      drive (most_calls (N terms) (G terms)) (store_of (begun terms) table log list)

  unfoldable pub built : World
  built = held ended

  -- refused, the buffers as they were, and the job that a refused Begin answers
  unfoldable pub build_of : List ℕ × List ℕ × List ℕ × Answer
  build_of =
      let r = build_refusal terms (length table) (length log) (length list) in
      let end = ended in
      cond (eqb r 0)
      (end.table, end.log, end.list, record { refusal = 0; job = end.job })
      (table, log, list, record { refusal = r; job = no_job })

  -- not refused, it ends: in a finished build, or at the other end where some stack needs exactly 255 turns; the buffers keep their lengths
  pub record Builds : Type 0 where
    pub leaves : build_of ≡ (joined built.segments, built.log, ended.list, record { refusal = 0; job = built.job })
    pub finishes : (Needs terms last_level → ⊥) → (is_finished built.job.phase ≡ true) × FinishesBy terms built
    pub stands : Needs terms last_level → AtEnd terms (right_lengths terms) built
    pub table_length : length (joined built.segments) ≡ length table
    pub log_length : length built.log ≡ length log
    pub list_length : length ended.list ≡ length list

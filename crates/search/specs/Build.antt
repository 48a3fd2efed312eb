-- A build, from Begin on: the calls of a list, what each is lent, and what they leave (document 01, "A build, from Begin to Plan").
--   World      what the controller keeps: the job that was returned last, the segments, the log area, and the changed list as the last Load that
--              was not refused left it
--   Lengths    the right lengths of what calls are lent: segment j in bytes, and the log area in words
--   Lent       a buffer that a call is lent: the build's own, or another list, whose length is wrong
--   Listed     the list that a Sweep is lent: the build's own changed list, or another, whose length is wrong
--   Call       Blank, Expand, Settle, Look, Load, Sweep or Close
--   Outcome    what a call answers, and the world after it
use Rattle.std.specs.Prelude.{◌≡◌, Bool, true, false, not, ◌&&◌, ◌||◌, cond, List, [], ◌∷◌, ℕ, ◌<◌, eqb, length, get_or, set}
use Rattle.search.specs.Changed.{list_bytes}
use Rattle.search.specs.JobState.{segment_count_of, stack_count_at, passed_of, waiting_of, is_loaded, is_swept, directed}
use Rattle.search.specs.Blank.{blank_of}
use Rattle.search.specs.Expand.{expand_of}
use Rattle.search.specs.Settle.{settle_of}
use Rattle.search.specs.Look.{look_of}
use Rattle.search.specs.Load.{load_of}
use Rattle.search.specs.Sweep.{sweep_of}
use Rattle.search.specs.Close.{is_swept_whole, close_of}
use Rattle.search.specs.declared.Job.{Job}
use Rattle.search.specs.declared.Way.{Way}

pub record World : Type 0 where
  pub job : Job
  pub segments : List (List ℕ)
  pub log : List ℕ
  pub changed : List ℕ

-- a world with another job, with another segment j, with another log area, with another changed list
abbrev pub with_job : Job → World → World
with_job job w = record { job = job; segments = w.segments; log = w.log; changed = w.changed }

abbrev pub with_segment : ℕ → List ℕ → World → World
with_segment j segment w = record { job = w.job; segments = set w.segments j segment; log = w.log; changed = w.changed }

abbrev pub with_log : List ℕ → World → World
with_log log w = record { job = w.job; segments = w.segments; log = log; changed = w.changed }

abbrev pub with_changed : List ℕ → World → World
with_changed changed w = record { job = w.job; segments = w.segments; log = w.log; changed = changed }

-- a world with the loaded segment and the changed list of another
abbrev pub loaded_as : World → World → World
loaded_as other w = with_job (directed w.job w.job.way other.job.loaded w.job.swept) (with_changed other.changed w)

pub record Lengths : Type 0 where
  pub bytes : ℕ → ℕ
  pub words : ℕ

pub data Lent (right : ℕ) : Type 0 where
  own : Lent right
  other : (xs : List ℕ) → (length xs ≡ right → ⊥) → Lent right

pub data Listed : Type 0 where
  own_list : Listed
  other_list : List ℕ → Listed

-- a Load is lent any list
pub data Call (right : Lengths) : Type 0 where
  do_blank : (j : ℕ) → Lent (right.bytes j) → Call right
  do_expand : (j : ℕ) → Lent (right.bytes j) → Lent right.words → Call right
  do_settle : (j : ℕ) → Lent (right.bytes j) → Lent right.words → Call right
  do_look : (j : ℕ) → Lent right.words → Call right
  do_load : (b : ℕ) → Lent (right.bytes b) → List ℕ → Call right
  do_sweep : (j : ℕ) → Lent (right.bytes j) → Listed → Call right
  do_close : Way → Call right

pub record Outcome : Type 0 where
  pub refusal : ℕ
  pub world : World

-- what stands in a lent buffer, and what the build's own holds after the call
unfoldable pub lent : {right : ℕ} → Lent right → List ℕ → List ℕ
lent own mine = mine
lent (other xs wrong) mine = xs

unfoldable pub kept : {right : ℕ} → Lent right → List ℕ → List ℕ → List ℕ
kept own mine after = after
kept (other xs wrong) mine after = mine

-- another list is lent where its length is not that of the loaded segment's
unfoldable pub lent_list : Job → Listed → List ℕ → List ℕ
lent_list job own_list changed = changed
lent_list job (other_list xs) changed = cond (eqb (length xs) (list_bytes (stack_count_at job job.loaded))) changed xs

unfoldable pub is_own : {right : ℕ} → Lent right → Bool
is_own own = true
is_own (other xs wrong) = false

module _ {right : Lengths} where
  -- a call that is lent what it should get; a Sweep that is lent another list is refused
  unfoldable pub is_lent_own : Call right → Bool
  is_lent_own (do_blank j segment) = is_own segment
  is_lent_own (do_expand j segment log) = is_own segment && is_own log
  is_lent_own (do_settle j segment log) = is_own segment && is_own log
  is_lent_own (do_look j log) = is_own log
  is_lent_own (do_load b segment list) = is_own segment
  is_lent_own (do_sweep j segment list) = is_own segment
  is_lent_own (do_close way) = true

  unfoldable pub outcome : World → Call right → Outcome
  outcome w (do_blank j segment) =
      let mine = get_or w.segments j [] in
      let out = blank_of w.job j (lent segment mine) in
      record { refusal = out.1.refusal; world = with_job out.1.job (with_segment j (kept segment mine out.0) w) }
  outcome w (do_expand j segment log) =
      let mine = get_or w.segments j [] in
      let out = expand_of w.job j (lent segment mine) (lent log w.log) in
      record {
        refusal = out.2.refusal;
        world = with_job out.2.job (with_log (kept log w.log out.1) (with_segment j (kept segment mine out.0) w));
      }
  outcome w (do_settle j segment log) =
      let mine = get_or w.segments j [] in
      let out = settle_of w.job j (lent segment mine) (lent log w.log) in
      record { refusal = out.1.refusal; world = with_job out.1.job (with_segment j (kept segment mine out.0) w) }
  outcome w (do_look j log) = record { refusal = (look_of w.job j (lent log w.log)).1; world = w }
  outcome w (do_load b segment list) =
      let out = load_of w.job b (lent segment (get_or w.segments b [])) list in
      record {
        refusal = out.1.refusal;
        world = with_job out.1.job (with_changed (cond (eqb out.1.refusal 0) out.0 w.changed) w);
      }
  outcome w (do_sweep j segment list) =
      let mine = get_or w.segments j [] in
      let out = sweep_of w.job j (lent segment mine) (lent_list w.job list w.changed) in
      record { refusal = out.1.refusal; world = with_job out.1.job (with_segment j (kept segment mine out.0) w) }
  outcome w (do_close way) =
      let out = close_of w.job way in
      record { refusal = out.refusal; world = with_job out.job w }

  -- the world after a list of calls
  unfoldable pub after : World → List (Call right) → World
  after w [] = w
  after w (call ∷ calls) = after (outcome w call).world calls

-- a Load is due where none is loaded, or the loaded segment has no pair left
unfoldable pub is_load_due : Job → Bool
is_load_due job = not (is_loaded job) || is_swept_whole job job.loaded

-- "carries on": stacks are passed, a log with entries is emptied, a new pair is swept, a segment with pairs unswept is loaded when a Load is
-- due, or the phase changes
pub data CarriesOn (w w' : World) : Type 0 where
  passes : (j : ℕ) → passed_of w.job j < passed_of w'.job j → CarriesOn w w'
  empties : (j : ℕ) → 0 < waiting_of w.job j → waiting_of w'.job j ≡ 0 → CarriesOn w w'
  sweeps : (b j : ℕ) → is_swept w.job b j ≡ false → is_swept w'.job b j ≡ true → CarriesOn w w'
  loads : (b j : ℕ) → is_load_due w.job ≡ true → w'.job.loaded ≡ b → b < segment_count_of w.job → j < segment_count_of w.job
      → is_swept w.job b j ≡ false → CarriesOn w w'
  changes : (w.job.phase ≡ w'.job.phase → ⊥) → CarriesOn w w'

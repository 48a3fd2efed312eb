-- What we promise of the calls one by one (document 01, "A build, from Begin to Plan" and "We agree").
--   RefusedSame    a call that is refused leaves the world of a build as it was, whatever it was lent
--   RefusedKeeps   each open operation by itself, but for Price, whatever its arguments: where it answers a refusal, what it was lent is as it was, the job is the one
--                  given, and nothing else stands beside the number
--   WrongRefused   in every build, a call that names no segment, or is lent a buffer or a list of a wrong length, is refused, and by which number
--   AppendsAlike   what Expand appends to the logs does not depend on what stood there, and the rest of the log area stays
use Rattle.std.specs.Prelude.{◌≡◌, Bool, true, false, List, [], ℕ, ◌+◌, ◌*◌, ◌≤◌, ◌<◌, ltb, ℤ, pos, length, get_or, replicate}
use Rattle.base.specs.Words.{unless}
use Rattle.stacks.specs.Operations.{index_of, stack_of, turned_of}
use Rattle.stacks.specs.Stack.{stack_places}
use Rattle.stacks.specs.Answers.{Stacked}
use Rattle.search.specs.Begin.{no_job, begin_of}
use Rattle.search.specs.Blank.{blank_of}
use Rattle.search.specs.Build.{World, Lengths, Lent, Call, do_blank, do_expand, do_settle, do_look, do_load, do_sweep, do_close, other_list, is_lent_own, outcome, after}
use Rattle.search.specs.Changed.{list_bytes}
use Rattle.search.specs.Close.{close_of}
use Rattle.search.specs.Drive.{build_of}
use Rattle.search.specs.Expand.{expand_of}
use Rattle.search.specs.JobState.{is_blanking, in_forward, in_reverse, segment_count_of, stack_count_at, waiting_of, is_loaded}
use Rattle.search.specs.Load.{load_of}
use Rattle.search.specs.Look.{look_of}
use Rattle.search.specs.Plan.{plan_of}
use Rattle.search.specs.Promise.{right_lengths, Buffers, start_of}
use Rattle.search.specs.Read.{read_of}
use Rattle.search.specs.Segments.{segment_limit}
use Rattle.search.specs.Settle.{settle_of}
use Rattle.search.specs.Sweep.{sweep_of}
use Rattle.search.specs.Terms.{begin_refusal}
use Rattle.search.specs.Answers.{Answer}
use Rattle.search.specs.declared.Job.{Job}
use Rattle.search.specs.declared.Terms.{Terms}
use Rattle.search.specs.declared.Way.{Way}

-- ---- refused calls

unfoldable pub RefusedSame : Type 0
RefusedSame = (right : Lengths) (w : World) (call : Call right) → ((outcome w call).refusal ≡ 0 → ⊥) → (outcome w call).world ≡ w

-- a refused outcome is its number alone: it equals what stands beside that
abbrev pub StandsAlone : {X : Type 0} → (X → ℕ) → (ℕ → X) → X → Type 0
StandsAlone refusal beside out = (refusal out ≡ 0 → ⊥) → out ≡ beside (refusal out)

-- beside a refusal of Begin, and of a call on a job
abbrev pub no_build : ℕ → Answer
no_build r = record { refusal = r; job = no_job }

abbrev pub given_back : Job → ℕ → Answer
given_back job r = record { refusal = r; job = job }

-- beside a refusal of Stack at an index and of Turn
abbrev pub no_stack : ℕ → Stacked
no_stack r = record { refusal = r; stack = replicate stack_places (pos 0) }

pub record RefusedKeeps : Type 0 where
  pub index : (kind n : ℕ) (s : List ℤ) → StandsAlone (λ a. a.refusal) (λ r. record { refusal = r; index = 0 }) (index_of kind n s)
  pub stack : (kind n i : ℕ) → StandsAlone (λ a. a.refusal) no_stack (stack_of kind n i)
  pub turn : (kind n : ℕ) (s : List ℤ) (k : ℕ) → StandsAlone (λ a. a.refusal) no_stack (turned_of kind n s k)
  pub begin : (terms : Terms) → StandsAlone (λ a. a.refusal) no_build (begin_of terms)
  pub blank : (job : Job) (j : ℕ) (segment : List ℕ) → StandsAlone (λ o. o.1.refusal) (λ r. (segment, given_back job r)) (blank_of job j segment)
  pub expand : (job : Job) (j : ℕ) (segment log : List ℕ)
      → StandsAlone (λ o. o.2.refusal) (λ r. (segment, log, record { refusal = r; waits = false; on = 0; job = job })) (expand_of job j segment log)
  pub settle : (job : Job) (j : ℕ) (segment log : List ℕ)
      → StandsAlone (λ o. o.1.refusal) (λ r. (segment, given_back job r)) (settle_of job j segment log)
  -- an empty part of the log area
  pub look : (job : Job) (j : ℕ) (log : List ℕ) → StandsAlone (λ o. o.1) (λ r. ([], r)) (look_of job j log)
  pub load : (job : Job) (b : ℕ) (segment list : List ℕ)
      → StandsAlone (λ o. o.1.refusal) (λ r. (list, given_back job r)) (load_of job b segment list)
  pub sweep : (job : Job) (j : ℕ) (segment list : List ℕ)
      → StandsAlone (λ o. o.1.refusal) (λ r. (segment, given_back job r)) (sweep_of job j segment list)
  pub close : (job : Job) (way : Way) → StandsAlone (λ a. a.refusal) (given_back job) (close_of job way)
  pub read : (kind n : ℕ) (table : List ℕ) (i : ℕ) → StandsAlone (λ e. e.refusal) (λ r. record { refusal = r; entry = 0 }) (read_of kind n table i)
  pub plan : (kind n : ℕ) (wanted given : List ℤ) (groups : ℕ) (table list : List ℕ)
      → StandsAlone (λ o. o.1.refusal) (λ r. (list, record { refusal = r; turns = 0 })) (plan_of kind n wanted given groups table list)
  pub build : (terms : Terms) (table log list : List ℕ)
      → StandsAlone (λ o. o.3.refusal) (λ r. (table, log, list, no_build r)) (build_of terms table log list)

-- ---- wrong calls

-- the segment that a call names, if any, is one of G
unfoldable pub is_inside : {right : Lengths} → ℕ → Call right → Bool
is_inside G (do_blank j segment) = ltb j G
is_inside G (do_expand j segment log) = ltb j G
is_inside G (do_settle j segment log) = ltb j G
is_inside G (do_look j log) = ltb j G
is_inside G (do_load b segment list) = ltb b G
is_inside G (do_sweep j segment list) = ltb j G
is_inside G (do_close way) = true

-- what a wrong call is refused: 8 where it has no part in the phase, 9 where it names no segment, 22 for a Sweep with none loaded, else 10
unfoldable pub wrong_refusal : {right : Lengths} → Job → Call right → ℕ
wrong_refusal job (do_blank j segment) = unless (is_blanking job.phase) 8 (unless (ltb j (segment_count_of job)) 9 10)
wrong_refusal job (do_expand j segment log) = unless (in_forward job) 8 (unless (ltb j (segment_count_of job)) 9 10)
wrong_refusal job (do_settle j segment log) = unless (in_forward job) 8 (unless (ltb j (segment_count_of job)) 9 10)
wrong_refusal job (do_look j log) = unless (ltb j (segment_count_of job)) 9 10
wrong_refusal job (do_load b segment list) = unless (in_reverse job) 8 (unless (ltb b (segment_count_of job)) 9 10)
wrong_refusal job (do_sweep j segment list) = unless (in_reverse job) 8 (unless (ltb j (segment_count_of job)) 9 (unless (is_loaded job) 22 10))
wrong_refusal job (do_close way) = 0

pub record RefusesWrong (right : Lengths) (w : World) : Type 0 where
  pub outside : (call : Call right) → is_inside (segment_count_of w.job) call ≡ false → (outcome w call).refusal ≡ wrong_refusal w.job call
  -- a buffer that is not the build's own has a wrong length
  pub buffers : (call : Call right) → is_lent_own call ≡ false → (outcome w call).refusal ≡ wrong_refusal w.job call
  -- a list that is not as long as that of the segment that is to be loaded, or is loaded
  pub loads : (b : ℕ) (segment : Lent (right.bytes b)) (list : List ℕ) → (length list ≡ list_bytes (stack_count_at w.job b) → ⊥)
      → (let call : Call right = do_load b segment list in (outcome w call).refusal ≡ wrong_refusal w.job call)
  pub sweeps : (j : ℕ) (segment : Lent (right.bytes j)) (list : List ℕ) → (length list ≡ list_bytes (stack_count_at w.job w.job.loaded) → ⊥)
      → (let call : Call right = do_sweep j segment (other_list list) in (outcome w call).refusal ≡ wrong_refusal w.job call)

unfoldable pub WrongRefused : Type 0
WrongRefused =
    (terms : Terms) (segments : List (List ℕ)) (log changed : List ℕ)
    → begin_refusal terms ≡ 0
    → Buffers terms segments log
    → (calls : List (Call (right_lengths terms)))
    → RefusesWrong (right_lengths terms) (after (start_of terms segments log changed) calls)

-- ---- what Expand appends

-- over two log areas: the same segment and answer, and the same numbers at the places that it appended; each other place is as it was
pub record Appends (job : Job) (j : ℕ) (segment log log' : List ℕ) : Type 0 where
  pub segments : (expand_of job j segment log).0 ≡ (expand_of job j segment log').0
  pub answers : (expand_of job j segment log).2 ≡ (expand_of job j segment log').2
  pub appended : (t i : ℕ) → waiting_of job t ≤ i → i < waiting_of (expand_of job j segment log).2.job t
      → get_or (expand_of job j segment log).1 (t * job.terms.room + i) 0 ≡ get_or (expand_of job j segment log').1 (t * job.terms.room + i) 0
  pub kept : (p : ℕ)
      → ((t i : ℕ) → t < segment_count_of job → waiting_of job t ≤ i → i < waiting_of (expand_of job j segment log).2.job t → p ≡ t * job.terms.room + i → ⊥)
      → get_or (expand_of job j segment log).1 p 0 ≡ get_or log p 0
  pub long : length (expand_of job j segment log).1 ≡ length log

-- a job has a waiting number for each of the 64 segments that there may be
unfoldable pub AppendsAlike : Type 0
AppendsAlike =
    (job : Job) (j : ℕ) (segment log log' : List ℕ) → length job.waiting ≡ segment_limit → length log ≡ length log' → Appends job j segment log log'

-- The calls: what a refused one leaves, which are refused whatever the build, what each depends on, that each keeps a job coherent, when Expand
-- waits, and that only Close finishes a build.
use mathlib.Core.Path.{◌≡◌, refl}
use mathlib.Core.Bool.{Bool, true, false}
use mathlib.Core.List.{List, []}
use Prim.Native.Nat.{ℕ, ◌+◌, ◌*◌, ◌^◌, ◌≤◌, ◌<◌}
use lib.Dec.{ltb}
use lib.IntN.{ℤ, pos}
use lib.ListN.{length, get_or, take, drop, replicate}
use Rattle.base.specs.Words.{unless}
use Rattle.graph.specs.Walks.{is_move}
use Rattle.graph.proofs.Depths.{Depths}
use Rattle.graph.proofs.Levels
use Rattle.graph.proofs.Levels.{Level}
use Rattle.stacks.specs.Operations.{index_of, stack_of, turned_of}
use Rattle.search.specs.Begin.{begun, begin_of}
use Rattle.search.specs.Blank.{blank_of}
use Rattle.search.specs.Build.{World, Lengths, Lent, Listed, Call, other_list, do_blank, do_expand, do_settle, do_look, do_load, do_sweep, do_close, is_lent_own, outcome, after}
use Rattle.search.specs.Changed.{list_bytes, bit_at}
use Rattle.search.specs.Close.{close_of}
use Rattle.search.specs.Drive.{build_of}
use Rattle.search.specs.Entries.{entry_at}
use Rattle.search.specs.Expand.{is_parent, children_of, expand_refusal, expand_of}
use Rattle.search.specs.JobState.{count_limit, moves_of, segment_count_of, stack_count_at, passed_of, waiting_of, count_of, level_of, is_blanking, is_finished, in_forward, in_reverse, is_loaded, is_coherent}
use Rattle.search.specs.Load.{changed_of, load_of}
use Rattle.search.specs.Logs.{lacks_room}
use Rattle.search.specs.Look.{look_of}
use Rattle.search.specs.Plan.{plan_of}
use Rattle.search.specs.Promise.{right_lengths, Buffers}
use Rattle.search.specs.PromiseCalls.{RefusedSame, is_inside, wrong_refusal, RefusesWrong, WrongRefused, Appends, AppendsAlike}
use Rattle.search.specs.Read.{read_of}
use Rattle.search.specs.Settle.{settle_of}
use Rattle.search.specs.Sweep.{sweep_of}
use Rattle.search.specs.Terms.{begin_refusal, terms_of}
use Rattle.search.specs.declared.Job.{Job}
use Rattle.search.specs.declared.Phase.TheVariants.{Blanking}
use Rattle.search.specs.declared.Way.{Way}
use Rattle.search.specs.declared.Way.TheVariants.{Forward}
use Rattle.search.proofs.CallsCoherent
use Rattle.search.proofs.ExpandCoherent
use Rattle.search.proofs.ExpandLaws
use Rattle.search.proofs.ExpandLaws.{MustWait}
use Rattle.search.proofs.ListReads
use Rattle.search.proofs.LoadKeeps
use Rattle.search.proofs.LogReads
use Rattle.search.proofs.Refused
use Rattle.search.proofs.Steps
use Rattle.search.proofs.WholeBuild

-- ---- refused calls

-- a call of a build that is refused leaves job, segments, log area and changed list
refused-leaves : (right : Lengths) (w : World) (call : Call right) → ((outcome w call).refusal ≡ 0 → ⊥) → (outcome w call).world ≡ w
unfolding RefusedSame
refused-leaves = Refused.refused-leaves

-- each operation by itself: where the number that it answers is not 0, all else is as it was lent or given, or nothing
index-keeps : (kind n : ℕ) (s : List ℤ) → (let a = index_of kind n s in (a.refusal ≡ 0 → ⊥) → a ≡ record { refusal = a.refusal; index = 0 })
index-keeps = (Refused.refused-keeps).index

stack-keeps : (kind n i : ℕ)
    → (let a = stack_of kind n i in (a.refusal ≡ 0 → ⊥) → a ≡ record { refusal = a.refusal; stack = replicate 12 (pos 0) })
stack-keeps = (Refused.refused-keeps).stack

turn-keeps : (kind n : ℕ) (s : List ℤ) (k : ℕ)
    → (let a = turned_of kind n s k in (a.refusal ≡ 0 → ⊥) → a ≡ record { refusal = a.refusal; stack = replicate 12 (pos 0) })
turn-keeps = (Refused.refused-keeps).turn

begin-keeps : (kind n : ℕ) (wanted : List ℤ) (groups S C : ℕ)
    → (let a = begin_of (terms_of kind n wanted groups S C) in
    (a.refusal ≡ 0 → ⊥)
    → a
    ≡ record {
      refusal = a.refusal;
      job = record {
        terms = record { kind = 0; n = 0; wanted = replicate 12 (pos 0); groups = 0; size = 0; room = 0 };
        phase = Blanking;
        way = Forward;
        loaded = 64;
        passed = replicate 64 0;
        waiting = replicate 64 0;
        swept = replicate 64 0;
        counts = replicate 256 0;
      };
    })
unfolding begun
begin-keeps kind n wanted groups S C = (Refused.refused-keeps).begin (terms_of kind n wanted groups S C)

blank-keeps : (job : Job) (j : ℕ) (segment : List ℕ)
    → (let o = blank_of job j segment in (o.1.refusal ≡ 0 → ⊥) → o ≡ (segment, record { refusal = o.1.refusal; job = job }))
blank-keeps = (Refused.refused-keeps).blank

expand-keeps : (job : Job) (j : ℕ) (segment log : List ℕ)
    → (let o = expand_of job j segment log in
    (o.2.refusal ≡ 0 → ⊥) → o ≡ (segment, log, record { refusal = o.2.refusal; waits = false; on = 0; job = job }))
expand-keeps = (Refused.refused-keeps).expand

settle-keeps : (job : Job) (j : ℕ) (segment log : List ℕ)
    → (let o = settle_of job j segment log in (o.1.refusal ≡ 0 → ⊥) → o ≡ (segment, record { refusal = o.1.refusal; job = job }))
settle-keeps = (Refused.refused-keeps).settle

look-keeps : (job : Job) (j : ℕ) (log : List ℕ) → (let o = look_of job j log in (o.1 ≡ 0 → ⊥) → o ≡ ([], o.1))
look-keeps = (Refused.refused-keeps).look

load-keeps : (job : Job) (b : ℕ) (segment list : List ℕ)
    → (let o = load_of job b segment list in (o.1.refusal ≡ 0 → ⊥) → o ≡ (list, record { refusal = o.1.refusal; job = job }))
load-keeps = (Refused.refused-keeps).load

sweep-keeps : (job : Job) (j : ℕ) (segment list : List ℕ)
    → (let o = sweep_of job j segment list in (o.1.refusal ≡ 0 → ⊥) → o ≡ (segment, record { refusal = o.1.refusal; job = job }))
sweep-keeps = (Refused.refused-keeps).sweep

close-keeps : (job : Job) (way : Way) → (let a = close_of job way in (a.refusal ≡ 0 → ⊥) → a ≡ record { refusal = a.refusal; job = job })
close-keeps = (Refused.refused-keeps).close

read_keeps : (kind n : ℕ) (table : List ℕ) (i : ℕ)
    → (let e = read_of kind n table i in (e.refusal ≡ 0 → ⊥) → e ≡ record { refusal = e.refusal; entry = 0 })
read_keeps = (Refused.refused-keeps).read

plan-keeps : (kind n : ℕ) (wanted given : List ℤ) (groups : ℕ) (table list : List ℕ)
    → (let o = plan_of kind n wanted given groups table list in (o.1.refusal ≡ 0 → ⊥) → o ≡ (list, record { refusal = o.1.refusal; turns = 0 }))
plan-keeps = (Refused.refused-keeps).plan

-- its job is that of a refused Begin
build-keeps : (kind n : ℕ) (wanted : List ℤ) (groups S C : ℕ) (table log list : List ℕ)
    → (let o = build_of (terms_of kind n wanted groups S C) table log list in
    (o.3.refusal ≡ 0 → ⊥) → o ≡ (table, log, list, record { refusal = o.3.refusal; job = begun (terms_of 0 0 (replicate 12 (pos 0)) 0 0 0) }))
build-keeps kind n wanted groups S C = (Refused.refused-keeps).build (terms_of kind n wanted groups S C)

-- ---- calls that are wrong in every build

-- which segment a call names, and by which number a wrong call is refused
inside_is : (right : Lengths) (G j : ℕ) (segment : Lent (right.bytes j)) (log : Lent right.words) (list : List ℕ) (listed : Listed) (way : Way)
    → (is_inside {right = right} G (do_blank j segment) ≡ ltb j G)
    × (is_inside {right = right} G (do_expand j segment log) ≡ ltb j G)
    × (is_inside {right = right} G (do_settle j segment log) ≡ ltb j G)
    × (is_inside {right = right} G (do_look j log) ≡ ltb j G)
    × (is_inside {right = right} G (do_load j segment list) ≡ ltb j G)
    × (is_inside {right = right} G (do_sweep j segment listed) ≡ ltb j G)
    × (is_inside {right = right} G (do_close way) ≡ true)
unfolding is_inside
inside_is right G j segment log list listed way = (refl, refl, refl, refl, refl, refl, refl)

wrong-is : (right : Lengths) (job : Job) (j : ℕ) (segment : Lent (right.bytes j)) (log : Lent right.words) (list : List ℕ) (listed : Listed)
    → (let named : ℕ → ℕ = unless (ltb j (segment_count_of job)) 9 in
    (wrong_refusal {right = right} job (do_blank j segment) ≡ unless (is_blanking job.phase) 8 (named 10))
    × (wrong_refusal {right = right} job (do_expand j segment log) ≡ unless (in_forward job) 8 (named 10))
    × (wrong_refusal {right = right} job (do_settle j segment log) ≡ unless (in_forward job) 8 (named 10))
    × (wrong_refusal {right = right} job (do_look j log) ≡ named 10)
    × (wrong_refusal {right = right} job (do_load j segment list) ≡ unless (in_reverse job) 8 (named 10))
    × (wrong_refusal {right = right} job (do_sweep j segment listed) ≡ unless (in_reverse job) 8 (named (unless (is_loaded job) 22 10))))
unfolding wrong_refusal
wrong-is right job j segment log list listed = (refl, refl, refl, refl, refl, refl)

module _ (kind n : ℕ) (wanted : List ℤ) (groups S C : ℕ) (segments : List (List ℕ)) (log changed : List ℕ)
    (begins : begin_refusal (terms_of kind n wanted groups S C) ≡ 0) (buffers : Buffers (terms_of kind n wanted groups S C) segments log)
    (calls : List (Call (right_lengths (terms_of kind n wanted groups S C)))) where
  end : World
  end = after (record { job = begun (terms_of kind n wanted groups S C); segments = segments; log = log; changed = changed }) calls

  refuses-wrong : RefusesWrong (right_lengths (terms_of kind n wanted groups S C)) end
  unfolding WrongRefused end
  refuses-wrong = Steps.wrong-refused (terms_of kind n wanted groups S C) segments log changed begins buffers calls

  -- a segment that is not there, a buffer of a wrong length, a list of a wrong length
  refuses-outside : (call : Call (right_lengths (terms_of kind n wanted groups S C))) → is_inside (segment_count_of end.job) call ≡ false
      → (outcome end call).refusal ≡ wrong_refusal end.job call
  refuses-outside = refuses-wrong.outside

  refuses-buffers : (call : Call (right_lengths (terms_of kind n wanted groups S C))) → is_lent_own call ≡ false → (outcome end call).refusal ≡ wrong_refusal end.job call
  refuses-buffers = refuses-wrong.buffers

  refuses-loads : (b : ℕ) (segment : Lent ((right_lengths (terms_of kind n wanted groups S C)).bytes b)) (list : List ℕ)
      → (length list ≡ list_bytes (stack_count_at end.job b) → ⊥)
      → (let call : Call (right_lengths (terms_of kind n wanted groups S C)) = do_load b segment list in (outcome end call).refusal ≡ wrong_refusal end.job call)
  refuses-loads = refuses-wrong.loads

  refuses-sweeps : (j : ℕ) (segment : Lent ((right_lengths (terms_of kind n wanted groups S C)).bytes j)) (list : List ℕ)
      → (length list ≡ list_bytes (stack_count_at end.job end.job.loaded) → ⊥)
      → (let call : Call (right_lengths (terms_of kind n wanted groups S C)) = do_sweep j segment (other_list list) in (outcome end call).refusal ≡ wrong_refusal end.job call)
  refuses-sweeps = refuses-wrong.sweeps

-- ---- what Expand appends

module _ (job : Job) (j : ℕ) (segment log log' : List ℕ) (places : length job.waiting ≡ 64) (long : length log ≡ length log') where
  appends : Appends job j segment log log'
  unfolding AppendsAlike
  appends = LogReads.appends-alike job j segment log log' places long

  -- the same segment and answer, and the same numbers at the places that it appended; each other place is as it was
  appends-answer : ((expand_of job j segment log).0 ≡ (expand_of job j segment log').0) × ((expand_of job j segment log).2 ≡ (expand_of job j segment log').2)
  appends-answer = (appends.segments, appends.answers)

  appends-same : (t i : ℕ) → waiting_of job t ≤ i → i < waiting_of (expand_of job j segment log).2.job t
      → get_or (expand_of job j segment log).1 (t * job.terms.room + i) 0 ≡ get_or (expand_of job j segment log').1 (t * job.terms.room + i) 0
  appends-same = appends.appended

  appends-only : (p : ℕ)
      → ((t i : ℕ) → t < segment_count_of job → waiting_of job t ≤ i → i < waiting_of (expand_of job j segment log).2.job t → p ≡ t * job.terms.room + i → ⊥)
      → get_or (expand_of job j segment log).1 p 0 ≡ get_or log p 0
  appends-only = appends.kept

  appends-long : length (expand_of job j segment log).1 ≡ length log
  appends-long = appends.long

-- ---- when Expand waits

-- the rule by which Expand waits: the first stack not passed is taken for one of the level before, and t is the lowest other segment with fewer free
-- places than children of that stack that fall there
module _ (job : Job) (j : ℕ) (segment : List ℕ) (t : ℕ) where
  lacks : ℕ → Bool
  lacks = lacks_room job.terms.size job.terms.room j job.waiting (children_of job.terms.kind job.terms.n (moves_of job) (j * job.terms.size + passed_of job j))

  must-is : MustWait job j segment t
      → (is_parent (level_of job.phase) (entry_at segment (passed_of job j)) ≡ true) × (t < segment_count_of job) × (lacks t ≡ true)
      × ((u : ℕ) → u < t → lacks u ≡ false)
  unfolding lacks
  must-is must = (must.due, must.inside, must.lacks, must.lowest)

  must-from : is_parent (level_of job.phase) (entry_at segment (passed_of job j)) ≡ true → t < segment_count_of job → lacks t ≡ true
      → ((u : ℕ) → u < t → lacks u ≡ false) → MustWait job j segment t
  unfolding lacks
  must-from due inside short lowest = record { due = due; inside = inside; lacks = short; lowest = lowest }

-- Expand answers Waiting with nothing passed exactly when its first stack meets the rule
module _ (job : Job) (j : ℕ) (segment log : List ℕ) (accepted : expand_refusal job j (length segment) (length log) ≡ 0)
    (listed : j < length job.passed) where
  expand-waits : (let out = (expand_of job j segment log).2 in
      out.waits ≡ true → passed_of out.job j ≡ passed_of job j → MustWait job j segment out.on)
  expand-waits = ExpandLaws.expand-waits job j segment log accepted listed

  must-wait : (t : ℕ) → MustWait job j segment t
      → (let out = (expand_of job j segment log).2 in (out.waits ≡ true) × (passed_of out.job j ≡ passed_of job j) × (out.on ≡ t))
  must-wait = ExpandLaws.must-wait job j segment log accepted listed

-- ---- what each call depends on, and coherence

-- of the log area Expand reads the length alone, Settle and Look the length and their own stretch
module _ (job : Job) (j : ℕ) (log log' : List ℕ) (long : length log ≡ length log') where
  expand-log-free : (segment : List ℕ)
      → ((expand_of job j segment log).0 ≡ (expand_of job j segment log').0) × ((expand_of job j segment log).2 ≡ (expand_of job j segment log').2)
  expand-log-free segment = LogReads.expand-log-free job j segment log log' long

  module _ (stretch : take job.terms.room (drop (j * job.terms.room) log) ≡ take job.terms.room (drop (j * job.terms.room) log')) where
    settle-log-own : (segment : List ℕ) → settle_of job j segment log ≡ settle_of job j segment log'
    settle-log-own = LogReads.settle-log-own job j log log' long stretch

    look-log-own : look_of job j log ≡ look_of job j log'
    look-log-own = LogReads.look-log-own job j log log' long stretch

-- Begin's job is coherent, Blank, Load and Close keep coherence, and so do Settle, Expand and Sweep where the count has room for the segment's
-- stacks
begin-coherent : (kind n : ℕ) (wanted : List ℤ) (groups S C : ℕ) → (begin_of (terms_of kind n wanted groups S C)).refusal ≡ 0
    → is_coherent (begin_of (terms_of kind n wanted groups S C)).job ≡ true
begin-coherent kind n wanted groups S C = CallsCoherent.begin-coherent (terms_of kind n wanted groups S C)

module _ (job : Job) (coherent : is_coherent job ≡ true) where
  blank-coherent : (j : ℕ) (segment : List ℕ) → is_coherent (blank_of job j segment).1.job ≡ true
  blank-coherent = CallsCoherent.blank-coherent job coherent

  close-coherent : (way : Way) → is_coherent (close_of job way).job ≡ true
  close-coherent = CallsCoherent.close-coherent job coherent

  module _ (j : ℕ) (segment log : List ℕ) (room : count_of job (level_of job.phase) + stack_count_at job j ≤ 2 ^ 60) where
    settle-coherent : is_coherent (settle_of job j segment log).1.job ≡ true
    unfolding count_limit
    settle-coherent = CallsCoherent.settle-coherent job coherent j segment log room

    expand-coherent : is_coherent (expand_of job j segment log).2.job ≡ true
    unfolding count_limit
    expand-coherent = ExpandCoherent.expand-coherent job coherent j segment log room

  load-coherent : (b : ℕ) (segment list : List ℕ) → is_coherent (load_of job b segment list).1.job ≡ true
  load-coherent = CallsCoherent.load-coherent job coherent

  sweep-coherent : (j : ℕ) (segment list : List ℕ) → count_of job (level_of job.phase) + stack_count_at job j ≤ 2 ^ 60
      → is_coherent (sweep_of job j segment list).1.job ≡ true
  unfolding count_limit
  sweep-coherent = CallsCoherent.sweep-coherent job coherent

-- of the changed list Load reads the length alone, Sweep also the bits of the loaded segment's stacks
load-list-own : (job : Job) (b : ℕ) (segment list list' : List ℕ) → length list ≡ length list'
    → ((load_of job b segment list).1 ≡ (load_of job b segment list').1)
    × ((load_of job b segment list).1.refusal ≡ 0 → (load_of job b segment list).0 ≡ (load_of job b segment list').0)
load-list-own = ListReads.load-list-own

sweep-list-own : (job : Job) (j : ℕ) (segment list list' : List ℕ) → length list ≡ length list'
    → ((i : ℕ) → i < stack_count_at job job.loaded → bit_at list i ≡ bit_at list' i) → sweep_of job j segment list ≡ sweep_of job j segment list'
sweep-list-own = ListReads.sweep-list-own

-- a Load that is not refused leaves spare bits 0
load-spare : (job : Job) (b : ℕ) (segment : List ℕ) (i : ℕ) → stack_count_at job b ≤ i → i < 8 * list_bytes (stack_count_at job b)
    → bit_at (changed_of job b segment) i ≡ false
load-spare = LoadKeeps.load-spare

-- ---- the search, and its end

-- a vertex that is expanded again, three or more levels after its own, brings only seen children
expanded-again : {N : ℕ} {moves : List ℕ} {step : ℕ → ℕ → ℕ} {w b d : ℕ} {D e : ℕ → ℕ} {H : ℕ → ℕ → Type 0} {L : ℕ → Type 0}
    → Depths N moves step w b D → Level N D d e H L → (u k : ℕ) → u < N → D u + 2 ≤ d → is_move moves k ≡ true → e (step k u) ≡ 3 → ⊥
expanded-again depths level = Levels.expanded-again depths level

-- only Close finishes a build
only-close-finishes : {right : Lengths} (w : World) (call : Call right) → is_finished w.job.phase ≡ false
    → is_finished (outcome w call).world.job.phase ≡ true → (way : Way) × (call ≡ do_close way)
only-close-finishes = WholeBuild.only-close-finishes

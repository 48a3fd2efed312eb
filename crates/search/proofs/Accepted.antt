-- What each accepted call was given, as named facts, and what it leaves; a refused one leaves what it was lent.
use mathlib.Core.Path.{◌≡◌, refl, sym, ap, ◌∙◌}
use mathlib.Core.Logic.{◌⊎◌, inl, inr, ◌↔◌}
use mathlib.Core.Bool.{Bool, true, false, not, cond}
use mathlib.Core.List.{List}
use Prim.Native.Nat.{ℕ, ◌<◌}
use lib.Dec.{ltb, eqb}
use lib.ListN.{length, set}
use borrow.Author.Tests.{eq-eqb, ne_eqb, not-true}
use Rattle.base.specs.Words.{all}
use Rattle.base.proofs.Rows.{Row, row_ends, check, equal, below, fails, asking, ◌and_then◌}
use Rattle.base.proofs.Tests.{and_left, and_right, and_both, never, eq-or-ne}
use Rattle.search.specs.Blank.{blank_refusal, blanked, blank_of}
use Rattle.search.specs.Close.{is_ready, is_past_last, close_refusal, next_phase, closed, close_of}
use Rattle.search.specs.Entries.{bytes_for}
use Rattle.search.specs.Expand.{expand_refusal, expansion, expanded_job, expand_of}
use Rattle.search.specs.JobState.{last_level, is_coherent, is_blanking, is_level, is_reverse, in_forward, in_reverse, is_finished, level_of, segment_count_of, stack_count_at, log_length, passed_of, count_of, is_loaded, is_swept, progressed, recounted, directed}
use Rattle.search.specs.Look.{look_refusal}
use Rattle.search.specs.Changed.{list_bytes}
use Rattle.search.specs.Load.{load_refusal, changed_of, load_of}
use Rattle.search.specs.Settle.{settle_refusal, settle_of}
use Rattle.search.specs.Sweep.{sweep_refusal, reached_in, with_pair, sweep_of}
use Rattle.search.specs.Refusals.{call_refusal, segment_refusal, level_refusal}
use Rattle.search.specs.Logs.{indexes_of, pending}
use Rattle.search.specs.Marks.{mark_all, marks_from, marked_job}
use Rattle.search.specs.declared.Job.{Job}
use Rattle.search.specs.declared.Way.{Way}

-- a forward level and a reverse one, by the phase and the way
module _ (job : Job) where
  pub forward-level : in_forward job ≡ true → (is_level job.phase ≡ true) × (is_reverse job.way ≡ false)
  unfolding in_forward
  forward-level h = (
    and_left (is_level job.phase) (not (is_reverse job.way)) h,
    not-true (is_reverse job.way) (and_right (is_level job.phase) (not (is_reverse job.way)) h),
  )

  pub level-forward : is_level job.phase ≡ true → is_reverse job.way ≡ false → in_forward job ≡ true
  unfolding in_forward
  level-forward l f = rw (l, f)

  pub reverse-level : in_reverse job ≡ true → (is_level job.phase ≡ true) × (is_reverse job.way ≡ true)
  unfolding in_reverse
  reverse-level h = (and_left (is_level job.phase) (is_reverse job.way) h, and_right (is_level job.phase) (is_reverse job.way) h)

  pub level-reverse : is_level job.phase ≡ true → is_reverse job.way ≡ true → in_reverse job ≡ true
  unfolding in_reverse
  level-reverse l r = rw (l, r)

-- what the calls on a segment try first
pub record CallFacts (in_phase : Bool) (job : Job) (j : ℕ) : Type 0 where
  pub coherent : is_coherent job ≡ true
  pub in-phase : in_phase ≡ true
  pub inside : j < segment_count_of job

module _ (in_phase : Bool) (job : Job) (j : ℕ) where
  pub call-row : Row (call_refusal in_phase job j) (CallFacts in_phase job j)
  unfolding call_refusal
  call-row =
      asking (check (is_coherent job) 7 refl and_then check in_phase 8 refl and_then below j (segment_count_of job) 9 refl)
      (λ f. record { coherent = f.0; in-phase = f.1.0; inside = f.1.1 })
      (λ f. (f.coherent, (f.in-phase, f.inside)))

  pub segment-row : (bytes : ℕ) → Row (segment_refusal in_phase job j bytes) (CallFacts in_phase job j × (bytes ≡ bytes_for (stack_count_at job j)))
  unfolding segment_refusal
  segment-row bytes = call-row and_then equal bytes (bytes_for (stack_count_at job j)) 10 refl

pub record BlankFacts (job : Job) (j bytes : ℕ) : Type 0 where
  pub called : CallFacts (is_blanking job.phase) job j
  pub long : bytes ≡ bytes_for (stack_count_at job j)
  pub left : passed_of job j < stack_count_at job j

module _ (job : Job) (j bytes : ℕ) where
  blank-row : (blank_refusal job j bytes ≡ 0) ↔ BlankFacts job j bytes
  unfolding blank_refusal
  blank-row =
      row_ends
      (asking (segment-row (is_blanking job.phase) job j bytes and_then below (passed_of job j) (stack_count_at job j) 11 refl)
      (λ f. record { called = f.0.0; long = f.0.1; left = f.1 })
      (λ f. ((f.called, f.long), f.left)))

  pub blank-facts : blank_refusal job j bytes ≡ 0 → BlankFacts job j bytes
  blank-facts = blank-row.0

  pub facts-blank : BlankFacts job j bytes → blank_refusal job j bytes ≡ 0
  facts-blank = blank-row.1

-- what Expand and Settle try first
pub record LevelFacts (job : Job) (j bytes words : ℕ) : Type 0 where
  pub called : CallFacts (in_forward job) job j
  pub long : bytes ≡ bytes_for (stack_count_at job j)
  pub wide : words ≡ log_length job

module _ (job : Job) (j bytes words : ℕ) where
  pub level-row : Row (level_refusal job j bytes words) (LevelFacts job j bytes words)
  unfolding level_refusal
  level-row =
      asking (segment-row (in_forward job) job j bytes and_then equal words (log_length job) 10 refl)
      (λ f. record { called = f.0.0; long = f.0.1; wide = f.1 })
      (λ f. ((f.called, f.long), f.wide))

  expand-row : (expand_refusal job j bytes words ≡ 0) ↔ (LevelFacts job j bytes words × (passed_of job j < stack_count_at job j))
  unfolding expand_refusal
  expand-row = row_ends (level-row and_then below (passed_of job j) (stack_count_at job j) 11 refl)

  pub expand-facts : expand_refusal job j bytes words ≡ 0 → LevelFacts job j bytes words × (passed_of job j < stack_count_at job j)
  expand-facts = expand-row.0

  pub facts-expand : LevelFacts job j bytes words → passed_of job j < stack_count_at job j → expand_refusal job j bytes words ≡ 0
  facts-expand f l = expand-row.1 (f, l)

module _ (job : Job) (j bytes : ℕ) (log : List ℕ) where
  -- each waiting entry is an offset of the segment
  abbrev fit : Bool
  fit = all (λ i. ltb i (stack_count_at job j)) (pending job j log)

  settle-row : (settle_refusal job j bytes log ≡ 0) ↔ (LevelFacts job j bytes (length log) × (fit ≡ true))
  unfolding settle_refusal
  settle-row = row_ends (level-row job j bytes (length log) and_then check fit 12 refl)

  pub settle-facts : settle_refusal job j bytes log ≡ 0 → LevelFacts job j bytes (length log) × (fit ≡ true)
  settle-facts = settle-row.0

  pub facts-settle : LevelFacts job j bytes (length log) → fit ≡ true → settle_refusal job j bytes log ≡ 0
  facts-settle f e = settle-row.1 (f, e)

pub look-facts : (job : Job) (j words : ℕ) → look_refusal job j words ≡ 0 → CallFacts true job j × (words ≡ log_length job)
unfolding look_refusal
look-facts job j words = (call-row true job j and_then equal words (log_length job) 10 refl).asks

-- what Load tries
pub record LoadFacts (job : Job) (b bytes listed : ℕ) : Type 0 where
  pub called : CallFacts (in_reverse job) job b
  pub long : bytes ≡ bytes_for (stack_count_at job b)
  pub wide : listed ≡ list_bytes (stack_count_at job b)

module _ (job : Job) (b bytes listed : ℕ) where
  load_row : (load_refusal job b bytes listed ≡ 0) ↔ LoadFacts job b bytes listed
  unfolding load_refusal
  load_row =
      row_ends
      (asking (segment-row (in_reverse job) job b bytes and_then equal listed (list_bytes (stack_count_at job b)) 10 refl)
      (λ f. record { called = f.0.0; long = f.0.1; wide = f.1 })
      (λ f. ((f.called, f.long), f.wide)))

  pub load-facts : load_refusal job b bytes listed ≡ 0 → LoadFacts job b bytes listed
  load-facts = load_row.0

  pub facts-load : LoadFacts job b bytes listed → load_refusal job b bytes listed ≡ 0
  facts-load = load_row.1

-- what Sweep tries
pub record SweepFacts (job : Job) (j bytes listed : ℕ) : Type 0 where
  pub called : CallFacts (in_reverse job) job j
  pub loaded : is_loaded job ≡ true
  pub long : bytes ≡ bytes_for (stack_count_at job j)
  pub wide : listed ≡ list_bytes (stack_count_at job job.loaded)
  pub left : is_swept job job.loaded j ≡ false

module _ (job : Job) (j bytes listed : ℕ) where
  sweep-row : (sweep_refusal job j bytes listed ≡ 0) ↔ SweepFacts job j bytes listed
  unfolding sweep_refusal
  sweep-row =
      row_ends
      (asking
      (call-row (in_reverse job) job j
      and_then check (is_loaded job) 22 refl
      and_then equal bytes (bytes_for (stack_count_at job j)) 10 refl
      and_then equal listed (list_bytes (stack_count_at job job.loaded)) 10 refl
      and_then fails (is_swept job job.loaded j) 11 refl)
      (λ f. record { called = f.0; loaded = f.1.0; long = f.1.1.0; wide = f.1.1.1.0; left = f.1.1.1.1 })
      (λ f. (f.called, (f.loaded, (f.long, (f.wide, f.left))))))

  pub sweep-facts : sweep_refusal job j bytes listed ≡ 0 → SweepFacts job j bytes listed
  sweep-facts = sweep-row.0

  pub facts-sweep : SweepFacts job j bytes listed → sweep_refusal job j bytes listed ≡ 0
  facts-sweep = sweep-row.1

pub record CloseFacts (job : Job) : Type 0 where
  pub coherent : is_coherent job ≡ true
  pub unfinished : is_finished job.phase ≡ false
  pub ready : is_ready job ≡ true
  pub fits : is_past_last job ≡ false

module _ (job : Job) where
  close_row : (close_refusal job ≡ 0) ↔ CloseFacts job
  unfolding close_refusal
  close_row =
      row_ends
      (asking
      (check (is_coherent job) 7 refl
      and_then fails (is_finished job.phase) 8 refl
      and_then check (is_ready job) 13 refl
      and_then fails (is_past_last job) 14 refl)
      (λ f. record { coherent = f.0; unfinished = f.1.0; ready = f.1.1.0; fits = f.1.1.1 })
      (λ f. (f.coherent, (f.unfinished, (f.ready, f.fits)))))

  pub close_facts : close_refusal job ≡ 0 → CloseFacts job
  close_facts = close_row.0

  pub facts-close : CloseFacts job → close_refusal job ≡ 0
  facts-close = close_row.1

-- the last level closes only where its count is 0
pub past-facts : (job : Job) → is_past_last job ≡ false → level_of job.phase ≡ last_level → count_of job last_level ≡ 0
unfolding is_past_last
past-facts job h e = go (eq-or-ne (count_of job last_level) 0)
  where
    go : (count_of job last_level ≡ 0) ⊎ (count_of job last_level ≡ 0 → ⊥) → count_of job last_level ≡ 0
    go (inl z) = z
    go (inr ne) =
        never
        (and_both (eqb (level_of job.phase) last_level) (not (eqb (count_of job last_level) 0)) (eq-eqb (level_of job.phase) last_level e)
        (ap not (ne_eqb (count_of job last_level) 0 ne)))
        h

-- ---- what the call leaves

-- what an outcome is, accepted or refused
whether-refused : {X A : Type 0} {out a b : X} (f : X → A) (v : A) (r : ℕ) → (r ≡ 0 → out ≡ a) → ((r ≡ 0 → ⊥) → out ≡ b)
    → (r ≡ 0 → f a ≡ v) → f b ≡ v → f out ≡ v
whether-refused {X} {A} {out} f v r accepted refused h k = go (eq-or-ne r 0)
  where
    go : (r ≡ 0) ⊎ (r ≡ 0 → ⊥) → f out ≡ v
    go (inl e) = ap f (accepted e) ∙ h e
    go (inr e) = ap f (refused e) ∙ k

-- an answer that names 0 where it was accepted and r where it was refused names r
pub names-refusal : {X : Type 0} {out a b : X} (f : X → ℕ) (r : ℕ) → (r ≡ 0 → out ≡ a) → ((r ≡ 0 → ⊥) → out ≡ b) → f a ≡ 0 → f b ≡ r → f out ≡ r
names-refusal f r accepted refused h k = whether-refused f r r accepted refused (λ e. h ∙ sym e) k

module _ (job : Job) (j : ℕ) (segment : List ℕ) where
  pub blank-accepted : blank_refusal job j (length segment) ≡ 0 → blank_of job j segment ≡ (
    blanked job j,
    record {
      refusal = 0;
      job = progressed job job.phase (set job.passed j (stack_count_at job j)) job.waiting;
    },
  )
  unfolding blank_of
  blank-accepted h = rw (eq-eqb (blank_refusal job j (length segment)) 0 h)

  pub blank-refused : (blank_refusal job j (length segment) ≡ 0 → ⊥)
      → blank_of job j segment ≡ (segment, record { refusal = blank_refusal job j (length segment); job = job })
  unfolding blank_of
  blank-refused h = rw (ne_eqb (blank_refusal job j (length segment)) 0 h)

  -- the number in the answer is the refusal's
  pub blank-refusal : (blank_of job j segment).1.refusal ≡ blank_refusal job j (length segment)
  blank-refusal = names-refusal (λ o. o.1.refusal) (blank_refusal job j (length segment)) blank-accepted blank-refused refl refl

  pub blank-phase : (blank_of job j segment).1.job.phase ≡ job.phase
  unfolding progressed recounted
  blank-phase =
      whether-refused (λ o. o.1.job.phase) job.phase (blank_refusal job j (length segment)) blank-accepted blank-refused (λ e. refl) refl

  module _ (log : List ℕ) where
    pub expand-accepted : expand_refusal job j (length segment) (length log) ≡ 0
        → (let e = expansion job j segment log in
        expand_of job j segment log ≡ (
          e.marks.segment,
          e.logs.log,
          record { refusal = 0; waits = e.waits; on = e.on; job = expanded_job job j e },
        ))
    unfolding expand_of
    expand-accepted h = rw (eq-eqb (expand_refusal job j (length segment) (length log)) 0 h)

    pub expand-refused : (expand_refusal job j (length segment) (length log) ≡ 0 → ⊥) → expand_of job j segment log ≡ (
      segment,
      log,
      record { refusal = expand_refusal job j (length segment) (length log); waits = false; on = 0; job = job },
    )
    unfolding expand_of
    expand-refused h = rw (ne_eqb (expand_refusal job j (length segment) (length log)) 0 h)

    pub expand-refusal : (expand_of job j segment log).2.refusal ≡ expand_refusal job j (length segment) (length log)
    expand-refusal =
        names-refusal (λ o. o.2.refusal) (expand_refusal job j (length segment) (length log)) expand-accepted expand-refused refl refl

    pub expand-phase : (expand_of job j segment log).2.job.phase ≡ job.phase
    unfolding expanded_job progressed recounted
    expand-phase =
        whether-refused (λ o. o.2.job.phase) job.phase (expand_refusal job j (length segment) (length log)) expand-accepted expand-refused (λ e. refl) refl

    pub settle-accepted : settle_refusal job j (length segment) log ≡ 0
        → (let marks = mark_all job.terms (level_of job.phase) (indexes_of job.terms.size j (pending job j log)) (marks_from job segment) in
        settle_of job j segment log ≡ (
          marks.segment,
          record { refusal = 0; job = marked_job job job.passed (set job.waiting j 0) marks },
        ))
    unfolding settle_of
    settle-accepted h = rw (eq-eqb (settle_refusal job j (length segment) log) 0 h)

    pub settle-refused : (settle_refusal job j (length segment) log ≡ 0 → ⊥)
        → settle_of job j segment log ≡ (segment, record { refusal = settle_refusal job j (length segment) log; job = job })
    unfolding settle_of
    settle-refused h = rw (ne_eqb (settle_refusal job j (length segment) log) 0 h)

    pub settle-refusal : (settle_of job j segment log).1.refusal ≡ settle_refusal job j (length segment) log
    settle-refusal = names-refusal (λ o. o.1.refusal) (settle_refusal job j (length segment) log) settle-accepted settle-refused refl refl

    pub settle-phase : (settle_of job j segment log).1.job.phase ≡ job.phase
    unfolding progressed recounted
    settle-phase =
        whether-refused (λ o. o.1.job.phase) job.phase (settle_refusal job j (length segment) log) settle-accepted settle-refused (λ e. refl) refl

module _ (job : Job) (b : ℕ) (segment list : List ℕ) where
  pub load-accepted : load_refusal job b (length segment) (length list) ≡ 0
      → load_of job b segment list ≡ (changed_of job b segment, record { refusal = 0; job = directed job job.way b job.swept })
  unfolding load_of
  load-accepted h = rw (eq-eqb (load_refusal job b (length segment) (length list)) 0 h)

  pub load-refused : (load_refusal job b (length segment) (length list) ≡ 0 → ⊥)
      → load_of job b segment list ≡ (list, record { refusal = load_refusal job b (length segment) (length list); job = job })
  unfolding load_of
  load-refused h = rw (ne_eqb (load_refusal job b (length segment) (length list)) 0 h)

  pub load-refusal : (load_of job b segment list).1.refusal ≡ load_refusal job b (length segment) (length list)
  load-refusal = names-refusal (λ o. o.1.refusal) (load_refusal job b (length segment) (length list)) load-accepted load-refused refl refl

  pub load-phase : (load_of job b segment list).1.job.phase ≡ job.phase
  unfolding directed
  load-phase =
      whether-refused (λ o. o.1.job.phase) job.phase (load_refusal job b (length segment) (length list)) load-accepted load-refused (λ e. refl) refl

module _ (job : Job) (j : ℕ) (segment list : List ℕ) where
  pub sweep-accepted : sweep_refusal job j (length segment) (length list) ≡ 0
      → (let marks = mark_all job.terms (level_of job.phase) (indexes_of job.terms.size j (reached_in job j list)) (marks_from job segment) in
      sweep_of job j segment list ≡ (
        marks.segment,
        record {
          refusal = 0;
          job = directed (marked_job job job.passed job.waiting marks) job.way job.loaded (with_pair job j);
        },
      ))
  unfolding sweep_of
  sweep-accepted h = rw (eq-eqb (sweep_refusal job j (length segment) (length list)) 0 h)

  pub sweep-refused : (sweep_refusal job j (length segment) (length list) ≡ 0 → ⊥)
      → sweep_of job j segment list ≡ (segment, record { refusal = sweep_refusal job j (length segment) (length list); job = job })
  unfolding sweep_of
  sweep-refused h = rw (ne_eqb (sweep_refusal job j (length segment) (length list)) 0 h)

  pub sweep-refusal : (sweep_of job j segment list).1.refusal ≡ sweep_refusal job j (length segment) (length list)
  sweep-refusal = names-refusal (λ o. o.1.refusal) (sweep_refusal job j (length segment) (length list)) sweep-accepted sweep-refused refl refl

  pub sweep-phase : (sweep_of job j segment list).1.job.phase ≡ job.phase
  unfolding directed progressed recounted
  sweep-phase =
      whether-refused (λ o. o.1.job.phase) job.phase (sweep_refusal job j (length segment) (length list)) sweep-accepted sweep-refused (λ e. refl) refl

module _ (job : Job) (way : Way) where
  pub close-accepted : close_refusal job ≡ 0 → close_of job way ≡ record { refusal = 0; job = closed job way }
  unfolding close_of
  close-accepted h = rw h

  pub close-refused : (close_refusal job ≡ 0 → ⊥) → close_of job way ≡ record { refusal = close_refusal job; job = job }
  unfolding close_of
  close-refused h = rw (ne_eqb (close_refusal job) 0 h)

  pub close-phase : (close_of job way).job.phase ≡ cond (eqb (close_refusal job) 0) (next_phase job.counts job.phase) job.phase
  unfolding close_of closed directed progressed recounted
  close-phase = go (eqb (close_refusal job) 0)
    where
      go : (t : Bool) → (cond t (closed job way) job).phase ≡ cond t (next_phase job.counts job.phase) job.phase
      go true = refl
      go false = refl

-- What an accepted Expand answers: just when it waits with nothing passed, that the log it waits for is nearly full, and that else it passes
-- stacks, all of them where it does not wait.
use mathlib.Core.Path.{◌≡◌, refl, sym, ap, ◌∙◌, subst}
use mathlib.Core.Logic.{◌⊎◌, inl, inr}
use mathlib.Core.Bool.{Bool, true, false, false≢true}
use mathlib.Core.List.{List}
use Prim.Native.Nat.{ℕ, zero, suc, ◌+◌, ◌-◌, ◌*◌, ◌<◌, ◌≤◌}
use native.Mathlib.Nat.{add-zero}
use native.Mathlib.Omega.{arith}
use lib.ListN.{length}
use lib.Seq.{get_or-set_same}
use Rattle.base.proofs.Tests.{never, lt-or-ge}
use Rattle.search.specs.Entries.{entry_at}
use Rattle.search.specs.Expand.{Expansion, is_parent, children_of, pass_one, wait_for, expand_next, expand_run, expansion, expanded_job, expand_of, expand_refusal}
use Rattle.search.specs.JobState.{level_of, segment_count_of, stack_count_at, moves_of, passed_of, progressed, recounted}
use Rattle.search.specs.Marks.{marks_from}
use Rattle.search.specs.Logs.{lacks_room}
use Rattle.search.specs.Answers.{Expanded}
use Rattle.search.specs.declared.Job.{Job}
use Rattle.search.proofs.Accepted.{expand-facts, expand-accepted}
use Rattle.search.proofs.ExpandCases.{first-before, first_passes, place_at, place-waits, NextCase, stopped, skipped, blocked, expanded, next-case, next-at, next_children, next_wait}

-- the first stack not passed is taken for one of the level before, and t is the lowest other segment that lacks room for its children
pub record MustWait (job : Job) (j : ℕ) (segment : List ℕ) (t : ℕ) : Type 0 where
  pub due : is_parent (level_of job.phase) (entry_at segment (passed_of job j)) ≡ true
  pub inside : t < segment_count_of job
  pub lacks : lacks_room job.terms.size job.terms.room j job.waiting (children_of job.terms.kind job.terms.n (moves_of job) (j * job.terms.size + passed_of job j)) t ≡ true
  pub lowest : (u : ℕ) → u < t → lacks_room job.terms.size job.terms.room j job.waiting (children_of job.terms.kind job.terms.n (moves_of job) (j * job.terms.size + passed_of job j)) u ≡ false

-- there is one such segment at most
must-unique : {job : Job} {j : ℕ} {segment : List ℕ} {t u : ℕ} → MustWait job j segment t → MustWait job j segment u → t ≡ u
must-unique {t} {u} a b = go (lt-or-ge t u) (lt-or-ge u t)
  where
    go : (t < u) ⊎ (u ≤ t) → (u < t) ⊎ (t ≤ u) → t ≡ u
    go (inl l) m = never a.lacks (b.lowest t l)
    go (inr l) (inl m) = never b.lacks (a.lowest u m)
    go (inr l) (inr m) = omega arith

-- ---- runs

module _ (job : Job) (j : ℕ) where
  next-stopped : (e : Expansion) → e.waits ≡ true → expand_next job j e ≡ e
  unfolding expand_next
  next-stopped e h = rw h

  run-stopped : (left : ℕ) (e : Expansion) → e.waits ≡ true → expand_run job j left e ≡ e
  unfolding expand_run
  run-stopped zero e h = refl
  run-stopped (suc left) e h = ap (expand_run job j left) (next-stopped e h) ∙ run-stopped left e h

  run-from : (left : ℕ) (e : Expansion) → e.at ≤ (expand_run job j left e).at
  unfolding expand_run
  run-from zero e = omega arith
  run-from (suc left) e = go (next-at job j e) (run-from left (expand_next job j e))
    where
      go : ((expand_next job j e).at ≡ e.at) ⊎ ((expand_next job j e).at ≡ suc e.at)
          → (expand_next job j e).at ≤ (expand_run job j left (expand_next job j e)).at → e.at ≤ (expand_run job j left (expand_next job j e)).at
      go (inl i) h = omega arith
      go (inr i) h = omega arith

  -- a step waits, or passes a stack
  next-passes : (e : Expansion) → ((expand_next job j e).waits ≡ true) ⊎ ((e.waits ≡ false) × ((expand_next job j e).at ≡ suc e.at))
  unfolding pass_one wait_for
  next-passes e = go (next-case job j e)
    where
      go : NextCase job j e → ((expand_next job j e).waits ≡ true) ⊎ ((e.waits ≡ false) × ((expand_next job j e).at ≡ suc e.at))
      go (stopped s i) = inl (rw i s)
      go (skipped s due i) = inr (s, rw i)
      go (blocked s due l i) = inl (rw i)
      go (expanded s due l i) = inr (s, rw i (ap suc (place_at job j (next_children job j e) e)))

  -- a run that does not wait passes all
  run-all : (left : ℕ) (e : Expansion) → (expand_run job j left e).waits ≡ false → (expand_run job j left e).at ≡ e.at + left
  unfolding expand_run
  run-all zero e h = sym (add-zero e.at)
  run-all (suc left) e h = go (next-passes e) (run-all left (expand_next job j e) h)
    where
      go : ((expand_next job j e).waits ≡ true) ⊎ ((e.waits ≡ false) × ((expand_next job j e).at ≡ suc e.at))
          → (expand_run job j left (expand_next job j e)).at ≡ (expand_next job j e).at + left
          → (expand_run job j left (expand_next job j e)).at ≡ e.at + suc left
      go (inl s) i = never (ap (λ (x : Expansion). x.waits) (run-stopped left (expand_next job j e) s) ∙ s) h
      go (inr s) i = omega arith

  -- what a call waits for is another segment that lacks room for the next stack's children
  abbrev WaitsOn : Expansion → Type 0
  WaitsOn e =
      e.waits ≡ true → (e.on < segment_count_of job)
      × (lacks_room job.terms.size job.terms.room j e.logs.waiting (next_children job j e) e.on ≡ true)

  run_on : (left : ℕ) (e : Expansion) → WaitsOn e → WaitsOn (expand_run job j left e)
  unfolding expand_run pass_one wait_for
  run_on zero e h = h
  run_on (suc left) e h = run_on left (expand_next job j e) (go (next-case job j e))
    where
      go : NextCase job j e → WaitsOn (expand_next job j e)
      go (stopped s i) = rw i h
      go (skipped s due i) = rw i (λ t. never t s)
      go (blocked s due l i) =
          rw i (λ t. (l, first_passes (lacks_room job.terms.size job.terms.room j e.logs.waiting (next_children job j e)) 0 (segment_count_of job) (omega arith)))
      go (expanded s due l i) = rw i (λ t. never t (place-waits job j (next_children job j e) e ∙ s))

-- ---- the answer

-- where a call starts
abbrev started : Job → ℕ → List ℕ → List ℕ → Expansion
started job j segment log =
    record {
      at = passed_of job j;
      waits = false;
      on = 0;
      marks = marks_from job segment;
      logs = record { log = log; waiting = job.waiting };
    }

module _ (job : Job) (j : ℕ) (segment log : List ℕ) (accepted : expand_refusal job j (length segment) (length log) ≡ 0) where
  abbrev end : Expansion
  end = expansion job j segment log

  abbrev start : Expansion
  start = started job j segment log

  answer-is : (expand_of job j segment log).2 ≡ record { refusal = 0; waits = end.waits; on = end.on; job = expanded_job job j end }
  answer-is = ap (λ o. o.2) (expand-accepted job j segment log accepted)

  left : passed_of job j < stack_count_at job j
  left = (expand-facts job j (length segment) (length log) accepted).1

  -- there is a first step
  end-first : end ≡ expand_run job j (stack_count_at job j - suc (passed_of job j)) (expand_next job j start)
  unfolding expansion expand_run
  end-first =
      ap (λ (k : ℕ). expand_run job j k start)
      (let e : stack_count_at job j - passed_of job j ≡ suc (stack_count_at job j - suc (passed_of job j)) = omega (arith, left) in e)

  -- it waits before the first stack, or passes it
  abbrev EndCase : Type 0
  EndCase =
      ((end ≡ wait_for job j (next_wait job j start) start) × MustWait job j segment (next_wait job j start))
      ⊎ ((passed_of job j < end.at) × ((t : ℕ) → MustWait job j segment t → ⊥))

  end-case : EndCase
  unfolding pass_one wait_for
  end-case = go (next-case job j start)
    where
      lacks : ℕ → Bool
      lacks = lacks_room job.terms.size job.terms.room j job.waiting (next_children job j start)

      more : (expand_next job j start).at ≡ suc (passed_of job j) → passed_of job j < end.at
      more i = rw end-first (omega (arith, run-from job j (stack_count_at job j - suc (passed_of job j)) (expand_next job j start)))

      go : NextCase job j start → EndCase
      go (stopped s i) = absurd (false≢true s)
      go (skipped s due i) = inr (more (ap (λ (e : Expansion). e.at) i), λ t must. never must.due due)
      go (blocked s due l i) =
          inl (
            end-first
                ∙ ap (expand_run job j (stack_count_at job j - suc (passed_of job j))) i
                ∙ run-stopped job j (stack_count_at job j - suc (passed_of job j)) (wait_for job j (next_wait job j start) start) refl,
            record {
              due = due;
              inside = l;
              lacks = first_passes lacks 0 (segment_count_of job) (omega arith);
              lowest = λ u h. first-before lacks 0 (segment_count_of job) u (omega arith) h;
            },
          )
      go (expanded s due l i) =
          inr (
            more (ap (λ (e : Expansion). e.at) i ∙ ap suc (place_at job j (next_children job j start) start)),
            λ t must. never must.lacks (first-before lacks 0 (segment_count_of job) t (omega arith) (omega (arith, must.inside))),
          )

  module _ (listed : j < length job.passed) where
    end-at : passed_of (expanded_job job j end) j ≡ end.at
    unfolding expanded_job progressed recounted passed_of
    end-at = get_or-set_same job.passed j end.at 0 listed

    -- it passes stacks, or waits before the first
    pub expand-passes : (let out = (expand_of job j segment log).2 in
        (passed_of job j < passed_of out.job j) ⊎ ((out.waits ≡ true) × (passed_of out.job j ≡ passed_of job j)))
    unfolding wait_for
    expand-passes =
        subst (λ (out : Expanded). (passed_of job j < passed_of out.job j) ⊎ ((out.waits ≡ true) × (passed_of out.job j ≡ passed_of job j)))
        (sym answer-is)
        (go end-case)
      where
        go : EndCase
            → (passed_of job j < passed_of (expanded_job job j end) j) ⊎ ((end.waits ≡ true) × (passed_of (expanded_job job j end) j ≡ passed_of job j))
        go (inl r) = inr (ap (λ (e : Expansion). e.waits) r.0, end-at ∙ ap (λ (e : Expansion). e.at) r.0)
        go (inr r) = inl (omega (arith, end-at))

    -- it waits with nothing passed just when the first stack meets the rule, and then for that segment
    pub expand-waits : (let out = (expand_of job j segment log).2 in
        out.waits ≡ true → passed_of out.job j ≡ passed_of job j → MustWait job j segment out.on)
    unfolding wait_for
    expand-waits =
        subst (λ (out : Expanded). out.waits ≡ true → passed_of out.job j ≡ passed_of job j → MustWait job j segment out.on)
        (sym answer-is)
        (λ h k. go k end-case)
      where
        go : passed_of (expanded_job job j end) j ≡ passed_of job j
            → EndCase
            → MustWait job j segment end.on
        go k (inl r) = subst (MustWait job j segment) (sym (ap (λ (e : Expansion). e.on) r.0)) r.1
        go k (inr r) = absurd (omega (arith, end-at))

    pub must-wait : (t : ℕ) → MustWait job j segment t
        → (let out = (expand_of job j segment log).2 in (out.waits ≡ true) × (passed_of out.job j ≡ passed_of job j) × (out.on ≡ t))
    unfolding wait_for
    must-wait t must =
        subst (λ (out : Expanded). (out.waits ≡ true) × (passed_of out.job j ≡ passed_of job j) × (out.on ≡ t)) (sym answer-is) (go end-case)
      where
        go : EndCase
            → (end.waits ≡ true) × (passed_of (expanded_job job j end) j ≡ passed_of job j) × (end.on ≡ t)
        go (inl r) = (
          ap (λ (e : Expansion). e.waits) r.0,
          end-at ∙ ap (λ (e : Expansion). e.at) r.0,
          ap (λ (e : Expansion). e.on) r.0 ∙ must-unique r.1 must,
        )
        go (inr r) = absurd (r.1 t must)

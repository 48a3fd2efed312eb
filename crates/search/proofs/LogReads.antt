-- What a call reads of the log area: Expand nothing but its length, Settle and Look also the stretch of their own segment. So what Expand
-- appends does not depend on what stood there.
use mathlib.Core.Path.{◌≡◌, refl, sym, ap, ◌∙◌, subst, subst₂}
use mathlib.Core.Logic.{◌⊎◌, inl, inr}
use mathlib.Core.Bool.{Bool, true, false, cond}
use mathlib.Core.List.{List, [], ◌∷◌}
use Prim.Native.Nat.{ℕ, zero, suc, ◌+◌, ◌-◌, ◌*◌, ◌/◌, ◌%◌, ◌<◌, ◌≤◌}
use native.Mathlib.Nat.{le_refl}
use native.Mathlib.Omega.{arith}
use lib.Dec.{ltb, eqb}
use lib.ListN.{length, get_or, set, take, drop, length-set, get_or-eq_default}
use lib.Seq.{get_or-set_same, get_or-set_other, set_out}
use borrow.Author.Tests.{lt-ltb, le-ltb}
use Rattle.base.specs.Words.{unless, all, first_from}
use Rattle.base.proofs.Tests.{test-cases, lt-or-ge, eq-or-ne}
use Rattle.search.specs.Entries.{entry_at}
use Rattle.search.specs.Expand.{Expansion, is_parent, children_of, place_child, place_all, pass_one, wait_for, expand_stack, expand_next, expand_run, expansion, expanded_job, expand_of, expand_refusal}
use Rattle.search.specs.JobState.{is_coherent, in_forward, level_of, stack_count_of, segment_count_of, stack_count_at, moves_of, passed_of, waiting_of, progressed, recounted}
use Rattle.search.specs.Look.{look_refusal, look_of}
use Rattle.search.specs.Settle.{settle_refusal, settle_of}
use Rattle.search.specs.Logs.{indexes_of, log_one, lacks_room, pending}
use Rattle.search.specs.Refusals.{call_refusal, segment_refusal, level_refusal}
use Rattle.search.specs.Marks.{mark_one, mark_all, marks_from, marked_job}
use Rattle.search.specs.PromiseCalls.{AppendsAlike}
use Rattle.search.specs.Answers.{Answer}
use Rattle.search.specs.Answers.{Expanded}
use Rattle.search.specs.declared.Job.{Job}
use Rattle.search.proofs.Accepted.{expand-accepted, expand-refused}
use Rattle.search.proofs.CallsCoherent.{set_fits}
use Rattle.search.proofs.Coherence.{begin-given, coherent-facts}
use Rattle.search.proofs.ExpandCoherent.{expand-writes}
use Rattle.search.proofs.SegmentLaws.{segment-size-facts, log-same}
use Rattle.stacks.specs.Stack.{stack_count}

-- an expansion over another log area
abbrev swap : List ℕ → Expansion → Expansion
swap log e =
    record { at = e.at; waits = e.waits; on = e.on; marks = e.marks; logs = record { log = log; waiting = e.logs.waiting } }

-- two lists as long with the same number set at the same place: there they are alike, and where they were
set-alike : (xs ys : List ℕ) (q v p : ℕ) → length xs ≡ length ys → (p ≡ q) ⊎ (get_or xs p 0 ≡ get_or ys p 0)
    → get_or (set xs q v) p 0 ≡ get_or (set ys q v) p 0
set-alike xs ys q v p long alike = go alike (eq-or-ne p q) (lt-or-ge q (length xs))
  where
    go : (p ≡ q) ⊎ (get_or xs p 0 ≡ get_or ys p 0) → (p ≡ q) ⊎ (p ≡ q → ⊥) → (q < length xs) ⊎ (length xs ≤ q)
        → get_or (set xs q v) p 0 ≡ get_or (set ys q v) p 0
    go a (inl e) (inl h) = rw e (get_or-set_same xs q v 0 h ∙ sym (get_or-set_same ys q v 0 (omega arith)))
    go a (inl e) (inr h) =
        rw (e, set_out xs q v h, set_out ys q v (omega arith))
        (get_or-eq_default xs 0 h ∙ sym (get_or-eq_default ys 0 (omega arith)))
    go (inl e) (inr ne) h = absurd (ne e)
    go (inr e) (inr ne) h = get_or-set_other xs q p v 0 ne ∙ e ∙ sym (get_or-set_other ys q p v 0 ne)

-- what is below a number that was raised by one was below it, or is what it was
below_raised : (xs : List ℕ) (u t i : ℕ) → i < get_or (set xs u (get_or xs u 0 + 1)) t 0 → (i < get_or xs t 0) ⊎ ((t ≡ u) × (i ≡ get_or xs u 0))
below_raised xs u t i h = go (lt-or-ge i (get_or xs t 0)) (eq-or-ne t u)
  where
    go : (i < get_or xs t 0) ⊎ (get_or xs t 0 ≤ i) → (t ≡ u) ⊎ (t ≡ u → ⊥) → (i < get_or xs t 0) ⊎ ((t ≡ u) × (i ≡ get_or xs u 0))
    go (inl l) e = inl l
    go (inr l) (inl e) =
        let was : get_or xs t 0 ≡ get_or xs u 0 = ap (λ (x : ℕ). get_or xs x 0) e in
        inr (e, omega (arith, set_fits xs u (get_or xs u 0 + 1) t (get_or xs u 0 + 1) (λ q. le_refl (get_or xs u 0 + 1)) (omega arith)))
    go (inr l) (inr ne) = absurd (omega (arith, get_or-set_other xs u t (get_or xs u 0 + 1) 0 ne))

-- each step of Expand does the same over it, and appends the same
module _ (job : Job) (j : ℕ) where
  -- e' is e over another log area, as long, with the same numbers at the places that the call has appended
  record Twin (e e' : Expansion) : Type 0 where
    log : List ℕ
    same : e' ≡ swap log e
    long : length e.logs.log ≡ length log
    appended : (t i : ℕ) → waiting_of job t ≤ i → i < get_or e.logs.waiting t 0
        → get_or e.logs.log (t * job.terms.room + i) 0 ≡ get_or log (t * job.terms.room + i) 0

  -- over that log area itself
  twin-of : {e e' : Expansion} (twin : Twin e e') → Twin e (swap twin.log e)
  twin-of twin = record { log = twin.log; same = refl; long = twin.long; appended = twin.appended }

  child-twin : (c : ℕ) {e e' : Expansion} → Twin e e' → Twin (place_child job j c e) (place_child job j c e')
  unfolding place_child log_one
  child-twin c {e} {e'} twin =
      subst (λ (x : Expansion). Twin (place_child job j c e) (place_child job j c x)) (sym twin.same) (go (eqb (c / job.terms.size) j))
    where
      S : ℕ
      S = job.terms.size

      w : ℕ
      w = get_or e.logs.waiting (c / S) 0

      place : ℕ
      place = c / S * job.terms.room + w

      by : Bool → Expansion → Expansion
      by here x =
          record {
            at = x.at;
            waits = x.waits;
            on = x.on;
            marks = cond here (mark_one job.terms (level_of job.phase) c x.marks) x.marks;
            logs = cond here x.logs (log_one job.terms.room (c / S) (c % S) x.logs);
          }

      new : (t i : ℕ) → waiting_of job t ≤ i → (i < get_or e.logs.waiting t 0) ⊎ ((t ≡ c / S) × (i ≡ w))
          → get_or (set e.logs.log place (c % S)) (t * job.terms.room + i) 0 ≡ get_or (set twin.log place (c % S)) (t * job.terms.room + i) 0
      new t i h (inl l) = set-alike e.logs.log twin.log place (c % S) (t * job.terms.room + i) twin.long (inr (twin.appended t i h l))
      new t i h (inr r) =
          set-alike e.logs.log twin.log place (c % S) (t * job.terms.room + i) twin.long (inl (λ k. r.0 k * job.terms.room + r.1 k))

      go : (here : Bool) → Twin (by here e) (by here (swap twin.log e))
      go true = record { log = twin.log; same = refl; long = twin.long; appended = twin.appended }
      go false =
          record {
            log = set twin.log place (c % S);
            same = refl;
            long = length-set e.logs.log place (c % S) ∙ twin.long ∙ sym (length-set twin.log place (c % S));
            appended = λ t i h l. new t i h (below_raised e.logs.waiting (c / S) t i l);
          }

  children-twin : (children : List ℕ) {e e' : Expansion} → Twin e e' → Twin (place_all job j children e) (place_all job j children e')
  unfolding place_all
  children-twin [] twin = twin
  children-twin (c ∷ children) twin = children-twin children (child-twin c twin)

  pass-twin : {e e' : Expansion} → Twin e e' → Twin (pass_one job j e) (pass_one job j e')
  unfolding pass_one
  pass-twin twin = record { log = twin.log; same = ap (pass_one job j) twin.same; long = twin.long; appended = twin.appended }

  wait-twin : (t : ℕ) {e e' : Expansion} → Twin e e' → Twin (wait_for job j t e) (wait_for job j t e')
  unfolding wait_for
  wait-twin t twin = record { log = twin.log; same = ap (wait_for job j t) twin.same; long = twin.long; appended = twin.appended }

  next-twin : {e e' : Expansion} → Twin e e' → Twin (expand_next job j e) (expand_next job j e')
  unfolding expand_next expand_stack
  next-twin {e} {e'} twin =
      let children = children_of job.terms.kind job.terms.n (moves_of job) (j * job.terms.size + e.at) in
      let t = first_from (lacks_room job.terms.size job.terms.room j e.logs.waiting children) 0 (segment_count_of job) in
      subst (λ (x : Expansion). Twin (expand_next job j e) (expand_next job j x)) (sym twin.same)
      (go children t e.waits (is_parent (level_of job.phase) (entry_at e.marks.segment e.at)) (ltb t (segment_count_of job)))
    where
      by : List ℕ → ℕ → Bool → Bool → Bool → Expansion → Expansion
      by children t stops due full x =
          cond stops x (cond due (cond full (wait_for job j t x) (pass_one job j (place_all job j children x))) (pass_one job j x))

      go : (children : List ℕ) (t : ℕ) (stops due full : Bool) → Twin (by children t stops due full e) (by children t stops due full (swap twin.log e))
      go children t true due full = twin-of twin
      go children t false true true = wait-twin t (twin-of twin)
      go children t false true false = pass-twin (children-twin children (twin-of twin))
      go children t false false full = pass-twin (twin-of twin)

  run-twin : (left : ℕ) {e e' : Expansion} → Twin e e' → Twin (expand_run job j left e) (expand_run job j left e')
  unfolding expand_run
  run-twin zero twin = twin
  run-twin (suc left) twin = run-twin left (next-twin twin)

  module _ (segment log log' : List ℕ) (long : length log ≡ length log') where
    expansion-twin : Twin (expansion job j segment log) (expansion job j segment log')
    unfolding expansion waiting_of
    expansion-twin =
        run-twin (stack_count_at job j - passed_of job j)
        (record { log = log'; same = refl; long = long; appended = λ t i h l. absurd (omega arith) })

    -- Expand gives the same segment, job and answer for any two log areas of one length, and the same numbers where it appended
    record Alike (out out' : List ℕ × List ℕ × Expanded) : Type 0 where
      segments : out.0 ≡ out'.0
      answers : out.2 ≡ out'.2
      appended : (t i : ℕ) → waiting_of job t ≤ i → i < waiting_of out.2.job t
          → get_or out.1 (t * job.terms.room + i) 0 ≡ get_or out'.1 (t * job.terms.room + i) 0

    expand-alike : Alike (expand_of job j segment log) (expand_of job j segment log')
    unfolding expanded_job progressed recounted waiting_of
    expand-alike = go (eq-or-ne (expand_refusal job j (length segment) (length log)) 0)
      where
        twin : Twin (expansion job j segment log) (expansion job j segment log')
        twin = expansion-twin

        same : expand_refusal job j (length segment) (length log') ≡ expand_refusal job j (length segment) (length log)
        same = ap (expand_refusal job j (length segment)) (sym long)

        out : Expansion → List ℕ × List ℕ × Expanded
        out x = (x.marks.segment, x.logs.log, record { refusal = 0; waits = x.waits; on = x.on; job = expanded_job job j x })

        go : (expand_refusal job j (length segment) (length log) ≡ 0) ⊎ (expand_refusal job j (length segment) (length log) ≡ 0 → ⊥)
            → Alike (expand_of job j segment log) (expand_of job j segment log')
        go (inl h) =
            subst₂ Alike
            (sym (expand-accepted job j segment log h))
            (sym (expand-accepted job j segment log' (same ∙ h) ∙ ap out twin.same))
            (record { segments = refl; answers = refl; appended = twin.appended })
        go (inr h) =
            subst₂ Alike
            (sym (expand-refused job j segment log h))
            (sym (expand-refused job j segment log' (λ i. h (sym same ∙ i))))
            (record {
              segments = refl;
              answers = ap {B = Expanded} (λ (r : ℕ). record { refusal = r; waits = false; on = 0; job = job }) (sym same);
              appended = λ t i g l. absurd (omega arith);
            })

    pub expand-log-free : ((expand_of job j segment log).0 ≡ (expand_of job j segment log').0) × ((expand_of job j segment log).2 ≡ (expand_of job j segment log').2)
    expand-log-free = (expand-alike.segments, expand-alike.answers)

pub appends-alike : AppendsAlike
unfolding AppendsAlike waiting_of
appends-alike job j segment log log' wide long =
    let alike = expand-alike job j segment log log' long in
    let written = expand-writes job j segment log in
    record {
      segments = alike.segments;
      answers = alike.answers;
      appended = alike.appended;
      kept = written.kept (omega arith);
      long = written.long;
    }

module _ (job : Job) (j : ℕ) (log log' : List ℕ) (long : length log ≡ length log')
    (stretch : take job.terms.room (drop (j * job.terms.room) log) ≡ take job.terms.room (drop (j * job.terms.room) log')) where
  -- what waits fits the stretch
  pending-same : is_coherent job ≡ true → j < segment_count_of job → pending job j log ≡ pending job j log'
  unfolding pending segment_count_of stack_count_of
  pending-same h inside =
      let facts = coherent-facts job h in
      let given = begin-given facts.begins in
      let few = (segment-size-facts (stack_count job.terms.kind job.terms.n) job.terms.size given.segments).few in
      let fits : waiting_of job j ≤ job.terms.room =
      subst (λ (b : Bool). waiting_of job j ≤ cond b job.terms.room 0) (lt-ltb j (segment_count_of job) inside) (facts.waiting-fits j (omega arith)) in
      log-same job.terms.room j (waiting_of job j) log log' fits stretch

  -- Settle and Look give the same for two log areas of one length with the same stretch of segment j
  pub settle-log-own : (segment : List ℕ) → settle_of job j segment log ≡ settle_of job j segment log'
  unfolding settle_of settle_refusal level_refusal segment_refusal call_refusal
  settle-log-own segment = go (test-cases (is_coherent job)) (test-cases (in_forward job)) (lt-or-ge j (segment_count_of job))
    where
      by : ℕ → List ℕ → List ℕ × Answer
      by logs offsets =
          let r = level_refusal job j (length segment) logs (unless (all (λ i. ltb i (stack_count_at job j)) offsets) 12 0) in
          let marks = mark_all job.terms (level_of job.phase) (indexes_of job.terms.size j offsets) (marks_from job segment) in
          cond (eqb r 0)
          (marks.segment, record { refusal = 0; job = marked_job job job.passed (set job.waiting j 0) marks })
          (segment, record { refusal = r; job = job })

      go : (is_coherent job ≡ true) ⊎ (is_coherent job ≡ false) → (in_forward job ≡ true) ⊎ (in_forward job ≡ false)
          → (j < segment_count_of job) ⊎ (segment_count_of job ≤ j) → settle_of job j segment log ≡ settle_of job j segment log'
      go (inl h) (inl g) (inl l) = λ i. by (long i) (pending-same h l i)
      go (inl h) (inl g) (inr l) = rw (h, g, le-ltb j (segment_count_of job) l)
      go (inl h) (inr g) l = rw (h, g)
      go (inr h) g l = rw h

  pub look-log-own : look_of job j log ≡ look_of job j log'
  unfolding look_of look_refusal call_refusal
  look-log-own = go (test-cases (is_coherent job)) (lt-or-ge j (segment_count_of job))
    where
      by : ℕ → List ℕ → List ℕ × ℕ
      by logs offsets = let r = look_refusal job j logs in (cond (eqb r 0) offsets [], r)

      go : (is_coherent job ≡ true) ⊎ (is_coherent job ≡ false) → (j < segment_count_of job) ⊎ (segment_count_of job ≤ j)
          → look_of job j log ≡ look_of job j log'
      go (inl h) (inl l) = λ i. by (long i) (pending-same h l i)
      go (inl h) (inr l) = rw (h, le-ltb j (segment_count_of job) l)
      go (inr h) l = rw h

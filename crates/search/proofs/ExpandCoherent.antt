-- Expand gives a coherent job: it passes no more than the segment has, marks no more than are unseen, and logs no more than there is room for.
-- In the log area it writes only what it appends.
use mathlib.Core.Path.{◌≡◌, refl, sym, ap, ◌∙◌, subst}
use mathlib.Core.Logic.{◌⊎◌, inl, inr}
use mathlib.Core.Bool.{true, false, cond}
use mathlib.Core.List.{List, [], ◌∷◌}
use Prim.Native.Nat.{ℕ, zero, suc, ◌+◌, ◌-◌, ◌*◌, ◌/◌, ◌%◌, ◌≤◌, ◌<◌}
use native.Mathlib.Nat.{le_refl}
use native.Mathlib.Omega.{arith}
use lib.Dec.{ltb}
use lib.ListN.{length, get_or, set, length-set}
use lib.Seq.{get_or-set_same, get_or-set_other, set_out}
use borrow.Author.Tests.{lt-ltb}
use Rattle.base.proofs.Tests.{lt-or-ge, eq-or-ne}
use Rattle.search.specs.Entries.{bytes_for}
use Rattle.search.specs.Expand.{Expansion, place_child, place_all, pass_one, wait_for, expand_next, expand_run, expansion, expanded_job, expand_refusal, expand_of}
use Rattle.search.specs.JobState.{count_limit, level_of, segment_count_of, stack_count_at, stack_count_of, moves_of, passed_of, waiting_of, count_of, is_coherent, progressed, recounted, swept_of, is_loaded, loaded_fits}
use Rattle.search.specs.Segments.{segment_limit}
use Rattle.search.specs.Logs.{Logs, log_one, falling_in, lacks_room}
use Rattle.search.specs.Marks.{Marks, marks_from}
use Rattle.search.specs.Answers.{Expanded}
use Rattle.search.specs.declared.Job.{Job}
use Rattle.search.proofs.Accepted.{expand-facts, expand-accepted, expand-refused}
use Rattle.search.proofs.CallsCoherent.{set_fits, Budget, mark-budget, start-budget, found-fits}
use Rattle.search.proofs.Children.{children-inside}
use Rattle.search.proofs.Coherence.{Coherent, coherent-facts, facts-coherent, begin-given}
use Rattle.search.proofs.ExpandCases.{NextCase, stopped, skipped, blocked, expanded, next-case, next-at, next_children, next_wait, first-before, room-enough, falling-here, falling-elsewhere, place_here, place-elsewhere, place_at}
use Rattle.search.proofs.Given.{Given, laws}
use Rattle.search.proofs.MarkLaws.{mark-length}
use Rattle.search.proofs.SegmentLaws.{SegmentSizeFacts, segment-size-facts, segment-stack, stack-segment, stack-offset}

-- a number that is raised by one, among others
raised : (xs : List ℕ) (u t : ℕ) → get_or xs t 0 ≤ get_or (set xs u (get_or xs u 0 + 1)) t 0
raised xs u t = go (eq-or-ne t u) (lt-or-ge u (length xs))
  where
    go : (t ≡ u) ⊎ (t ≡ u → ⊥) → (u < length xs) ⊎ (length xs ≤ u) → get_or xs t 0 ≤ get_or (set xs u (get_or xs u 0 + 1)) t 0
    go (inl e) (inl h) = rw e (omega (arith, get_or-set_same xs u (get_or xs u 0 + 1) 0 h))
    go (inl e) (inr h) = rw (set_out xs u (get_or xs u 0 + 1) h) (le_refl (get_or xs t 0))
    go (inr ne) h = rw (get_or-set_other xs u t (get_or xs u 0 + 1) 0 ne) (le_refl (get_or xs t 0))

-- place p is none of those at which a call appends, that comes to these waiting numbers
abbrev pub Untouched : Job → List ℕ → ℕ → Type 0
Untouched job waiting p =
    (t i : ℕ) → t < segment_count_of job → waiting_of job t ≤ i → i < get_or waiting t 0 → p ≡ t * job.terms.room + i → ⊥

-- log is what the log area held before
module _ (job : Job) (coherent : is_coherent job ≡ true) (j : ℕ) (inside : j < segment_count_of job) (log : List ℕ) where
  facts : Coherent job
  facts = coherent-facts job coherent

  given : Given job.terms
  given = begin-given facts.begins

  sizes : SegmentSizeFacts (stack_count_of job) job.terms.size
  unfolding stack_count_of
  sizes = segment-size-facts (stack_count_of job) job.terms.size given.segments

  some : 0 < job.terms.size
  some = omega (arith, sizes.least)

  -- the logs that a segment may have
  abbrev log_bound : ℕ → ℕ
  log_bound t = cond (ltb t (segment_count_of job)) job.terms.room 0

  -- a call that has appended to the logs, and written nowhere else
  record Appending (logs : Logs) : Type 0 where
    log-long : length logs.log ≡ length log
    places : length logs.waiting ≡ length job.waiting
    more : (t : ℕ) → waiting_of job t ≤ get_or logs.waiting t 0
    kept : segment_limit ≤ length job.waiting → (p : ℕ) → Untouched job logs.waiting p → get_or logs.log p 0 ≡ get_or log p 0

  -- how far a call may have come: what has room for the stacks that were unseen when it began still has
  record Fitting (start : Marks) (e : Expansion) : Type 0 where
    bytes : length e.marks.segment ≡ bytes_for (stack_count_at job j)
    budget : (most : ℕ) → Budget (stack_count_at job j) most start → Budget (stack_count_at job j) most e.marks
    at-fits : e.at ≤ stack_count_at job j
    waiting : (t : ℕ) → t < segment_limit → get_or e.logs.waiting t 0 ≤ log_bound t
    appending : Appending e.logs

  -- every other log has room for the children that fall there
  record Room (children : List ℕ) (e : Expansion) : Type 0 where
    free : (t : ℕ) → t < segment_count_of job → (t ≡ j → ⊥) → get_or e.logs.waiting t 0 + falling_in job.terms.size t children ≤ job.terms.room

  few : (t : ℕ) → t < segment_count_of job → t < segment_limit
  unfolding segment_count_of
  few t h = omega (arith, sizes.few)

  module _ (start : Marks) (c : ℕ) (children : List ℕ) (e : Expansion) (low : c < stack_count_of job) (fitting : Fitting start e) (room : Room (c ∷ children) e) where
    home : c / job.terms.size < segment_count_of job
    unfolding segment_count_of
    home = stack-segment (stack_count_of job) job.terms.size some c low

    offset : c % job.terms.size < stack_count_at job (c / job.terms.size)
    unfolding stack_count_at
    offset = stack-offset (stack_count_of job) job.terms.size some c low

    placed-here : c / job.terms.size ≡ j → Fitting start (place_child job j c e) × Room children (place_child job j c e)
    placed-here h =
        let S = job.terms.size in
        let d = level_of job.phase in
        let fits : c % S < stack_count_at job j = subst (λ (t : ℕ). c % S < stack_count_at job t) h offset in
        rw (place_here job j c e h) (
          record {
            bytes = mark-length job.terms d c e.marks ∙ fitting.bytes;
            budget = λ most b. mark-budget job.terms d c (stack_count_at job j) e.marks fits fitting.bytes (fitting.budget most b);
            at-fits = fitting.at-fits;
            waiting = fitting.waiting;
            appending = fitting.appending;
          },
          record { free = λ t l ne. omega (arith, room.free t l ne, falling-elsewhere job.terms.size t c children (λ q. ne (sym q ∙ h))) },
        )

    placed-elsewhere : (c / job.terms.size ≡ j → ⊥) → Fitting start (place_child job j c e) × Room children (place_child job j c e)
    unfolding log_one
    placed-elsewhere ne =
        let u = c / job.terms.size in
        let old = e.logs.waiting in
        let fall = falling-here job.terms.size u c children refl in
        let free = room.free u home ne in
        rw (place-elsewhere job j c e ne) (
          record {
            bytes = fitting.bytes;
            budget = fitting.budget;
            at-fits = fitting.at-fits;
            waiting = λ t l. set_fits old u (get_or old u 0 + 1) t (log_bound t)
                (λ q. rw (q, lt-ltb u (segment_count_of job) home) (omega arith))
                (fitting.waiting t l);
            appending = appended;
          },
          record { free = λ t l other. after t (room.free t l other) (eq-or-ne t u) },
        )
      where
        -- the new entry stands at a place of its own
        appended : Appending (log_one job.terms.room (c / job.terms.size) (c % job.terms.size) e.logs)
        appended =
            let u = c / job.terms.size in
            let old = e.logs.waiting in
            let was = fitting.appending in
            record {
              log-long = length-set e.logs.log (u * job.terms.room + get_or old u 0) (c % job.terms.size) ∙ was.log-long;
              places = length-set old u (get_or old u 0 + 1) ∙ was.places;
              more = λ t. omega (arith, was.more t, raised old u t);
              kept = λ wide p free.
                  let new = get_or-set_same old u (get_or old u 0 + 1) 0 (omega (arith, few u home, was.places)) in
                  get_or-set_other e.logs.log (u * job.terms.room + get_or old u 0) p (c % job.terms.size) 0 (free u (get_or old u 0) home (was.more u) (omega arith))
                  ∙ was.kept wide p (λ t i l m g. free t i l m (omega (arith, raised old u t)));
            }

        after : (t : ℕ) → get_or e.logs.waiting t 0 + falling_in job.terms.size t (c ∷ children) ≤ job.terms.room
            → (t ≡ c / job.terms.size) ⊎ (t ≡ c / job.terms.size → ⊥)
            → get_or (set e.logs.waiting (c / job.terms.size) (get_or e.logs.waiting (c / job.terms.size) 0 + 1)) t 0 + falling_in job.terms.size t children ≤ job.terms.room
        after t h (inl q) =
            let u = c / job.terms.size in
            let old = e.logs.waiting in
            let fall = falling-here job.terms.size t c children (sym q) in
            let same = ap (λ (x : ℕ). get_or old x 0) q in
            omega (
              arith,
              set_fits old u (get_or old u 0 + 1) t (job.terms.room - falling_in job.terms.size t children) (λ z. omega arith) (omega arith),
            )
        after t h (inr other) =
            let u = c / job.terms.size in
            let old = e.logs.waiting in
            omega (
              arith,
              falling-elsewhere job.terms.size t c children (λ z. other (sym z)),
              get_or-set_other old u t (get_or old u 0 + 1) 0 other,
            )

    placed : Fitting start (place_child job j c e) × Room children (place_child job j c e)
    placed = go (eq-or-ne (c / job.terms.size) j)
      where
        go : (c / job.terms.size ≡ j) ⊎ (c / job.terms.size ≡ j → ⊥) → Fitting start (place_child job j c e) × Room children (place_child job j c e)
        go (inl h) = placed-here h
        go (inr ne) = placed-elsewhere ne

  placed-all : (start : Marks) (children : List ℕ) (e : Expansion) → ((i : ℕ) → i < length children → get_or children i 0 < stack_count_of job)
      → Fitting start e → Room children e → Fitting start (place_all job j children e)
  unfolding place_all
  placed-all start [] e low fitting room = fitting
  placed-all start (c ∷ children) e low fitting room =
      let p = placed start c children e (low 0 (omega arith)) fitting room in
      placed-all start children (place_child job j c e) (λ i l. low (suc i) (omega arith)) p.0 p.1

  -- where no other segment lacks room, there is room
  roomy : (start : Marks) (e : Expansion) → Fitting start e → segment_count_of job ≤ next_wait job j e → Room (next_children job j e) e
  roomy start e fitting l =
      record {
        free = λ t h ne. omega (
          arith,
          room-enough job.terms.size job.terms.room j e.logs.waiting (next_children job j e) t
              (first-before (lacks_room job.terms.size job.terms.room j e.logs.waiting (next_children job j e)) 0 (segment_count_of job) t (omega arith) (omega arith))
              ne,
          bound t h,
        );
      }
    where
      bound : (t : ℕ) → t < segment_count_of job → get_or e.logs.waiting t 0 ≤ job.terms.room
      bound t h = rw (lt-ltb t (segment_count_of job) h) at (fitting.waiting t (few t h))

  passed-fits : (start : Marks) (e : Expansion) → e.at < stack_count_at job j → Fitting start e → Fitting start (pass_one job j e)
  unfolding pass_one
  passed-fits start e h fitting =
      record {
        bytes = fitting.bytes;
        budget = fitting.budget;
        at-fits = omega arith;
        waiting = fitting.waiting;
        appending = fitting.appending;
      }

  waited-fits : (start : Marks) (t : ℕ) (e : Expansion) → Fitting start e → Fitting start (wait_for job j t e)
  unfolding wait_for
  waited-fits start t e fitting =
      record {
        bytes = fitting.bytes;
        budget = fitting.budget;
        at-fits = fitting.at-fits;
        waiting = fitting.waiting;
        appending = fitting.appending;
      }

  next-fitting : (start : Marks) (e : Expansion) → e.at < stack_count_at job j → Fitting start e → Fitting start (expand_next job j e)
  unfolding stack_count_at stack_count_of
  next-fitting start e h fitting = go (next-case job j e)
    where
      after : Expansion
      after = place_all job j (next_children job j e) e

      low : (i : ℕ) → i < length (next_children job j e) → get_or (next_children job j e) i 0 < stack_count_of job
      low =
          children-inside job.terms.kind job.terms.n (moves_of job) (j * job.terms.size + e.at) given.in-range (laws given)
          (segment-stack (stack_count_of job) job.terms.size some j e.at h)

      go : NextCase job j e → Fitting start (expand_next job j e)
      go (stopped s i) = rw i fitting
      go (skipped s due i) = rw i (passed-fits start e h fitting)
      go (blocked s due l i) = rw i (waited-fits start (next_wait job j e) e fitting)
      go (expanded s due l i) =
          rw i
          (passed-fits start after (rw (place_at job j (next_children job j e) e) h)
          (placed-all start (next_children job j e) e low fitting (roomy start e fitting l)))

  run-fitting : (start : Marks) (left : ℕ) (e : Expansion) → e.at + left ≤ stack_count_at job j → Fitting start e → Fitting start (expand_run job j left e)
  unfolding expand_run
  run-fitting start zero e h fitting = fitting
  run-fitting start (suc left) e h fitting =
      run-fitting start left (expand_next job j e) (fits (next-at job j e)) (next-fitting start e (omega arith) fitting)
    where
      fits : ((expand_next job j e).at ≡ e.at) ⊎ ((expand_next job j e).at ≡ suc e.at) → (expand_next job j e).at + left ≤ stack_count_at job j
      fits (inl i) = omega arith
      fits (inr i) = omega arith

  module _ (segment : List ℕ) (long : length segment ≡ bytes_for (stack_count_at job j)) where
    end-fitting : Fitting (marks_from job segment) (expansion job j segment log)
    unfolding expansion waiting_of
    end-fitting =
        let passed = facts.passed-fits j (few j inside) in
        run-fitting
        (marks_from job segment)
        (stack_count_at job j - passed_of job j)
        (record {
          at = passed_of job j;
          waits = false;
          on = 0;
          marks = marks_from job segment;
          logs = record { log = log; waiting = job.waiting };
        })
        (omega arith)
        (record {
          bytes = long;
          budget = λ most b. b;
          at-fits = passed;
          waiting = facts.waiting-fits;
          appending = record { log-long = refl; places = refl; more = λ t. le_refl (get_or job.waiting t 0); kept = λ wide p free. refl };
        })

    expanded-coherent : count_of job (level_of job.phase) + stack_count_at job j ≤ count_limit
        → is_coherent (expanded_job job j (expansion job j segment log)) ≡ true
    unfolding expanded_job progressed recounted passed_of waiting_of swept_of count_of stack_count_at stack_count_of segment_count_of loaded_fits is_loaded
    expanded-coherent room =
        let e = expansion job j segment log in
        let d = level_of job.phase in
        let f = end-fitting in
        facts-coherent (expanded_job job j e)
        (record {
          begins = facts.begins;
          phase-fits = facts.phase-fits;
          passed-fits = λ i l. set_fits job.passed j e.at i (stack_count_at job i) (λ q. omega (arith, f.at-fits, ap (stack_count_at job) q)) (facts.passed-fits i l);
          waiting-fits = f.waiting;
          counts-fit = found-fits job d (stack_count_at job j) facts.counts-fit (f.budget count_limit (start-budget job d (stack_count_at job j) room segment));
          loaded-fits = facts.loaded-fits;
          swept-fits = facts.swept-fits;
        })

pub expand-coherent : (job : Job) → is_coherent job ≡ true → (j : ℕ) (segment log : List ℕ)
    → count_of job (level_of job.phase) + stack_count_at job j ≤ count_limit → is_coherent (expand_of job j segment log).2.job ≡ true
expand-coherent job coherent j segment log room = go (eq-or-ne (expand_refusal job j (length segment) (length log)) 0)
  where
    go : (expand_refusal job j (length segment) (length log) ≡ 0) ⊎ (expand_refusal job j (length segment) (length log) ≡ 0 → ⊥)
        → is_coherent (expand_of job j segment log).2.job ≡ true
    go (inl e) =
        let f = (expand-facts job j (length segment) (length log) e).0 in
        ap (λ (o : List ℕ × List ℕ × Expanded). is_coherent o.2.job) (expand-accepted job j segment log e)
        ∙ expanded-coherent job coherent j f.called.inside log segment f.long room
    go (inr ne) = ap (λ (o : List ℕ × List ℕ × Expanded). is_coherent o.2.job) (expand-refused job j segment log ne) ∙ coherent

-- what an Expand writes in the log area, accepted or refused
pub record Written (job : Job) (log : List ℕ) (out : List ℕ × List ℕ × Expanded) : Type 0 where
  pub long : length out.1 ≡ length log
  pub kept : segment_limit ≤ length job.waiting → (p : ℕ) → Untouched job out.2.job.waiting p → get_or out.1 p 0 ≡ get_or log p 0

pub expand-writes : (job : Job) (j : ℕ) (segment log : List ℕ) → Written job log (expand_of job j segment log)
unfolding expanded_job progressed recounted
expand-writes job j segment log = go (eq-or-ne (expand_refusal job j (length segment) (length log)) 0)
  where
    go : (expand_refusal job j (length segment) (length log) ≡ 0) ⊎ (expand_refusal job j (length segment) (length log) ≡ 0 → ⊥)
        → Written job log (expand_of job j segment log)
    go (inl e) =
        let f = (expand-facts job j (length segment) (length log) e).0 in
        let end = (end-fitting job f.called.coherent j f.called.inside log segment f.long).appending in
        subst (Written job log) (sym (expand-accepted job j segment log e)) (record { long = end.log-long; kept = end.kept })
    go (inr ne) = subst (Written job log) (sym (expand-refused job j segment log ne)) (record { long = refl; kept = λ wide p free. refl })

-- Begin gives a coherent job, and so does every call on a coherent job whose counts have room for the stacks at hand.
use mathlib.Core.Path.{◌≡◌, refl, sym, ap, ◌∙◌}
use mathlib.Core.Logic.{◌⊎◌, inl, inr}
use mathlib.Core.Bool.{Bool, true, false, not, cond}
use mathlib.Core.List.{List, [], ◌∷◌}
use Prim.Native.Nat.{ℕ, ◌+◌, ◌-◌, ◌*◌, ◌%◌, ◌≤◌, ◌<◌}
use native.Mathlib.Omega.{arith}
use lib.Arith.{digits_mod}
use lib.Dec.{leb, ltb, eqb}
use lib.ListN.{length, get_or, set}
use lib.Seq.{get_or-set_same, get_or-set_other, set_out}
use borrow.Author.Tests.{ltb-true, lt-ltb, leb-true, le-leb, eqb-false, eq-eqb, ne_eqb}
use Rattle.base.specs.Words.{all, tally, from}
use Rattle.base.proofs.Counting.{at_all, filter-from}
use Rattle.base.proofs.Lists.{from-length, get_or-from, replicate-zero}
use Rattle.base.proofs.Tests.{and_left, and_right, and_both, or_right, lt-or-ge, eq-or-ne}
use Rattle.graph.proofs.Tally.{tally-le, tally-one-more}
use Rattle.search.specs.Begin.{begun, begin_of}
use Rattle.search.specs.Blank.{blank_refusal, blank_of}
use Rattle.search.specs.Close.{is_past_last, close_refusal, next_phase, next_counts, closed, close_of}
use Rattle.search.specs.Entries.{entry_at, bytes_for}
use Rattle.search.specs.JobState.{last_level, count_places, count_limit, level_of, segment_count_of, stack_count_at, stack_count_of, passed_of, waiting_of, count_of, phase_fits, is_loaded, swept_of, loaded_fits, is_coherent, progressed, recounted, directed}
use Rattle.search.specs.Load.{load_refusal, load_of}
use Rattle.search.specs.Segments.{segment_limit, stack_count_in}
use Rattle.search.specs.Settle.{settle_refusal, settle_of}
use Rattle.search.specs.Sweep.{sweep_refusal, is_reached, reached_in, with_pair, sweep_of}
use Rattle.search.specs.Marks.{every_stack, found_one, Marks, mark_one, mark_all, found_at, with_found, marks_from, marked_job}
use Rattle.search.specs.Logs.{indexes_of, pending}
use Rattle.search.specs.Terms.{begin_refusal}
use Rattle.search.specs.Answers.{Answer}
use Rattle.search.specs.declared.Found.{Found}
use Rattle.search.specs.declared.Job.{Job}
use Rattle.search.specs.declared.Phase.{Phase}
use Rattle.search.specs.declared.Phase.TheVariants.{Blanking, Level, Finished}
use Rattle.search.specs.declared.Terms.{Terms}
use Rattle.search.specs.declared.Way.{Way}
use Rattle.search.proofs.Accepted.{SweepFacts, past-facts, close_facts, settle-facts, load-facts, sweep-facts, blank-accepted, blank-refused, settle-accepted, settle-refused, load-accepted, load-refused, sweep-accepted, sweep-refused, close-accepted, close-refused}
use Rattle.search.proofs.Coherence.{Coherent, coherent-facts, facts-coherent, begin-given}
use Rattle.search.proofs.Given as Given
use Rattle.search.proofs.PairLaws.{loaded-below, none-swept, pair_fits}
use Rattle.search.proofs.MarkLaws.{counted-le, mark-unseen, mark-seen, mark-length, mark-other, mark-new}

-- a number that is set stays within a bound that both it and the old one meet
pub set_fits : (xs : List ℕ) (j v i b : ℕ) → (i ≡ j → v ≤ b) → get_or xs i 0 ≤ b → get_or (set xs j v) i 0 ≤ b
set_fits xs j v i b new old = go (eq-or-ne i j) (lt-or-ge j (length xs))
  where
    go : (i ≡ j) ⊎ (i ≡ j → ⊥) → (j < length xs) ⊎ (length xs ≤ j) → get_or (set xs j v) i 0 ≤ b
    go (inl e) (inl h) = omega (arith, new e, ap (λ (k : ℕ). get_or (set xs j v) k 0) e, get_or-set_same xs j v 0 h)
    go (inl e) (inr h) = rw (set_out xs j v h) old
    go (inr ne) h = rw (get_or-set_other xs j i v 0 ne) old

one-fits : 1 ≤ count_limit
unfolding count_limit
one-fits = omega arith

-- ---- marks

-- how many of the first m entries are unseen
abbrev unseen_in : ℕ → List ℕ → ℕ
unseen_in m segment = tally (λ i. eqb (entry_at segment i) 3) (from 0 m)

-- what a level has found fits, with all that is still unseen
pub record Budget (m most : ℕ) (marks : Marks) : Type 0 where
  pub count : marks.found.count + unseen_in m marks.segment ≤ most

-- a mark adds at most one to a count, and only where it takes an unseen entry away
pub mark-budget : (terms : Terms) (d v m : ℕ) {most : ℕ} (marks : Marks) → v % terms.size < m → length marks.segment ≡ bytes_for m
    → Budget m most marks → Budget m most (mark_one terms d v marks)
unfolding found_one
mark-budget terms d v m {most} marks h long budget = go (eq-or-ne (entry_at marks.segment (v % terms.size)) 3)
  where
    go : (entry_at marks.segment (v % terms.size) ≡ 3) ⊎ (entry_at marks.segment (v % terms.size) ≡ 3 → ⊥) → Budget m most (mark_one terms d v marks)
    go (inl e) =
        let fewer =
        tally-one-more
        (λ u. eqb (entry_at (mark_one terms d v marks).segment u) 3)
        (λ u. eqb (entry_at marks.segment u) 3)
        m
        (v % terms.size)
        h
        (ne_eqb (entry_at (mark_one terms d v marks).segment (v % terms.size)) 3 (λ q. omega (arith, mark-new terms d v m marks h long e)))
        (eq-eqb (entry_at marks.segment (v % terms.size)) 3 e)
        (λ u l ne. ap (λ (x : ℕ). eqb x 3) (sym (mark-other terms d v marks u ne))) in
        let now : (mark_one terms d v marks).found ≡ found_one terms v marks.found = ap (λ (x : Marks). x.found) (mark-unseen terms d v marks e) in
        record { count = omega (arith, ap (λ (x : Found). x.count) now, counted-le (every_stack terms) v marks.found.count, fewer, budget.count) }
    go (inr ne) = rw (mark-seen terms d v marks ne) budget

all-budget : (terms : Terms) (d j m : ℕ) {most : ℕ} (offsets : List ℕ) (marks : Marks) → m ≤ terms.size → all (λ i. ltb i m) offsets ≡ true
    → length marks.segment ≡ bytes_for m → Budget m most marks → Budget m most (mark_all terms d (indexes_of terms.size j offsets) marks)
unfolding mark_all indexes_of all
all-budget terms d j m [] marks l h long budget = budget
all-budget terms d j m (i ∷ offsets) marks l h long budget =
    let v : ℕ = j * terms.size + i in
    let fits : i < m = ltb-true i m (and_left (ltb i m) (all (λ i. ltb i m) offsets) h) in
    let place : v % terms.size ≡ i = digits_mod j (let small : i < terms.size = omega arith in small) in
    all-budget terms d j m offsets (mark_one terms d v marks) l (and_right (ltb i m) (all (λ i. ltb i m) offsets) h) (mark-length terms d v marks ∙ long)
    (mark-budget terms d v m marks (rw place fits) long budget)

-- what a level has found fits in the job's counts
module _ (job : Job) (d m : ℕ) where
  -- with room for m stacks more, there is for those of a segment that are unseen
  pub start-budget : count_of job d + m ≤ count_limit → (segment : List ℕ) → Budget m count_limit (record { segment = segment; found = found_at job d })
  start-budget room segment = record { count = omega (arith, tally-le (λ i. eqb (entry_at segment i) 3) m) }

  pub found-fits : ((i : ℕ) → count_of job i ≤ count_limit) → {marks : Marks} → Budget m count_limit marks
      → (i : ℕ) → count_of (with_found job d marks.found) i ≤ count_limit
  unfolding count_of recounted
  found-fits fit {marks} budget i = set_fits job.counts d marks.found.count i count_limit (λ e. omega (arith, budget.count)) (fit i)

-- ---- Begin

begun-coherent : (terms : Terms) → begin_refusal terms ≡ 0 → is_coherent (begun terms) ≡ true
unfolding begun passed_of waiting_of swept_of count_of phase_fits loaded_fits is_loaded
begun-coherent terms h =
    facts-coherent (begun terms)
    (record {
      begins = h;
      phase-fits = refl;
      passed-fits = λ j l. omega (arith, replicate-zero segment_limit j);
      waiting-fits = λ j l. omega (arith, replicate-zero segment_limit j);
      counts-fit = λ d. omega (arith, replicate-zero count_places d);
      loaded-fits = refl;
      swept-fits = λ b l. none-swept (begun terms) (segment_count_of (begun terms)) (replicate-zero segment_limit) b;
    })

pub begin-coherent : (terms : Terms) → (begin_of terms).refusal ≡ 0
    → is_coherent (begin_of terms).job ≡ true
unfolding begin_of
begin-coherent terms h =
    rw (eq-eqb (begin_refusal terms) 0 h) (begun-coherent terms h)

module _ (job : Job) (coherent : is_coherent job ≡ true) where
  facts : Coherent job
  facts = coherent-facts job coherent

  -- ---- Blank

  blanked-coherent : (j : ℕ) → is_coherent (progressed job job.phase (set job.passed j (stack_count_at job j)) job.waiting) ≡ true
  unfolding progressed passed_of waiting_of swept_of count_of stack_count_at stack_count_of segment_count_of loaded_fits is_loaded
  blanked-coherent j =
      facts-coherent (progressed job job.phase (set job.passed j (stack_count_at job j)) job.waiting)
      (record {
        begins = facts.begins;
        phase-fits = facts.phase-fits;
        passed-fits = λ i l. set_fits job.passed j (stack_count_at job j) i (stack_count_at job i) (λ e. omega (arith, ap (stack_count_at job) e)) (facts.passed-fits i l);
        waiting-fits = facts.waiting-fits;
        counts-fit = facts.counts-fit;
        loaded-fits = facts.loaded-fits;
        swept-fits = facts.swept-fits;
      })

  pub blank-coherent : (j : ℕ) (segment : List ℕ) → is_coherent (blank_of job j segment).1.job ≡ true
  blank-coherent j segment = go (eq-or-ne (blank_refusal job j (length segment)) 0)
    where
      go : (blank_refusal job j (length segment) ≡ 0) ⊎ (blank_refusal job j (length segment) ≡ 0 → ⊥)
          → is_coherent (blank_of job j segment).1.job ≡ true
      go (inl e) = ap (λ (o : List ℕ × Answer). is_coherent o.1.job) (blank-accepted job j segment e) ∙ blanked-coherent j
      go (inr ne) = ap (λ (o : List ℕ × Answer). is_coherent o.1.job) (blank-refused job j segment ne) ∙ coherent

  -- ---- Close

  next_fits : (p : Phase) → phase_fits p ≡ true → (level_of p ≡ last_level → count_of job last_level ≡ 0) → phase_fits (next_phase job.counts p) ≡ true
  unfolding phase_fits next_phase level_of count_of
  next_fits Blanking h last = refl
  next_fits (Level d) h last =
      go (eqb (count_of job d) 0) refl
      (leb-true 1 d (and_left (leb 1 d) (leb d last_level) h))
      (leb-true d last_level (and_right (leb 1 d) (leb d last_level) h))
    where
      go : (t : Bool) → eqb (count_of job d) 0 ≡ t → 1 ≤ d → d ≤ last_level → phase_fits (cond t (Finished (d - 1)) (Level (d + 1))) ≡ true
      go true e low high = lt-ltb (d - 1) last_level (omega arith)
      go false e low high =
          let before : d ≡ last_level → ⊥ = λ q. eqb-false (count_of job d) 0 e (ap (count_of job) q ∙ last q) in
          and_both (leb 1 (d + 1)) (leb (d + 1) last_level) (le-leb 1 (d + 1) (omega arith)) (le-leb (d + 1) last_level (omega arith))
  next_fits (Finished d) h last = h

  next-counts : (p : Phase) (d : ℕ) → get_or (next_counts job.counts p) d 0 ≤ count_limit
  unfolding next_counts count_of
  next-counts Blanking d = set_fits job.counts 0 1 d count_limit (λ e. one-fits) (facts.counts-fit d)
  next-counts (Level l) d = facts.counts-fit d
  next-counts (Finished l) d = facts.counts-fit d

  closed-coherent : (way : Way) → is_past_last job ≡ false → is_coherent (closed job way) ≡ true
  unfolding closed progressed recounted directed passed_of waiting_of swept_of count_of segment_count_of stack_count_of loaded_fits is_loaded
  closed-coherent way unpast =
      facts-coherent (closed job way)
      (record {
        begins = facts.begins;
        phase-fits = next_fits job.phase facts.phase-fits (past-facts job unpast);
        passed-fits = λ j l. omega (arith, replicate-zero segment_limit j);
        waiting-fits = facts.waiting-fits;
        counts-fit = next-counts job.phase;
        loaded-fits = refl;
        swept-fits = λ b l. none-swept (closed job way) (segment_count_of (closed job way)) (replicate-zero segment_limit) b;
      })

  pub close-coherent : (way : Way) → is_coherent (close_of job way).job ≡ true
  close-coherent way = go (eq-or-ne (close_refusal job) 0)
    where
      go : (close_refusal job ≡ 0) ⊎ (close_refusal job ≡ 0 → ⊥) → is_coherent (close_of job way).job ≡ true
      go (inl e) = ap (λ (o : Answer). is_coherent o.job) (close-accepted job way e) ∙ closed-coherent way (close_facts job e).fits
      go (inr ne) = ap (λ (o : Answer). is_coherent o.job) (close-refused job way ne) ∙ coherent

  -- ---- Load

  loaded-coherent : (b : ℕ) → b < segment_count_of job → is_coherent (directed job job.way b job.swept) ≡ true
  unfolding directed passed_of waiting_of swept_of count_of stack_count_at stack_count_of segment_count_of loaded_fits
  loaded-coherent b l =
      facts-coherent (directed job job.way b job.swept)
      (record {
        begins = facts.begins;
        phase-fits = facts.phase-fits;
        passed-fits = facts.passed-fits;
        waiting-fits = facts.waiting-fits;
        counts-fit = facts.counts-fit;
        loaded-fits = or_right (not (is_loaded (directed job job.way b job.swept))) (ltb b (segment_count_of job)) (lt-ltb b (segment_count_of job) l);
        swept-fits = facts.swept-fits;
      })

  pub load-coherent : (b : ℕ) (segment list : List ℕ) → is_coherent (load_of job b segment list).1.job ≡ true
  load-coherent b segment list = go (eq-or-ne (load_refusal job b (length segment) (length list)) 0)
    where
      go : (load_refusal job b (length segment) (length list) ≡ 0) ⊎ (load_refusal job b (length segment) (length list) ≡ 0 → ⊥)
          → is_coherent (load_of job b segment list).1.job ≡ true
      go (inl e) =
          ap (λ (o : List ℕ × Answer). is_coherent o.1.job) (load-accepted job b segment list e)
          ∙ loaded-coherent b (load-facts job b (length segment) (length list) e).called.inside
      go (inr ne) = ap (λ (o : List ℕ × Answer). is_coherent o.1.job) (load-refused job b segment list ne) ∙ coherent

  -- ---- Settle

  module _ (j : ℕ) (segment log : List ℕ) (room : count_of job (level_of job.phase) + stack_count_at job j ≤ count_limit) where
    abbrev marked : Marks
    marked = mark_all job.terms (level_of job.phase) (indexes_of job.terms.size j (pending job j log)) (marks_from job segment)

    settled-budget : settle_refusal job j (length segment) log ≡ 0 → Budget (stack_count_at job j) count_limit marked
    unfolding stack_count_at stack_count_in
    settled-budget h =
        let f = settle-facts job j (length segment) log h in
        all-budget job.terms (level_of job.phase) j (stack_count_at job j) (pending job j log) (marks_from job segment)
        (let l : stack_count_at job j ≤ job.terms.size = omega arith in l) f.1 f.0.long
        (start-budget job (level_of job.phase) (stack_count_at job j) room segment)

    settled-coherent : settle_refusal job j (length segment) log ≡ 0
        → is_coherent (marked_job job job.passed (set job.waiting j 0) marked) ≡ true
    unfolding progressed recounted passed_of waiting_of swept_of count_of stack_count_at stack_count_of segment_count_of loaded_fits is_loaded
    settled-coherent h =
        facts-coherent (marked_job job job.passed (set job.waiting j 0) marked)
        (record {
          begins = facts.begins;
          phase-fits = facts.phase-fits;
          passed-fits = facts.passed-fits;
          waiting-fits = λ i l. set_fits job.waiting j 0 i (cond (ltb i (segment_count_of job)) job.terms.room 0) (λ e. omega arith) (facts.waiting-fits i l);
          counts-fit = found-fits job (level_of job.phase) (stack_count_at job j) facts.counts-fit (settled-budget h);
          loaded-fits = facts.loaded-fits;
          swept-fits = facts.swept-fits;
        })

    pub settle-coherent : is_coherent (settle_of job j segment log).1.job ≡ true
    settle-coherent = go (eq-or-ne (settle_refusal job j (length segment) log) 0)
      where
        go : (settle_refusal job j (length segment) log ≡ 0) ⊎ (settle_refusal job j (length segment) log ≡ 0 → ⊥)
            → is_coherent (settle_of job j segment log).1.job ≡ true
        go (inl e) = ap (λ (o : List ℕ × Answer). is_coherent o.1.job) (settle-accepted job j segment log e) ∙ settled-coherent e
        go (inr ne) = ap (λ (o : List ℕ × Answer). is_coherent o.1.job) (settle-refused job j segment log ne) ∙ coherent

  -- ---- Sweep

  module _ (j : ℕ) (segment list : List ℕ) (room : count_of job (level_of job.phase) + stack_count_at job j ≤ count_limit) where
    abbrev found : Marks
    found = mark_all job.terms (level_of job.phase) (indexes_of job.terms.size j (reached_in job j list)) (marks_from job segment)

    -- what is reached is an offset of the segment
    reached-below : all (λ i. ltb i (stack_count_at job j)) (reached_in job j list) ≡ true
    unfolding reached_in
    reached-below =
        at_all (λ i. ltb i (stack_count_at job j)) (reached_in job j list) 0
        (λ k l.
        let r = filter-from (λ i. is_reached job list (j * job.terms.size + i)) 0 (from 0 (stack_count_at job j)) k l in
        lt-ltb (get_or (reached_in job j list) k 0) (stack_count_at job j)
        (omega (arith, r.1, r.3, from-length 0 (stack_count_at job j), get_or-from 0 (stack_count_at job j) r.0 0 (omega (arith, r.1, from-length 0 (stack_count_at job j))))))

    found-budget : length segment ≡ bytes_for (stack_count_at job j) → Budget (stack_count_at job j) count_limit found
    unfolding stack_count_at stack_count_in
    found-budget long =
        all-budget job.terms (level_of job.phase) j (stack_count_at job j) (reached_in job j list) (marks_from job segment)
        (let l : stack_count_at job j ≤ job.terms.size = omega arith in l) reached-below long
        (start-budget job (level_of job.phase) (stack_count_at job j) room segment)

    abbrev after : Job
    after = directed (marked_job job job.passed job.waiting found) job.way job.loaded (with_pair job j)

    swept-coherent : SweepFacts job j (length segment) (length list) → is_coherent after ≡ true
    unfolding progressed recounted directed passed_of waiting_of swept_of count_of stack_count_at stack_count_of segment_count_of loaded_fits is_loaded
    swept-coherent f =
        facts-coherent after
        (record {
          begins = facts.begins;
          phase-fits = facts.phase-fits;
          passed-fits = facts.passed-fits;
          waiting-fits = facts.waiting-fits;
          counts-fit = found-fits job (level_of job.phase) (stack_count_at job j) facts.counts-fit (found-budget f.long);
          loaded-fits = facts.loaded-fits;
          swept-fits = λ b l. pair_fits job j f.left after refl (segment_count_of job) low f.called.inside
              (facts.swept-fits job.loaded (omega (arith, low, few)))
              b
              (facts.swept-fits b l);
        })
      where
        low : job.loaded < segment_count_of job
        low = loaded-below job facts.loaded-fits f.loaded

        few : segment_count_of job ≤ segment_limit
        few = Given.few (begin-given facts.begins)

    pub sweep-coherent : is_coherent (sweep_of job j segment list).1.job ≡ true
    sweep-coherent = go (eq-or-ne (sweep_refusal job j (length segment) (length list)) 0)
      where
        go : (sweep_refusal job j (length segment) (length list) ≡ 0) ⊎ (sweep_refusal job j (length segment) (length list) ≡ 0 → ⊥)
            → is_coherent (sweep_of job j segment list).1.job ≡ true
        go (inl e) =
            ap (λ (o : List ℕ × Answer). is_coherent o.1.job) (sweep-accepted job j segment list e)
            ∙ swept-coherent (sweep-facts job j (length segment) (length list) e)
        go (inr ne) = ap (λ (o : List ℕ × Answer). is_coherent o.1.job) (sweep-refused job j segment list ne) ∙ coherent

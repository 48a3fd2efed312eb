-- Coherent jobs: what coherence says, and that it asks of its terms what Begin asks.
use mathlib.Core.Path.{◌≡◌, refl}
use mathlib.Core.Logic.{◌⊎◌, inl, inr, ◌↔◌}
use mathlib.Core.Bool.{true, ◌&&◌, cond}
use Prim.Native.Nat.{ℕ, ◌^◌, ◌≤◌, ◌<◌}
use native.Mathlib.Omega.{arith}
use lib.Dec.{leb, ltb, eqb}
use lib.ListN.{length, get_or, get_or-eq_default}
use borrow.Author.Tests.{leb-true, le-leb, ltb-true, lt-ltb, eqb-true, eq-eqb}
use Rattle.base.specs.Words.{all, from}
use Rattle.base.proofs.Counting.{all-at, at_all, all-below, below_all}
use Rattle.base.proofs.Rows.{row_ends, check, asking, ◌and_then◌}
use Rattle.base.proofs.Tests.{and_left, and_right, and_both, lt-or-ge}
use Rattle.stacks.specs.Turn.{is_group_set}
use Rattle.stacks.proofs.Refusals.{stack-row}
use Rattle.search.specs.JobState.{count_limit, segment_count_of, stack_count_at, passed_of, waiting_of, count_of, phase_fits, segment_fits, count_in_limit, counts_fit, is_coherent, swept_of, swept_fits, loaded_fits}
use Rattle.search.specs.Segments.{segment_limit, is_segment_size, is_log_room}
use Rattle.search.specs.Terms.{N, begin_refusal}
use Rattle.search.specs.declared.Job.{Job}
use Rattle.search.specs.declared.Terms.{Terms}
use Rattle.search.proofs.Given.{Given}

-- ---- what an accepted Begin was given

begin-row : (terms : Terms) → (begin_refusal terms ≡ 0) ↔ Given terms
unfolding begin_refusal
begin-row terms =
    row_ends
    (asking
    (stack-row terms.kind terms.n terms.wanted
    and_then check (is_group_set terms.kind terms.n terms.groups) 21 refl
    and_then check (is_segment_size (N terms) terms.size) 5 refl
    and_then check (is_log_room terms.room) 6 refl)
    (λ f. record { is-kind = f.0.0.0; in-range = f.0.0.1; stack = f.0.1; of-set = f.1.0; segments = f.1.1.0; room = f.1.1.1 })
    (λ g. (((g.is-kind, g.in-range), g.stack), (g.of-set, (g.segments, g.room)))))

pub begin-given : {terms : Terms} → begin_refusal terms ≡ 0 → Given terms
begin-given {terms} = (begin-row terms).0

pub given-begin : (terms : Terms) → Given terms → begin_refusal terms ≡ 0
given-begin terms = (begin-row terms).1

-- ---- coherence

pub record Coherent (job : Job) : Type 0 where
  pub begins : begin_refusal job.terms ≡ 0
  pub phase-fits : phase_fits job.phase ≡ true
  pub passed-fits : (j : ℕ) → j < segment_limit → passed_of job j ≤ stack_count_at job j
  pub waiting-fits : (j : ℕ) → j < segment_limit → waiting_of job j ≤ cond (ltb j (segment_count_of job)) job.terms.room 0
  pub counts-fit : (d : ℕ) → count_of job d ≤ count_limit
  pub loaded-fits : loaded_fits job ≡ true
  pub swept-fits : (b : ℕ) → b < segment_limit → swept_of job b < cond (ltb b (segment_count_of job)) (2 ^ segment_count_of job) 1

module _ (job : Job) where
  pub coherent-facts : is_coherent job ≡ true → Coherent job
  unfolding is_coherent segment_fits count_in_limit counts_fit count_of swept_fits
  coherent-facts h =
      let begins = eqb (begin_refusal job.terms) 0 in
      let phase = phase_fits job.phase in
      let segments = all (segment_fits job) (from 0 segment_limit) in
      let counts = counts_fit job in
      let swept = all (swept_fits job) (from 0 segment_limit) in
      let five = and_left (begins && phase && segments && counts && loaded_fits job) swept h in
      let four = and_left (begins && phase && segments && counts) (loaded_fits job) five in
      let three = and_left (begins && phase && segments) counts four in
      let two = and_left (begins && phase) segments three in
      let each : (j : ℕ) → j < segment_limit → segment_fits job j ≡ true =
      λ j l. all-below (segment_fits job) segment_limit j (and_right (begins && phase) segments three) l in
      record {
        begins = eqb-true (begin_refusal job.terms) 0 (and_left begins phase two);
        phase-fits = and_right begins phase two;
        passed-fits = λ j l. leb-true (passed_of job j) (stack_count_at job j)
            (and_left (leb (passed_of job j) (stack_count_at job j)) (leb (waiting_of job j) (cond (ltb j (segment_count_of job)) job.terms.room 0)) (each j l));
        waiting-fits = λ j l. leb-true (waiting_of job j) (cond (ltb j (segment_count_of job)) job.terms.room 0)
            (and_right (leb (passed_of job j) (stack_count_at job j)) (leb (waiting_of job j) (cond (ltb j (segment_count_of job)) job.terms.room 0)) (each j l));
        counts-fit = λ d. go d (and_right (begins && phase && segments) counts four) (lt-or-ge d (length job.counts));
        loaded-fits = and_right (begins && phase && segments && counts) (loaded_fits job) five;
        swept-fits = λ b l. ltb-true (swept_of job b) (cond (ltb b (segment_count_of job)) (2 ^ segment_count_of job) 1)
            (all-below (swept_fits job) segment_limit b (and_right (begins && phase && segments && counts && loaded_fits job) swept h) l);
      }
    where
      go : (d : ℕ) → all count_in_limit job.counts ≡ true → (d < length job.counts) ⊎ (length job.counts ≤ d) → get_or job.counts d 0 ≤ count_limit
      go d h (inl l) = leb-true (get_or job.counts d 0) count_limit (all-at count_in_limit job.counts d 0 h l)
      go d h (inr l) = rw (get_or-eq_default job.counts 0 l) (omega arith)

  pub facts-coherent : Coherent job → is_coherent job ≡ true
  unfolding is_coherent segment_fits count_in_limit counts_fit count_of swept_fits
  facts-coherent c =
      let begins = eqb (begin_refusal job.terms) 0 in
      let phase = phase_fits job.phase in
      let segments = all (segment_fits job) (from 0 segment_limit) in
      let counts = counts_fit job in
      let swept = all (swept_fits job) (from 0 segment_limit) in
      and_both (begins && phase && segments && counts && loaded_fits job) swept
      (and_both (begins && phase && segments && counts) (loaded_fits job)
      (and_both (begins && phase && segments) counts
      (and_both (begins && phase) segments
      (and_both begins phase (eq-eqb (begin_refusal job.terms) 0 c.begins) c.phase-fits)
      (below_all (segment_fits job) segment_limit
      (λ j l. and_both (leb (passed_of job j) (stack_count_at job j)) (leb (waiting_of job j) (cond (ltb j (segment_count_of job)) job.terms.room 0))
      (le-leb (passed_of job j) (stack_count_at job j) (c.passed-fits j l))
      (le-leb (waiting_of job j) (cond (ltb j (segment_count_of job)) job.terms.room 0) (c.waiting-fits j l)))))
      (at_all count_in_limit job.counts 0 (λ d l. le-leb (get_or job.counts d 0) count_limit (c.counts-fit d))))
      c.loaded-fits)
      (below_all (swept_fits job) segment_limit
      (λ b l. lt-ltb (swept_of job b) (cond (ltb b (segment_count_of job)) (2 ^ segment_count_of job) 1) (c.swept-fits b l)))

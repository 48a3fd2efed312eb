-- Marking by a log, step by step, and what an accepted Settle was given and leaves.
use mathlib.Core.Path.{◌≡◌, sym, ap, ◌∙◌, subst}
use mathlib.Core.List.{List}
use mathlib.Core.Bool.{true}
use Prim.Native.Nat.{ℕ, ◌+◌, ◌-◌, ◌*◌, ◌%◌, ◌^◌, ◌≤◌, ◌<◌}
use native.Mathlib.Numerals.{add-one}
use native.Mathlib.Omega.{arith}
use borrow.Author.Tests.{ltb-true}
use lib.Dec.{ltb}
use lib.ListN.{length, get_or, set, drop, drop_of_length-le}
use lib.Seq.{drop-cons}
use Rattle.base.proofs.Counting.{all-at}
use Rattle.stacks.proofs.KindLaws.{count_fits}
use Rattle.stacks.specs.Refusals.{number}
use Rattle.stacks.specs.declared.refusal.Refusal.{Refusal}
use Rattle.stacks.proofs.Numbers.{number-some}
use Rattle.search.specs.Entries.{next_entry}
use Rattle.search.specs.JobState.{count_limit, is_coherent, level_of, log_length, stack_count_of, segment_count_of, stack_count_at, waiting_of, progressed, recounted}
use Rattle.search.specs.Settle.{settle_refusal, settle_of}
use Rattle.search.specs.Marks.{Marks, mark_one, mark_all, found_at, marked_job}
use Rattle.search.specs.Logs.{indexes_of, pending}
use Rattle.search.specs.Segments.{segment_limit}
use Rattle.search.specs.declared.Job.{Job}
use Rattle.search.specs.declared.Terms.{Terms}
use Rattle.search.proofs.Accepted.{LevelFacts, settle-facts, settle-accepted, settle-refused}
use Rattle.search.proofs.EntryLaws.{byte_inside, next-lt, next_level}
use Rattle.search.proofs.SegmentLaws.{segment-starts, segment-stack, stack_count_in-le}
use Rattle.search.proofs.SegmentLaws as segments
use Rattle.twobit.specs.Mark.{AtMost, marks_of}
use Rattle.search.specs.declared.Found.{Found}
use Rattle.twobit.proofs.LeafMarks.{marks-level}
use Rattle.job.proofs.Bounds.{Bounds, coherent-bounds, coherent-found, forward-least, segment-below, waiting-le, part-within}
use Rattle.calls.specs.Lent.{OffsetsFit}

-- ---- marking

module _ (terms : Terms) (j label : ℕ) (offsets : List ℕ) (i : ℕ) (marks : Marks) where
  abbrev S : ℕ
  S = terms.size

  pub marks-on : i < length offsets
      → mark_all terms label (indexes_of S j (drop i offsets)) marks
      ≡ mark_all terms label (indexes_of S j (drop (i + 1) offsets)) (mark_one terms label (j * S + get_or offsets i 0) marks)
  unfolding mark_all indexes_of
  marks-on h = rw (drop-cons offsets i 0 h, add-one)

  pub marks-end : length offsets ≤ i → mark_all terms label (indexes_of S j (drop i offsets)) marks ≡ marks
  unfolding mark_all indexes_of
  marks-end h = rw (drop_of_length-le offsets h)

-- ---- Settle, refused and accepted

module _ (job : Job) (j : ℕ) (segment log : List ℕ) where
  pub settle_errs : (r : Refusal) → number r ≡ settle_refusal job j (length segment) log
      → settle_of job j segment log ≡ (segment, record { refusal = number r; job = job })
  settle_errs r e = rw e (settle-refused job j segment log (λ z. number-some r (e ∙ z)))

  module _ (h : 0 ≡ settle_refusal job j (length segment) log) where
    facts : LevelFacts job j (length segment) (length log)
    facts = (settle-facts job j (length segment) log (sym h)).0

    pub settle_coherent : is_coherent job ≡ true
    settle_coherent = facts.called.coherent

    pub settle_inside : j < segment_count_of job
    settle_inside = facts.called.inside

    pub settle_below : j < segment_limit
    settle_below = segment-below job settle_coherent j settle_inside

    pub settle_wide : length log ≡ log_length job
    settle_wide = facts.wide

    pub settle_level : 1 ≤ level_of job.phase
    settle_level = forward-least job settle_coherent facts.called.in-phase

    bounds : Bounds job
    bounds = coherent-bounds job settle_coherent

    module _ (offsets : List ℕ) (e : offsets ≡ pending job j log) (level label : ℕ) (found : Found)
        (v : label ≡ next_entry ((level - 1) % 3)) (f : found ≡ found_at job level) where
      offsets-long : length offsets ≡ waiting_of job j
      unfolding pending
      offsets-long =
          ap length e
          ∙ segments.log_length job.terms.room j (waiting_of job j) log (rw settle_wide (part-within job settle_coherent j settle_inside))

      offset-fits : (k : ℕ) → k < length offsets → get_or offsets k 0 < stack_count_at job j
      offset-fits k i =
          ltb-true (get_or offsets k 0) (stack_count_at job j)
          (all-at (λ i. ltb i (stack_count_at job j)) offsets k 0 (rw e (settle-facts job j (length segment) log (sym h)).1) i)

      -- what marking at the offsets asks for
      pub settle_fits : OffsetsFit job.terms.size j label offsets found segment
      unfolding stack_count_at stack_count_of segment_count_of
      settle_fits =
          let N = stack_count_of job in
          let all : N < 2 ^ 32 = count_fits job.terms.kind job.terms.n bounds.is_pane_count in
          record {
            below = rw v (next-lt ((level - 1) % 3));
            starts = omega (arith, segment-starts N job.terms.size bounds.some j settle_inside);
            small = λ k i. omega (arith, segment-stack N job.terms.size bounds.some j (get_or offsets k 0) (offset-fits k i));
            own = λ k i. omega (arith, offset-fits k i, stack_count_in-le N job.terms.size bounds.some j);
            inside = λ k i. rw facts.long (byte_inside (get_or offsets k 0) (stack_count_at job j) (offset-fits k i));
            short = omega (arith, offsets-long, waiting-le job settle_coherent j settle_inside, bounds.narrow);
            few = subst (λ (x : Found). AtMost x count_limit) (sym f) (coherent-found job settle_coherent level);
          }

      -- what the code leaves is what the definition says
      pub settle_oks : (marked : Found) (after counts : List ℕ) → level ≡ level_of job.phase
          → marks_of after marked ≡ mark_all job.terms label (indexes_of job.terms.size j offsets) (marks_of segment found)
          → counts ≡ set job.counts level marked.count
          → (after, record { refusal = 0; job = progressed (recounted job counts) job.phase job.passed (set job.waiting j 0) })
          ≡ settle_of job j segment log
      settle_oks marked after counts l m n =
          let t = job.terms in
          let S = t.size in
          let stacks = indexes_of S j offsets in
          let start : ℕ → Marks = λ d. record { segment = segment; found = found_at job d } in
          let marks : marks_of after marked ≡ mark_all t (level_of job.phase) (indexes_of S j (pending job j log)) (start (level_of job.phase)) =
          m
          ∙ ap (λ (x : Found). mark_all t label stacks (record { segment = segment; found = x })) f
          ∙ ap (λ (x : ℕ). mark_all t x stacks (start level)) (v ∙ next_level level (rw l settle_level))
          ∙ marks-level t level stacks (start level)
          ∙ ap (λ (o : List ℕ). mark_all t level (indexes_of S j o) (start level)) e
          ∙ ap (λ (x : ℕ). mark_all t x (indexes_of S j (pending job j log)) (start x)) l in
          ap (λ (x : List ℕ). (after, record { refusal = 0; job = progressed (recounted job x) job.phase job.passed (set job.waiting j 0) }))
          (n ∙ ap (λ (d : ℕ). set job.counts d marked.count) l)
          ∙ ap (λ (x : Marks). (x.segment, record { refusal = 0; job = marked_job job job.passed (set job.waiting j 0) x })) marks
          ∙ sym (settle-accepted job j segment log (sym h))

pub ruleset settle_rows = (settle_errs, settle_coherent, settle_inside, settle_below, settle_wide, settle_level)

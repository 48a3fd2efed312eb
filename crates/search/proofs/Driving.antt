-- Build the whole table: each call that the driver chooses carries the build on, so that the driver comes to an end.
use mathlib.Core.Path.{◌≡◌, refl, sym, ap, ◌∙◌, subst}
use mathlib.Core.Logic.{◌⊎◌, inl, inr}
use mathlib.Core.Bool.{Bool, true, false, not, ◌&&◌, ◌||◌, cond}
use mathlib.Core.List.{List, [], ◌++◌}
use Prim.Native.Nat.{ℕ, zero, suc, ◌≤◌, ◌<◌}
use native.Mathlib.Omega.{arith}
use lib.Dec.{ltb, eqb}
use lib.ListN.{length, get_or, take, drop, length-append, length-take, length-drop}
use lib.Seq.{length-take-le, take_at}
use borrow.Author.Tests.{ltb-true, ltb-false, lt-ltb, le-ltb, ne_eqb, not-true, not-false}
use Rattle.base.proofs.Counting.{below_all}
use Rattle.base.proofs.Radix.{digits-less}
use Rattle.base.proofs.Tests.{and-fails-left, and-fails-right, or_right, test-cases, never, lt-or-ge, eq-or-ne}
use Rattle.search.specs.Build.{World, with_changed, Lengths, Call, own, own_list, do_blank, do_expand, do_settle, do_look, do_load, do_sweep, do_close, outcome, Outcome, lent, kept, is_load_due}
use Rattle.search.specs.Changed.{list_bytes, bit_at}
use Rattle.search.specs.Close.{is_swept_whole}
use Rattle.search.specs.Drive.{is_open, is_pending, is_unswept, first_open, first_pending, first_unswept, first_pair, way_after, list_bytes_at, next_blank, next_forward, next_load, next_reverse, next_call, Store, held, laid, advanced, has_ended, drive, most_calls}
use Rattle.search.specs.Entries.{bytes_for, entry_at}
use Rattle.search.specs.Expand.{is_parent}
use Rattle.search.specs.JobState.{is_blanking, is_finished, is_reverse, in_reverse, level_of, last_level, segment_count_of, stack_count_at, passed_of, waiting_of, is_loaded, is_swept, swept_of, directed}
use Rattle.search.specs.Load.{changed_of, load_refusal, load_of}
use Rattle.search.specs.Promise.{right_lengths}
use Rattle.search.specs.Segments.{segment_count, stack_count_in}
use Rattle.search.specs.Terms.{N, G, m}
use Rattle.search.specs.Answers.{Answer}
use Rattle.search.specs.declared.Job.{Job}
use Rattle.search.specs.declared.Phase.{Phase}
use Rattle.search.specs.declared.Phase.TheVariants.{Blanking, Level, Finished}
use Rattle.search.specs.declared.Terms.{Terms}
use Rattle.search.proofs.Accepted.{load-accepted, load-refused}
use Rattle.search.proofs.Advancing.{Advances, advances, on-unfinished, close-advances, all-ready, blanks-forward, blank-advances, search-forward, settle-advances, expand-advances, search-reverse, load-advances, sweep-advances, swept-ready, pair_left}
use Rattle.search.proofs.ChangedLaws.{list_length}
use Rattle.search.proofs.CutLaws.{cut-joined}
use Rattle.search.proofs.ExpandCases.{first-before, first_passes}
use Rattle.search.proofs.Invariant.{Shaped, Blanks, Searches, Invariant, InPhase, blanking, searching, ended}
use Rattle.search.proofs.SegmentLaws.{segment-size-facts, Segmented, joined_length}
use Rattle.search.proofs.Shapes.{size_is, count-is, segments-is, stacks-is, shaped-segmented}
use Rattle.search.proofs.Staging.{redirected}
use Rattle.search.proofs.Steps.{step_keeps}
use Rattle.search.proofs.WorkLeft.{work_left, levels_left, phase_left, phase_most, phase-less}
use Rattle.search.proofs.Given.{Given}

-- ---- the driver's choice, case by case

module _ {right : Lengths} (job : Job) (list : List ℕ) where
  module _ (blanking : is_blanking job.phase ≡ true) where
    pub next-blank : first_open job < segment_count_of job → next_call {right = right} job list ≡ do_blank (first_open job) own
    unfolding next_call next_blank
    next-blank h = rw (blanking, lt-ltb (first_open job) (segment_count_of job) h)

    pub next_level : segment_count_of job ≤ first_open job → next_call {right = right} job list ≡ do_close (way_after job)
    unfolding next_call next_blank
    next_level h = rw (blanking, le-ltb (first_open job) (segment_count_of job) h)

  module _ (blanked : is_blanking job.phase ≡ false) where
    module _ (forward : in_reverse job ≡ false) where
      pub next-settle : first_pending job < segment_count_of job → next_call {right = right} job list ≡ do_settle (first_pending job) own own
      unfolding next_call next_forward
      next-settle h = rw (blanked, forward, lt-ltb (first_pending job) (segment_count_of job) h)

      pub next-expand : segment_count_of job ≤ first_pending job → first_open job < segment_count_of job
          → next_call {right = right} job list ≡ do_expand (first_open job) own own
      unfolding next_call next_forward
      next-expand h l = rw (blanked, forward, le-ltb (first_pending job) (segment_count_of job) h, lt-ltb (first_open job) (segment_count_of job) l)

      pub next-close : segment_count_of job ≤ first_pending job → segment_count_of job ≤ first_open job
          → next_call {right = right} job list ≡ do_close (way_after job)
      unfolding next_call next_forward
      next-close h l = rw (blanked, forward, le-ltb (first_pending job) (segment_count_of job) h, le-ltb (first_open job) (segment_count_of job) l)

    module _ (reverse : in_reverse job ≡ true) where
      pub next-sweep : is_loaded job ≡ true → first_pair job < segment_count_of job → next_call {right = right} job list ≡ do_sweep (first_pair job) own own_list
      unfolding next_call next_reverse
      next-sweep l h = rw (blanked, reverse, l, lt-ltb (first_pair job) (segment_count_of job) h)

      -- nothing is left of the loaded segment, or none is loaded
      module _ (none : (is_loaded job && ltb (first_pair job) (segment_count_of job)) ≡ false) where
        pub next-load : first_unswept job < segment_count_of job
            → next_call {right = right} job list ≡ do_load (first_unswept job) own (take (list_bytes_at job (first_unswept job)) list)
        unfolding next_call next_reverse next_load
        next-load h = rw (blanked, reverse, none, lt-ltb (first_unswept job) (segment_count_of job) h)

        pub next-done : segment_count_of job ≤ first_unswept job → next_call {right = right} job list ≡ do_close (way_after job)
        unfolding next_call next_reverse next_load
        next-done h = rw (blanked, reverse, none, le-ltb (first_unswept job) (segment_count_of job) h)

-- ---- it carries the build on

module _ {terms : Terms} (given : Given terms) {w : World} (invariant : Invariant terms w) (list : List ℕ) (wide : length list ≡ list_bytes (m terms 0)) where
  G-is : segment_count_of w.job ≡ G terms
  G-is = segments-is invariant.shaped

  -- the first open segment has stacks left, and where there is none all segments are passed; so with logs
  open-left : first_open w.job < segment_count_of w.job → passed_of w.job (first_open w.job) < m terms (first_open w.job)
  unfolding first_open is_open
  open-left h =
      let j = first_open w.job in
      omega (
        arith,
        ltb-true (passed_of w.job j) (stack_count_at w.job j) (first_passes (is_open w.job) 0 (segment_count_of w.job) (omega arith)),
        stacks-is invariant.shaped j,
      )

  open_none : segment_count_of w.job ≤ first_open w.job → (j : ℕ) → j < G terms
      → m terms j ≤ passed_of w.job j
  unfolding first_open is_open
  open_none h j l =
      omega (
        arith,
        ltb-false (passed_of w.job j) (stack_count_at w.job j)
            (first-before (is_open w.job) 0 (segment_count_of w.job) j (omega arith) (omega (arith, G-is))),
        stacks-is invariant.shaped j,
      )

  pending-some : first_pending w.job < segment_count_of w.job → 0 < waiting_of w.job (first_pending w.job)
  unfolding first_pending is_pending
  pending-some h =
      ltb-true 0 (waiting_of w.job (first_pending w.job))
      (first_passes (is_pending w.job) 0 (segment_count_of w.job) (omega arith))

  pending-none : segment_count_of w.job ≤ first_pending w.job → (j : ℕ) → j < G terms → waiting_of w.job j ≡ 0
  unfolding first_pending is_pending
  pending-none h j l =
      omega (
        arith,
        ltb-false 0 (waiting_of w.job j)
            (first-before (is_pending w.job) 0 (segment_count_of w.job) j (omega arith) (omega (arith, G-is))),
      )

  unswept-some : first_unswept w.job < segment_count_of w.job → is_swept_whole w.job (first_unswept w.job) ≡ false
  unfolding first_unswept is_unswept
  unswept-some h =
      not-true (is_swept_whole w.job (first_unswept w.job)) (first_passes (is_unswept w.job) 0 (segment_count_of w.job) (omega arith))

  unswept-none : segment_count_of w.job ≤ first_unswept w.job → (b : ℕ) → b < G terms → is_swept_whole w.job b ≡ true
  unfolding first_unswept is_unswept
  unswept-none h b l =
      not-false (is_swept_whole w.job b) (first-before (is_unswept w.job) 0 (segment_count_of w.job) b (omega arith) (omega (arith, G-is)))

  pair-some : first_pair w.job < segment_count_of w.job → is_swept w.job w.job.loaded (first_pair w.job) ≡ false
  unfolding first_pair
  pair-some h =
      not-true (is_swept w.job w.job.loaded (first_pair w.job))
      (first_passes (λ j. not (is_swept w.job w.job.loaded j)) 0 (segment_count_of w.job) (omega arith))

  pair-none : segment_count_of w.job ≤ first_pair w.job → is_swept_whole w.job w.job.loaded ≡ true
  unfolding first_pair is_swept_whole
  pair-none h =
      below_all (is_swept w.job w.job.loaded) (segment_count_of w.job)
      (λ j l. not-false (is_swept w.job w.job.loaded j)
      (first-before (λ j. not (is_swept w.job w.job.loaded j)) 0 (segment_count_of w.job) j (omega arith) (omega arith)))

  -- the list has room for that of every segment
  list-fits : (b : ℕ) → length (take (list_bytes_at w.job b) list) ≡ list_bytes (m terms b)
  unfolding list_bytes_at list_bytes stack_count_in
  list-fits b =
      length-take-le (list_bytes_at w.job b) list (omega (arith, wide, ap list_bytes (stacks-is invariant.shaped b)))
      ∙ ap list_bytes (stacks-is invariant.shaped b)

  -- the call that the driver makes, and that it advances
  pub Nexts : Type 0
  Nexts = (a : Advances given invariant) × (a.next.call ≡ next_call w.job list)

  blanks-next : has_ended w.job ≡ false → Blanks terms w → Nexts
  unfolding Nexts blank-advances close-advances advances is_blanking level_of
  blanks-next on blanks = go (lt-or-ge (first_open w.job) (segment_count_of w.job))
    where
      blanking : is_blanking w.job.phase ≡ true
      blanking = ap is_blanking blanks.phase_is

      go : (first_open w.job < segment_count_of w.job) ⊎ (segment_count_of w.job ≤ first_open w.job) → Nexts
      go (inl h) =
          let j = first_open w.job in
          (blank-advances given invariant blanks j (omega (arith, G-is)) (open-left h), sym (next-blank w.job list blanking h))
      go (inr h) = (
        close-advances given invariant (way_after w.job)
            (all-ready given invariant (blanks-forward given invariant blanks) (open_none h) (λ j l. blanks.none-waits j))
            on
            (omega (arith, ap level_of blanks.phase_is)),
        sym (next_level w.job list blanking h),
      )

  forward-next : has_ended w.job ≡ false → {d : ℕ} → Searches terms w d → is_reverse w.job.way ≡ false → Nexts
  unfolding Nexts settle-advances expand-advances close-advances advances is_blanking level_of
  forward-next on search forward = logs (lt-or-ge (first_pending w.job) (segment_count_of w.job))
    where
      blanked : is_blanking w.job.phase ≡ false
      blanked = ap is_blanking search.phase_is

      none-waits : segment_count_of w.job ≤ first_pending w.job → (j : ℕ)
          → (j < G terms) ⊎ (G terms ≤ j) → waiting_of w.job j ≡ 0
      none-waits h j (inl l) = pending-none h j l
      none-waits h j (inr l) = search.waiting-beyond j l

      straight : in_reverse w.job ≡ false
      straight = search-forward given invariant search forward

      stacks : segment_count_of w.job ≤ first_pending w.job
          → (first_open w.job < segment_count_of w.job) ⊎ (segment_count_of w.job ≤ first_open w.job) → Nexts
      stacks h (inl l) =
          let j = first_open w.job in (
            expand-advances given invariant search forward j (omega (arith, G-is)) (open-left l)
                (λ t. none-waits h t (lt-or-ge t (G terms))),
            sym (next-expand w.job list blanked straight h l),
          )
      stacks h (inr l) = (
        close-advances given invariant (way_after w.job)
            (all-ready given invariant straight (open_none l) (pending-none h))
            on
            (omega (arith, ap level_of search.phase_is, search.last)),
        sym (next-close w.job list blanked straight h l),
      )

      logs : (first_pending w.job < segment_count_of w.job) ⊎ (segment_count_of w.job ≤ first_pending w.job) → Nexts
      logs (inl h) =
          let j = first_pending w.job in
          (settle-advances given invariant search forward j (omega (arith, G-is)) (pending-some h), sym (next-settle w.job list blanked straight h))
      logs (inr h) = stacks h (lt-or-ge (first_open w.job) (segment_count_of w.job))

  reverse-next : has_ended w.job ≡ false → {d : ℕ} → Searches terms w d → is_reverse w.job.way ≡ true → Nexts
  unfolding Nexts load-advances sweep-advances close-advances advances is_blanking level_of is_load_due
  reverse-next on search reverse = go (test-cases (is_loaded w.job)) (lt-or-ge (first_pair w.job) (segment_count_of w.job))
    where
      blanked : is_blanking w.job.phase ≡ false
      blanked = ap is_blanking search.phase_is

      back : in_reverse w.job ≡ true
      back = search-reverse given invariant search reverse

      rest : (is_loaded w.job && ltb (first_pair w.job) (segment_count_of w.job)) ≡ false → is_load_due w.job ≡ true
          → (first_unswept w.job < segment_count_of w.job) ⊎ (segment_count_of w.job ≤ first_unswept w.job) → Nexts
      rest none due (inl h) =
          let b = first_unswept w.job in
          let p = pair_left given invariant search reverse b (unswept-some h) in (
            load-advances given invariant search reverse b p.0 (omega (arith, G-is)) p.1 p.2 due (take (list_bytes_at w.job b) list) (list-fits b),
            sym (next-load w.job list blanked back none h),
          )
      rest none due (inr h) = (
        close-advances given invariant (way_after w.job) (swept-ready given invariant search reverse (unswept-none h)) on
            (omega (arith, ap level_of search.phase_is, search.last)),
        sym (next-done w.job list blanked back none h),
      )

      others : (first_unswept w.job < segment_count_of w.job) ⊎ (segment_count_of w.job ≤ first_unswept w.job)
      others = lt-or-ge (first_unswept w.job) (segment_count_of w.job)

      go : (is_loaded w.job ≡ true) ⊎ (is_loaded w.job ≡ false)
          → (first_pair w.job < segment_count_of w.job) ⊎ (segment_count_of w.job ≤ first_pair w.job) → Nexts
      go (inl loaded) (inl h) = (
        sweep-advances given invariant search reverse (first_pair w.job) (omega (arith, G-is)) loaded (pair-some h),
        sym (next-sweep w.job list blanked back loaded h),
      )
      go (inl loaded) (inr h) =
          rest (and-fails-right (is_loaded w.job) (ltb (first_pair w.job) (segment_count_of w.job)) (le-ltb (first_pair w.job) (segment_count_of w.job) h))
          (or_right (not (is_loaded w.job)) (is_swept_whole w.job w.job.loaded) (pair-none h)) others
      go (inr none) h =
          rest (and-fails-left (is_loaded w.job) (ltb (first_pair w.job) (segment_count_of w.job)) none)
          (ap (λ (t : Bool). not t || is_swept_whole w.job w.job.loaded) none) others

  searches-next : has_ended w.job ≡ false → {d : ℕ} → Searches terms w d → Nexts
  searches-next on search = go (test-cases (is_reverse w.job.way))
    where
      go : (is_reverse w.job.way ≡ true) ⊎ (is_reverse w.job.way ≡ false) → Nexts
      go (inl reverse) = reverse-next on search reverse
      go (inr forward) = forward-next on search forward

  pub next-advances : has_ended w.job ≡ false → Nexts
  unfolding is_finished
  next-advances on = go invariant.phase
    where
      go : InPhase terms w → Nexts
      go (blanking blanks) = blanks-next on blanks
      go (searching d s) = searches-next on s
      go (ended d s) = never (ap is_finished s.phase_is) (on-unfinished w.job on)

-- ---- the driver's steps

-- what it keeps: a build's world, and buffers of their right lengths
pub record Stored (terms : Terms) (s : Store) : Type 0 where
  pub invariant : Invariant terms (held s)
  pub table-long : length s.table ≡ bytes_for (N terms)
  pub list-long : length s.list ≡ list_bytes (m terms 0)

-- the driver's call is lent the build's own, whose lengths a call does not depend on
next-same : (right right' : Lengths) (w : World) (list : List ℕ)
    → outcome {right = right} w (next_call w.job list) ≡ outcome {right = right'} w (next_call w.job list)
unfolding next_call next_blank next_forward next_reverse next_load outcome lent kept
next-same right right' w list =
    go (is_blanking w.job.phase) (in_reverse w.job) (ltb (first_open w.job) (segment_count_of w.job)) (ltb (first_pending w.job) (segment_count_of w.job))
    (is_loaded w.job && ltb (first_pair w.job) (segment_count_of w.job))
    (ltb (first_unswept w.job) (segment_count_of w.job))
  where
    chosen : {r : Lengths} → Bool → Bool → Bool → Bool → Bool → Bool → Call r
    chosen starts reverse left pending pair unswept =
        cond starts (cond left (do_blank (first_open w.job) own) (do_close (way_after w.job)))
        (cond reverse
        (cond pair (do_sweep (first_pair w.job) own own_list)
        (cond unswept (do_load (first_unswept w.job) own (take (list_bytes_at w.job (first_unswept w.job)) list)) (do_close (way_after w.job))))
        (cond pending (do_settle (first_pending w.job) own own) (cond left (do_expand (first_open w.job) own own) (do_close (way_after w.job)))))

    go : (starts reverse left pending pair unswept : Bool)
        → outcome {right = right} w (chosen starts reverse left pending pair unswept)
        ≡ outcome {right = right'} w (chosen starts reverse left pending pair unswept)
    go true reverse true pending pair unswept = refl
    go true reverse false pending pair unswept = refl
    go false true left pending true unswept = refl
    go false true left pending false true = refl
    go false true left pending false false = refl
    go false false left true pair unswept = refl
    go false false true false pair unswept = refl
    go false false false false pair unswept = refl

pub drive-done : (calls : ℕ) (s : Store) → has_ended s.job ≡ true → drive calls s ≡ s
unfolding drive
drive-done zero s h = refl
drive-done (suc calls) s h = ap (λ (t : Bool). cond t s (drive calls (advanced s))) h

drive-on : (calls : ℕ) (s : Store) → has_ended s.job ≡ false → drive (suc calls) s ≡ drive calls (advanced s)
unfolding drive
drive-on calls s h = ap (λ (t : Bool). cond t s (drive calls (advanced s))) h

-- no job has more to do than a build may take calls
levels-most : (p : Phase) → levels_left p < suc (suc last_level)
unfolding levels_left
levels-most Blanking = omega arith
levels-most (Level d) = omega arith
levels-most (Finished d) = omega arith

pub work-most : (N S : ℕ) (job : Job) → work_left N S job < most_calls N (segment_count N S)
unfolding work_left phase_most most_calls
work-most N S job =
    omega (
      arith,
      digits-less (phase_most N S) (levels_left job.phase) (phase_left N S job) (suc (suc last_level)) 0 (phase-less N S job) (levels-most job.phase),
    )

-- ---- a world that is laid down and held again

-- another changed list keeps the invariant, if it is the same where a segment is loaded in a reverse level
rechanged : {terms : Terms} {w : World} → Invariant terms w → (changed : List ℕ)
    → ((d : ℕ) → Searches terms w d → is_reverse w.job.way ≡ true → w.job.loaded < G terms → changed ≡ w.changed)
    → Invariant terms (with_changed changed w)
unfolding directed swept_of
rechanged {terms} {w} invariant changed same = record { shaped = shaped; phase = go invariant.phase }
  where
    shaped : Shaped terms (with_changed changed w)
    shaped =
        record {
          terms_is = invariant.shaped.terms_is;
          passed_length = invariant.shaped.passed_length;
          waiting-length = invariant.shaped.waiting-length;
          swept-length = invariant.shaped.swept-length;
          counts-length = invariant.shaped.counts-length;
          segments-length = invariant.shaped.segments-length;
          segment-bytes = invariant.shaped.segment-bytes;
          log_length = invariant.shaped.log_length;
          loaded-fits = invariant.shaped.loaded-fits;
          swept-fits = invariant.shaped.swept-fits;
        }

    go : InPhase terms w → InPhase terms (with_changed changed w)
    go (blanking s) =
        blanking (record {
          phase_is = s.phase_is;
          none-waits = s.none-waits;
          none-counted = s.none-counted;
          none-beyond = s.none-beyond;
          each = s.each;
        })
    go (searching d s) =
        searching d
        (redirected (record { shaped = invariant.shaped; searches = s }) w.job.loaded w.job.swept changed invariant.shaped.loaded-fits
        invariant.shaped.swept-length invariant.shaped.swept-fits s.level
        (λ r l.
        let e = same d s r l in
        record { long = ap length e ∙ (s.listed r l).long; bits = λ i h. ap (λ (xs : List ℕ). bit_at xs i) e ∙ (s.listed r l).bits i h })).searches
    go (ended d s) =
        ended d (record {
          phase_is = s.phase_is;
          last = s.last;
          none_passed = s.none_passed;
          none-waits = s.none-waits;
          entries = s.entries;
          unreached = s.unreached;
          greatest = s.greatest;
          spares = record { byte = s.spares.byte; spare = s.spares.spare };
          counts = s.counts;
          deepest = s.deepest;
        })

module _ {terms : Terms} (given : Given terms) where
  -- the driver's list, with what a world lays in its front
  laid-stored : (list : List ℕ) → length list ≡ list_bytes (m terms 0) → (w : World) → Invariant terms w → length w.changed ≤ length list
      → Stored terms (laid list w)
  unfolding held laid list_bytes_at
  laid-stored list wide w invariant fits =
      let shaped = invariant.shaped in
      let sizes = segment-size-facts (N terms) terms.size given.segments in
      let some : 0 < terms.size = omega (arith, sizes.least) in
      let whole : Segmented (N terms) terms.size w.segments = shaped-segmented shaped given in
      let front : ℕ = list_bytes_at w.job w.job.loaded in
      let all : List ℕ = w.changed ++ drop (length w.changed) list in
      record {
        invariant = subst (Invariant terms)
            (ap (λ (segments : List (List ℕ)). record { job = w.job; segments = segments; log = w.log; changed = take front all })
            (sym (rw (count-is shaped, size_is shaped) (cut-joined (N terms) terms.size some sizes.four w.segments whole))))
            (rechanged invariant (take front all) (λ d s r l. take_at w.changed (drop (length w.changed) list) front
            ((s.listed r l).long ∙ ap list_bytes (sym (stacks-is shaped w.job.loaded)))));
        table-long = joined_length (N terms) terms.size w.segments whole;
        list-long = length-append w.changed (drop (length w.changed) list) ∙ omega (arith, length-drop (length w.changed) list, wide);
      }

  -- no list is longer than that of segment 0
  list-most : (b : ℕ) → list_bytes (m terms b) ≤ list_bytes (m terms 0)
  unfolding list_bytes stack_count_in
  list-most b = omega arith

  -- a call leaves no longer list than there is room for
  changed-fits : {right : Lengths} {w : World} → Shaped terms w → length w.changed ≤ list_bytes (m terms 0) → (call : Call right)
      → length (outcome w call).world.changed ≤ list_bytes (m terms 0)
  unfolding outcome changed_of
  changed-fits shaped fits (do_blank j segment) = fits
  changed-fits shaped fits (do_expand j segment log) = fits
  changed-fits shaped fits (do_settle j segment log) = fits
  changed-fits shaped fits (do_look j log) = fits
  changed-fits {right} {w} shaped fits (do_load b segment list) =
      let given = lent segment (get_or w.segments b []) in
      go given (eq-or-ne (load_refusal w.job b (length given) (length list)) 0)
    where
      left : List ℕ × Answer → List ℕ
      left o = cond (eqb o.1.refusal 0) o.0 w.changed

      go : (given : List ℕ) → (load_refusal w.job b (length given) (length list) ≡ 0) ⊎ (load_refusal w.job b (length given) (length list) ≡ 0 → ⊥)
          → length (left (load_of w.job b given list)) ≤ list_bytes (m terms 0)
      go given (inl e) =
          let length-is : length (changed_of w.job b given) ≡ list_bytes (m terms b) =
          list_length (stack_count_at w.job b) (λ i. is_parent (level_of w.job.phase) (entry_at given i)) ∙ ap list_bytes (stacks-is shaped b) in
          subst (λ (o : List ℕ × Answer). length (left o) ≤ list_bytes (m terms 0)) (sym (load-accepted w.job b given list e))
          (omega (arith, length-is, list-most b))
      go given (inr ne) =
          subst (λ (o : List ℕ × Answer). length (left o) ≤ list_bytes (m terms 0)) (sym (load-refused w.job b given list ne))
          (rw (ne_eqb (load_refusal w.job b (length given) (length list)) 0 ne) fits)
  changed-fits shaped fits (do_sweep j segment list) = fits
  changed-fits shaped fits (do_close way) = fits

  module _ {s : Store} (stored : Stored terms s) where
    -- the world after the driver's call
    abbrev called : World
    called = (outcome {right = right_lengths terms} (held s) (next_call s.job s.list)).world

    called_is : advanced s ≡ laid s.list called
    unfolding advanced held
    called_is =
        ap (λ (o : Outcome). laid s.list o.world)
        (next-same (right_lengths (s.job.terms)) (right_lengths terms) (held s) s.list)

    pub advanced-stored : Stored terms (advanced s)
    unfolding held
    advanced-stored =
        subst (Stored terms) (sym called_is)
        (laid-stored s.list stored.list-long called (step_keeps given stored.invariant (next_call s.job s.list))
        (omega (
          arith,
          stored.list-long,
          changed-fits {right = right_lengths terms} stored.invariant.shaped
              (omega (arith, stored.list-long, length-take (list_bytes_at s.job s.job.loaded) s.list))
              (next_call s.job s.list),
        )))

    pub advanced-falls : has_ended s.job ≡ false
        → work_left (N terms) terms.size (advanced s).job < work_left (N terms) terms.size s.job
    unfolding Nexts held laid
    advanced-falls on =
        let a = next-advances given stored.invariant s.list stored.list-long on in
        subst (λ (x : Store). work_left (N terms) terms.size x.job < work_left (N terms) terms.size s.job) (sym called_is)
        (subst (λ (c : Call (right_lengths terms)). work_left (N terms) terms.size (outcome (held s) c).world.job < work_left (N terms) terms.size s.job)
        a.1
        a.0.falls)

    -- with nothing left to do it has ended
    idle_ended : work_left (N terms) terms.size s.job ≤ 0 → has_ended s.job ≡ true
    idle_ended h = go (test-cases (has_ended s.job))
      where
        go : (has_ended s.job ≡ true) ⊎ (has_ended s.job ≡ false) → has_ended s.job ≡ true
        go (inl e) = e
        go (inr e) = absurd (omega (arith, advanced-falls e))

  -- as many calls as there is work left bring it to its end, and more change nothing
  pub drive-keeps : (calls : ℕ) (s : Store) → Stored terms s → work_left (N terms) terms.size s.job ≤ calls
      → Stored terms (drive calls s) × (has_ended (drive calls s).job ≡ true)
  unfolding drive
  drive-keeps zero s stored h = (stored, idle_ended stored h)
  drive-keeps (suc calls) s stored h = go (λ x i l. drive-keeps calls x i l) (has_ended s.job) refl
    where
      go : ((x : Store) → Stored terms x → work_left (N terms) terms.size x.job ≤ calls
          → Stored terms (drive calls x) × (has_ended (drive calls x).job ≡ true))
          → (t : Bool) → has_ended s.job ≡ t
          → (let x = cond t s (drive calls (advanced s)) in Stored terms x × (has_ended x.job ≡ true))
      go rest true e = (stored, e)
      go rest false e = rest (advanced s) (advanced-stored stored) (omega (arith, advanced-falls stored e))

  drive-more : (calls : ℕ) (s : Store) → Stored terms s → work_left (N terms) terms.size s.job ≤ calls
      → drive (suc calls) s ≡ drive calls s
  drive-more zero s stored h = drive-done 1 s (idle_ended stored h) ∙ sym (drive-done 0 s (idle_ended stored h))
  drive-more (suc calls) s stored h = go (λ x i l. drive-more calls x i l) (test-cases (has_ended s.job))
    where
      go : ((x : Store) → Stored terms x → work_left (N terms) terms.size x.job ≤ calls → drive (suc calls) x ≡ drive calls x)
          → (has_ended s.job ≡ true) ⊎ (has_ended s.job ≡ false) → drive (suc (suc calls)) s ≡ drive (suc calls) s
      go rest (inl e) = drive-done (suc (suc calls)) s e ∙ sym (drive-done (suc calls) s e)
      go rest (inr e) =
          drive-on (suc calls) s e
          ∙ rest (advanced s) (advanced-stored stored) (omega (arith, advanced-falls stored e))
          ∙ sym (drive-on calls s e)

  pub drive-advanced : (calls : ℕ) (s : Store) → Stored terms s → work_left (N terms) terms.size s.job ≤ calls
      → has_ended s.job ≡ false → drive calls s ≡ drive calls (advanced s)
  drive-advanced zero s stored h on = absurd (omega (arith, advanced-falls stored on))
  drive-advanced (suc calls) s stored h on =
      drive-on calls s on
      ∙ sym (drive-more calls (advanced s) (advanced-stored stored) (omega (arith, advanced-falls stored on)))

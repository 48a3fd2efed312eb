-- Where a build has not finished, some call carries it on and leaves less to do.
use mathlib.Core.Path.{◌≡◌, refl, sym, ap, ◌∙◌, subst}
use mathlib.Core.Logic.{◌⊎◌, inl, inr}
use mathlib.Core.Bool.{Bool, true, false, not, ◌||◌, cond}
use mathlib.Core.List.{List, []}
use Prim.Native.Nat.{ℕ, suc, ◌+◌, ◌-◌, ◌*◌, ◌≤◌, ◌<◌}
use native.Mathlib.Nat.{suc-mul, mul-le-mul_right}
use native.Mathlib.Omega.{arith}
use lib.Dec.{ltb, eqb}
use lib.ListN.{length, get_or, set, replicate, length-replicate}
use lib.Seq.{get_or-set_same, get_or-set_other}
use borrow.Author.Tests.{eqb-true, ltb-true, ltb-false, lt-ltb, eq-eqb, ne_eqb, not-true, not-false}
use Rattle.base.specs.Words.{all, tally, from}
use Rattle.base.proofs.Counting.{at_all, all-below, below_all}
use Rattle.base.proofs.Tests.{and_left, and_both, or_right, test-cases, not-is-false, never, lt-or-ge, eq-or-ne}
use Rattle.graph.proofs.Tally.{tally-some, tally-zero}
use Rattle.stacks.specs.Stack.{stack_places}
use Rattle.search.specs.Blank.{blank_refusal}
use Rattle.search.specs.Build.{World, Call, CarriesOn, own, own_list, do_blank, do_expand, do_settle, do_load, do_sweep, do_close, lent, kept, lent_list, is_own, is_lent_own, is_load_due, outcome, passes, empties, sweeps, loads, changes}
use Rattle.search.specs.Close.{is_done, is_swept_whole, is_ready, is_past_last, close_refusal, next_phase, closed}
use Rattle.search.specs.Drive.{has_ended}
use Rattle.search.specs.Entries.{bytes_for}
use Rattle.search.specs.Expand.{children_of, expand_refusal, expansion, expanded_job, expand_of}
use Rattle.search.specs.JobState.{is_coherent, is_blanking, is_level, is_finished, is_reverse, in_reverse, level_of, last_level, no_segment, stack_count_of, segment_count_of, stack_count_at, moves_of, passed_of, waiting_of, count_of, is_loaded, is_swept, swept_of, progressed, recounted, directed}
use Rattle.search.specs.Promise.{Continues, right_lengths}
use Rattle.search.specs.Settle.{settle_refusal, settle_of}
use Rattle.search.specs.Changed.{list_bytes}
use Rattle.search.specs.Load.{load_refusal}
use Rattle.search.specs.Logs.{log_part, indexes_of, pending}
use Rattle.search.specs.Marks.{mark_all, marks_from, marked_job}
use Rattle.search.specs.Sweep.{reached_in, with_pair, sweep_refusal, sweep_of}
use Rattle.search.specs.Terms.{N, G, m}
use Rattle.search.specs.Answers.{Answer}
use Rattle.search.specs.Answers.{Expanded}
use Rattle.search.specs.declared.Job.{Job}
use Rattle.search.specs.declared.Phase.{Phase}
use Rattle.search.specs.declared.Phase.TheVariants.{Blanking, Level, Finished}
use Rattle.search.specs.declared.Terms.{Terms}
use Rattle.search.specs.declared.Way.{Way}
use Rattle.search.specs.declared.Way.TheVariants.{Forward}
use Rattle.search.proofs.Accepted.{reverse-level, level-forward, level-reverse, CallFacts, LevelFacts, facts-blank, facts-expand, facts-settle, facts-load, facts-sweep, facts-close, expand-accepted, settle-accepted, sweep-accepted}
use Rattle.search.proofs.BlankKeeps.{blanked_world, blank-world, passed_here, passed-elsewhere}
use Rattle.search.proofs.BuildCoherent.{invariant-coherent}
use Rattle.search.proofs.Children.{children-length}
use Rattle.search.proofs.CloseKeeps.{closed_world, close-world, refused-14}
use Rattle.search.proofs.Coherence.{coherent-facts}
use Rattle.search.proofs.ExpandCases.{room-lacks, falling-le}
use Rattle.search.proofs.ExpandLaws.{MustWait, expand-passes, expand-waits}
use Rattle.search.proofs.Invariant.{Blanks, Searches, Invariant, InPhase, blanking, searching, ended}
use Rattle.search.proofs.LoadKeeps.{loaded_world, load-world}
use Rattle.search.proofs.PairLaws.{pair-new, pair_keeps}
use Rattle.search.proofs.Refused.{refusal_of, refusal_is}
use Rattle.search.proofs.SegmentLaws.{log-room-facts, log_length, log-at}
use Rattle.search.proofs.Shapes.{room-is, segments-is, stacks-is, area-is, loaded-low}
use Rattle.search.proofs.WorkLeft.{levels_left, work_left, levels-work, stacks-work, logs-work, pairs-work, load-work, stacks-fall, stacks-stay, logs-fall, pairs-fall}
use Rattle.search.proofs.Given.{Given, moves, laws, some, few}

-- some number below n passes a test, or none does
some_or_none : (p : ℕ → Bool) (n : ℕ) → ((i : ℕ) × (i < n) × (p i ≡ true)) ⊎ ((i : ℕ) → i < n → p i ≡ false)
some_or_none p n = go (eq-or-ne (tally p (from 0 n)) 0)
  where
    go : (tally p (from 0 n) ≡ 0) ⊎ (tally p (from 0 n) ≡ 0 → ⊥) → ((i : ℕ) × (i < n) × (p i ≡ true)) ⊎ ((i : ℕ) → i < n → p i ≡ false)
    go (inl e) = inr (tally-zero p n e)
    go (inr ne) = inl (tally-some p n (omega arith))

-- where a build has not ended, it has not finished, and Close does not say 14
module _ (job : Job) where
  pub ended-cases : has_ended job ≡ true → (is_finished job.phase ≡ true) ⊎ (close_refusal job ≡ 14)
  unfolding has_ended
  ended-cases h = go (is_finished job.phase) h
    where
      go : (t : Bool) → (t || eqb (close_refusal job) 14) ≡ true → (t ≡ true) ⊎ (close_refusal job ≡ 14)
      go true e = inl refl
      go false e = inr (eqb-true (close_refusal job) 14 e)

  pub finished-ended : is_finished job.phase ≡ true → has_ended job ≡ true
  unfolding has_ended
  finished-ended h = ap (λ (t : Bool). t || eqb (close_refusal job) 14) h

  pub unfinished-ended : is_finished job.phase ≡ false → eqb (close_refusal job) 14 ≡ has_ended job
  unfolding has_ended
  unfinished-ended h = ap (λ (t : Bool). t || eqb (close_refusal job) 14) (sym h)

  -- before the last level Close does not say 14
  pub earlier-ended : is_finished job.phase ≡ false → (level_of job.phase ≡ last_level → ⊥) → has_ended job ≡ false
  unfolding is_past_last
  earlier-ended h ne =
      let last = eqb (level_of job.phase) last_level in
      let brought = not (eqb (count_of job last_level) 0) in
      sym (unfinished-ended h)
      ∙ ne_eqb (close_refusal job) 14 (λ e. ne (eqb-true (level_of job.phase) last_level (and_left last brought (refused-14 job e).1)))

  refused-ended : close_refusal job ≡ 14 → has_ended job ≡ true
  unfolding has_ended
  refused-ended h = go (is_finished job.phase)
    where
      go : (t : Bool) → (t || eqb (close_refusal job) 14) ≡ true
      go true = refl
      go false = eq-eqb (close_refusal job) 14 h

  module _ (on : has_ended job ≡ false) where
    pub on-unfinished : is_finished job.phase ≡ false
    on-unfinished = not-is-false (is_finished job.phase) (λ e. never (finished-ended e) on)

    pub on-14 : close_refusal job ≡ 14 → ⊥
    on-14 h = never (refused-ended h) on

  -- a ready job past the last level is refused 14
  pub close-14 : is_coherent job ≡ true → is_finished job.phase ≡ false → is_ready job ≡ true → is_past_last job ≡ true → close_refusal job ≡ 14
  unfolding close_refusal
  close-14 coherent unfinished ready past = rw (coherent, unfinished, ready, past)

-- a close brings the end nearer
next-nearer : (counts : List ℕ) (p : Phase) → is_finished p ≡ false → level_of p ≤ last_level → levels_left (next_phase counts p) < levels_left p
unfolding is_finished level_of levels_left next_phase
next-nearer counts Blanking u h = omega arith
next-nearer counts (Level d) u h = go (eqb (get_or counts d 0) 0)
  where
    go : (t : Bool) → levels_left (cond t (Finished (d - 1)) (Level (d + 1))) < suc last_level - d
    go true = omega arith
    go false = omega arith
next-nearer counts (Finished d) u h = never refl u

module _ {terms : Terms} (given : Given terms) {w : World} (invariant : Invariant terms w) where
  -- a call that carries the build on, and leaves less to do
  pub record Advances : Type 0 where
    pub next : Continues (right_lengths terms) w
    pub falls : work_left (N terms) terms.size (outcome w next.call).world.job < work_left (N terms) terms.size w.job

  -- from what the call leaves
  unfoldable pub advances : (call : Call (right_lengths terms)) → is_lent_own call ≡ true → refusal_of w call ≡ 0
      → (x : World) → (outcome w call).world ≡ x → CarriesOn w x
      → work_left (N terms) terms.size x.job < work_left (N terms) terms.size w.job → Advances
  advances call mine accepted x e carries falls =
      record {
        next = record {
          call = call;
          lent_own = mine;
          accepted = refusal_is w call ∙ accepted;
          carries = subst (CarriesOn w) (sym e) carries;
        };
        falls = subst (λ (y : World). work_left (N terms) terms.size y.job < work_left (N terms) terms.size w.job) (sym e) falls;
      }

  -- ---- Close

  module _ (way : Way) (ready : is_ready w.job ≡ true) (on : has_ended w.job ≡ false) (low : level_of w.job.phase ≤ last_level) where
    pub close-nearer : levels_left (closed_world w way).job.phase < levels_left w.job.phase
    unfolding closed_world closed progressed recounted directed
    close-nearer = next-nearer w.job.counts w.job.phase (on-unfinished w.job on) low

    pub close-accepts : close_refusal w.job ≡ 0
    close-accepts =
        facts-close w.job
        (record {
          coherent = invariant-coherent given invariant;
          unfinished = on-unfinished w.job on;
          ready = ready;
          fits = fits (test-cases (is_past_last w.job));
        })
      where
        -- past the last level it would say 14
        fits : (is_past_last w.job ≡ true) ⊎ (is_past_last w.job ≡ false) → is_past_last w.job ≡ false
        fits (inl past) = absurd (on-14 w.job on (close-14 w.job (invariant-coherent given invariant) (on-unfinished w.job on) ready past))
        fits (inr e) = e

    unfoldable pub close-advances : Advances
    unfolding outcome is_lent_own refusal_of
    close-advances =
        advances (do_close way) refl close-accepts (closed_world w way) (close-world w way close-accepts)
        (changes (λ e. omega (arith, close-nearer, ap levels_left e)))
        (levels-work (N terms) terms.size w.job (closed_world w way).job close-nearer)

  -- segments with all passed and nothing waiting are ready to close, but in a reverse level
  pub all-ready : in_reverse w.job ≡ false → ((j : ℕ) → j < G terms → m terms j ≤ passed_of w.job j)
      → ((j : ℕ) → j < G terms → waiting_of w.job j ≡ 0) → is_ready w.job ≡ true
  unfolding is_ready is_done
  all-ready forward passed none =
      ap (λ (t : Bool). all (cond t (is_swept_whole w.job) (is_done w.job)) (from 0 (segment_count_of w.job))) forward
      ∙ below_all (is_done w.job) (segment_count_of w.job) (λ j h. done j (rw (segments-is invariant.shaped) at h))
    where
      done : (j : ℕ) → j < G terms → is_done w.job j ≡ true
      done j h =
          and_both (eqb (passed_of w.job j) (stack_count_at w.job j)) (eqb (waiting_of w.job j) 0)
          (eq-eqb (passed_of w.job j) (stack_count_at w.job j)
          (omega (
            arith,
            passed j h,
            stacks-is invariant.shaped j,
            (coherent-facts w.job (invariant-coherent given invariant)).passed-fits j (omega (arith, few given)),
          )))
          (eq-eqb (waiting_of w.job j) 0 (none j h))

  -- ---- in Blanking

  module _ (blanks : Blanks terms w) where
    pub blanks-forward : in_reverse w.job ≡ false
    unfolding in_reverse is_level
    blanks-forward = rw blanks.phase_is

    unfoldable pub blank-advances : (j : ℕ) → j < G terms → passed_of w.job j < m terms j → Advances
    unfolding outcome is_lent_own is_own refusal_of lent kept is_blanking blanked_world progressed in_reverse
    blank-advances j h left =
        advances (do_blank j own) refl accepts (blanked_world w j) (blank-world w j accepts) (passes j (rw here left))
        (stacks-work (N terms) terms.size w.job (blanked_world w j).job blanks-forward blanks-forward refl
        (stacks-fall (N terms) terms.size w.job (blanked_world w j).job (some given) j left (rw here left) (λ i. each i (eq-or-ne i j))))
      where
        accepts : blank_refusal w.job j (length (get_or w.segments j [])) ≡ 0
        accepts =
            facts-blank w.job j (length (get_or w.segments j []))
            (record {
              called = record {
                coherent = invariant-coherent given invariant;
                in-phase = ap is_blanking blanks.phase_is;
                inside = rw (segments-is invariant.shaped) h;
              };
              long = invariant.shaped.segment-bytes j h ∙ ap bytes_for (sym (stacks-is invariant.shaped j));
              left = rw (stacks-is invariant.shaped j) left;
            })

        here : passed_of (blanked_world w j).job j ≡ m terms j
        here = passed_here given invariant.shaped j h

        each : (i : ℕ) → (i ≡ j) ⊎ (i ≡ j → ⊥) → passed_of w.job i ≤ passed_of (blanked_world w j).job i
        each i (inl e) = omega (arith, here, ap (passed_of w.job) e, ap (passed_of (blanked_world w j).job) e)
        each i (inr ne) = omega (arith, passed-elsewhere given invariant.shaped j h i ne)

    blanks-advance : has_ended w.job ≡ false → Advances
    unfolding level_of
    blanks-advance on =
        go (some_or_none (λ j. ltb (passed_of w.job j) (m terms j)) (G terms))
      where
        go : ((j : ℕ) × (j < G terms) × (ltb (passed_of w.job j) (m terms j) ≡ true))
            ⊎ ((j : ℕ) → j < G terms → ltb (passed_of w.job j) (m terms j) ≡ false)
            → Advances
        go (inl r) = blank-advances r.0 r.1 (ltb-true (passed_of w.job r.0) (m terms r.0) r.2)
        go (inr none) =
            close-advances Forward
            (all-ready
            blanks-forward
            (λ j h. ltb-false (passed_of w.job j) (m terms j) (none j h))
            (λ j h. blanks.none-waits j))
            on
            (omega (arith, ap level_of blanks.phase_is))

  -- ---- in a forward level

  module _ {d : ℕ} (search : Searches terms w d) (forward : is_reverse w.job.way ≡ false) where
    pub search-forward : in_reverse w.job ≡ false
    search-forward = not-is-false (in_reverse w.job) (λ r. never (reverse-level w.job r).1 forward)

    facts-of : (j : ℕ) → j < G terms → LevelFacts w.job j (length (get_or w.segments j [])) (length w.log)
    unfolding is_level
    facts-of j h =
        record {
          called = record {
            coherent = invariant-coherent given invariant;
            in-phase = level-forward w.job (ap is_level search.phase_is) forward;
            inside = rw (segments-is invariant.shaped) h;
          };
          long = invariant.shaped.segment-bytes j h ∙ ap bytes_for (sym (stacks-is invariant.shaped j));
          wide = invariant.shaped.log_length ∙ sym (area-is invariant.shaped);
        }

    module _ (j : ℕ) (h : j < G terms) where
      -- what waits is an offset of its segment
      pending-fits : all (λ i. ltb i (stack_count_at w.job j)) (pending w.job j w.log) ≡ true
      unfolding pending
      pending-fits =
          subst (λ (c : ℕ). all (λ i. ltb i (stack_count_at w.job j)) (log_part c j (waiting_of w.job j) w.log) ≡ true)
          (sym ((room-is invariant.shaped)))
          (at_all (λ i. ltb i (stack_count_at w.job j)) part 0 each)
        where
          part : List ℕ
          part = log_part terms.room j (waiting_of w.job j) w.log

          long : length part ≡ waiting_of w.job j
          long =
              log_length terms.room j (waiting_of w.job j) w.log
              (omega (arith, invariant.shaped.log_length, search.waiting-fits j, suc-mul j terms.room, mul-le-mul_right terms.room h))

          each : (k : ℕ) → k < length part → ltb (get_or part k 0) (stack_count_at w.job j) ≡ true
          each k l =
              let m : k < waiting_of w.job j = rw long at l in
              lt-ltb (get_or part k 0) (stack_count_at w.job j)
              (omega (
                arith,
                log-at terms.room j (waiting_of w.job j) w.log k m,
                search.offsets j k h m,
                stacks-is invariant.shaped j,
              ))

      pub settle-accepts : settle_refusal w.job j (length (get_or w.segments j [])) w.log ≡ 0
      settle-accepts = facts-settle w.job j (length (get_or w.segments j [])) w.log (facts-of j h) pending-fits

      -- the job after it
      abbrev pub settled : Job
      settled = (settle_of w.job j (get_or w.segments j []) w.log).1.job

      pub settled-phase : settled.phase ≡ w.job.phase
      unfolding progressed recounted
      settled-phase = ap (λ (o : List ℕ × Answer). o.1.job.phase) (settle-accepted w.job j (get_or w.segments j []) w.log settle-accepts)

      pub settled-forward : in_reverse settled ≡ false
      unfolding progressed recounted in_reverse
      settled-forward =
          ap (λ (o : List ℕ × Answer). in_reverse o.1.job) (settle-accepted w.job j (get_or w.segments j []) w.log settle-accepts)
          ∙ search-forward

      pub settled-passed : (i : ℕ) → passed_of settled i ≡ passed_of w.job i
      unfolding progressed recounted passed_of
      settled-passed i =
          ap (λ (o : List ℕ × Answer). passed_of o.1.job i) (settle-accepted w.job j (get_or w.segments j []) w.log settle-accepts)

      settled-waiting : (i : ℕ) → waiting_of settled i ≡ get_or (set w.job.waiting j 0) i 0
      unfolding progressed recounted waiting_of
      settled-waiting i =
          ap (λ (o : List ℕ × Answer). waiting_of o.1.job i) (settle-accepted w.job j (get_or w.segments j []) w.log settle-accepts)

      pub settled-empty : waiting_of settled j ≡ 0
      settled-empty =
          settled-waiting j ∙ get_or-set_same w.job.waiting j 0 0 (omega (arith, invariant.shaped.waiting-length, few given))

      pub settled-others : (i : ℕ) → (i ≡ j → ⊥) → waiting_of settled i ≡ waiting_of w.job i
      unfolding waiting_of
      settled-others i ne = settled-waiting i ∙ get_or-set_other w.job.waiting j i 0 0 ne

      unfoldable pub settle-advances : 0 < waiting_of w.job j → Advances
      unfolding outcome is_lent_own is_own refusal_of lent kept
      settle-advances more =
          let call : Call (right_lengths terms) = do_settle j own own in
          advances call refl settle-accepts (outcome w call).world refl (empties j more settled-empty)
          (logs-work (N terms) terms.size w.job settled search-forward settled-forward settled-phase
          (stacks-stay (N terms) terms.size w.job settled settled-passed)
          (logs-fall (N terms) terms.size w.job settled j h more settled-empty settled-others))

      -- with no log waiting an Expand passes a stack
      module _ (left : passed_of w.job j < m terms j) (none : (t : ℕ) → waiting_of w.job t ≡ 0) where
        pub expand-accepts : expand_refusal w.job j (length (get_or w.segments j [])) (length w.log) ≡ 0
        expand-accepts =
            facts-expand w.job j (length (get_or w.segments j [])) (length w.log) (facts-of j h) (rw (stacks-is invariant.shaped j) left)

        -- the job after it
        abbrev pub grown : Job
        grown = (expand_of w.job j (get_or w.segments j []) w.log).2.job

        pub grown-phase : grown.phase ≡ w.job.phase
        unfolding expanded_job progressed recounted
        grown-phase =
            ap (λ (o : List ℕ × List ℕ × Expanded). o.2.job.phase) (expand-accepted w.job j (get_or w.segments j []) w.log expand-accepts)

        pub grown-forward : in_reverse grown ≡ false
        unfolding expanded_job progressed recounted in_reverse
        grown-forward =
            ap (λ (o : List ℕ × List ℕ × Expanded). in_reverse o.2.job) (expand-accepted w.job j (get_or w.segments j []) w.log expand-accepts)
            ∙ search-forward

        pub grown-others : (i : ℕ) → (i ≡ j → ⊥) → passed_of grown i ≡ passed_of w.job i
        unfolding expanded_job progressed recounted passed_of
        grown-others i ne =
            ap (λ (o : List ℕ × List ℕ × Expanded). passed_of o.2.job i) (expand-accepted w.job j (get_or w.segments j []) w.log expand-accepts)
            ∙ get_or-set_other w.job.passed j i (expansion w.job j (get_or w.segments j []) w.log).at 0 ne

        listed : j < length w.job.passed
        listed = omega (arith, invariant.shaped.passed_length, few given)

        -- an empty log has room for all children of a stack
        roomy : (t : ℕ) → MustWait w.job j (get_or w.segments j []) t → ⊥
        unfolding waiting_of
        roomy t must =
            let children = children_of w.job.terms.kind w.job.terms.n (moves_of w.job) (j * w.job.terms.size + passed_of w.job j) in
            omega (
              arith,
              none t,
              (room-lacks w.job.terms.size w.job.terms.room j w.job.waiting children t must.lacks).1,
              falling-le w.job.terms.size t children,
              children-length w.job.terms.kind w.job.terms.n (moves_of w.job) (j * w.job.terms.size + passed_of w.job j),
              subst (λ (t : Terms). length (moves t) ≤ stack_places) (sym invariant.shaped.terms_is) (laws given).few,
              (room-is invariant.shaped),
              (log-room-facts terms.room given.room).least,
            )

        pub grown-here : passed_of w.job j < passed_of grown j
        grown-here = go (expand-passes w.job j (get_or w.segments j []) w.log expand-accepts listed)
          where
            go : (passed_of w.job j < passed_of grown j)
                ⊎ (((expand_of w.job j (get_or w.segments j []) w.log).2.waits ≡ true) × (passed_of grown j ≡ passed_of w.job j))
                → passed_of w.job j < passed_of grown j
            go (inl l) = l
            go (inr r) =
                absurd
                (roomy
                (expand_of w.job j (get_or w.segments j []) w.log).2.on
                (expand-waits w.job j (get_or w.segments j []) w.log expand-accepts listed r.0 r.1))

        unfoldable pub expand-advances : Advances
        unfolding outcome is_lent_own is_own refusal_of lent kept
        expand-advances =
            let call : Call (right_lengths terms) = do_expand j own own in
            advances call refl expand-accepts (outcome w call).world refl (passes j grown-here)
            (stacks-work (N terms) terms.size w.job grown search-forward grown-forward grown-phase
            (stacks-fall (N terms) terms.size w.job grown (some given) j left grown-here (λ i. each i (eq-or-ne i j))))
          where
            each : (i : ℕ) → (i ≡ j) ⊎ (i ≡ j → ⊥) → passed_of w.job i ≤ passed_of grown i
            each i (inl e) = omega (arith, grown-here, ap (passed_of w.job) e, ap (passed_of grown) e)
            each i (inr ne) = omega (arith, grown-others i ne)

    forward-advances : has_ended w.job ≡ false → Advances
    unfolding level_of
    forward-advances on = logs (some_or_none (λ j. ltb 0 (waiting_of w.job j)) (G terms))
      where
        none-waits : ((j : ℕ) → j < G terms → ltb 0 (waiting_of w.job j) ≡ false) → (j : ℕ) → waiting_of w.job j ≡ 0
        none-waits none j = go (lt-or-ge j (G terms))
          where
            go : (j < G terms) ⊎ (G terms ≤ j) → waiting_of w.job j ≡ 0
            go (inl h) = omega (arith, ltb-false 0 (waiting_of w.job j) (none j h))
            go (inr h) = search.waiting-beyond j h

        stacks : ((j : ℕ) → waiting_of w.job j ≡ 0)
            → ((j : ℕ) × (j < G terms) × (ltb (passed_of w.job j) (m terms j) ≡ true))
            ⊎ ((j : ℕ) → j < G terms → ltb (passed_of w.job j) (m terms j) ≡ false)
            → Advances
        stacks none (inl r) =
            expand-advances r.0 r.1 (ltb-true (passed_of w.job r.0) (m terms r.0) r.2) none
        stacks none (inr all) =
            close-advances Forward
            (all-ready search-forward (λ j h. ltb-false (passed_of w.job j) (m terms j) (all j h)) (λ j h. none j))
            on
            (omega (arith, ap level_of search.phase_is, search.last))

        logs : ((j : ℕ) × (j < G terms) × (ltb 0 (waiting_of w.job j) ≡ true))
            ⊎ ((j : ℕ) → j < G terms → ltb 0 (waiting_of w.job j) ≡ false) → Advances
        logs (inl r) = settle-advances r.0 r.1 (ltb-true 0 (waiting_of w.job r.0) r.2)
        logs (inr none) =
            stacks (none-waits none)
            (some_or_none (λ j. ltb (passed_of w.job j) (m terms j)) (G terms))

  -- ---- in a reverse level

  module _ {d : ℕ} (search : Searches terms w d) (reverse : is_reverse w.job.way ≡ true) where
    pub search-reverse : in_reverse w.job ≡ true
    unfolding is_level
    search-reverse = level-reverse w.job (ap is_level search.phase_is) reverse

    called : (j : ℕ) → j < G terms → CallFacts (in_reverse w.job) w.job j
    called j h =
        record { coherent = invariant-coherent given invariant; in-phase = search-reverse; inside = rw (segments-is invariant.shaped) h }

    long_of : (j : ℕ) → j < G terms → length (get_or w.segments j []) ≡ bytes_for (stack_count_at w.job j)
    long_of j h = invariant.shaped.segment-bytes j h ∙ ap bytes_for (sym (stacks-is invariant.shaped j))

    -- a segment with an unswept pair is loaded
    module _ (b j : ℕ) (low : b < G terms) (inside : j < G terms) (left : is_swept w.job b j ≡ false) (due : is_load_due w.job ≡ true)
        (list : List ℕ) (wide : length list ≡ list_bytes (m terms b)) where
      pub load-accepts : load_refusal w.job b (length (get_or w.segments b [])) (length list) ≡ 0
      load-accepts =
          facts-load w.job b (length (get_or w.segments b [])) (length list)
          (record { called = called b low; long = long_of b low; wide = wide ∙ ap list_bytes (sym (stacks-is invariant.shaped b)) })

      -- then no load is due
      pub none-due : is_load_due (loaded_world w b).job ≡ false
      unfolding is_load_due is_loaded loaded_world directed is_swept_whole is_swept swept_of segment_count_of stack_count_of
      none-due =
          ap (λ (t : Bool). not (not t) || is_swept_whole (loaded_world w b).job b) (ne_eqb b no_segment (λ e. omega (arith, few given)))
          ∙ not-is-false (is_swept_whole (loaded_world w b).job b)
          (λ t. never (all-below (is_swept w.job b) (segment_count_of w.job) j t (rw (segments-is invariant.shaped) inside)) left)

      unfoldable pub load-advances : Advances
      unfolding is_lent_own is_own refusal_of lent loaded_world directed in_reverse
      load-advances =
          advances (do_load b own list) refl load-accepts (loaded_world w b) (load-world (right_lengths terms) w b list load-accepts)
          (loads b j due refl (rw (segments-is invariant.shaped) low) (rw (segments-is invariant.shaped) inside) left)
          (load-work (N terms) terms.size w.job (loaded_world w b).job search-reverse search-reverse refl refl due none-due)

    -- a segment is swept against the loaded one
    module _ (j : ℕ) (inside : j < G terms) (loaded : is_loaded w.job ≡ true) (left : is_swept w.job w.job.loaded j ≡ false) where
      pub low : w.job.loaded < G terms
      low = loaded-low invariant.shaped loaded

      pub sweep-accepts : sweep_refusal w.job j (length (get_or w.segments j [])) (length w.changed) ≡ 0
      sweep-accepts =
          facts-sweep w.job j (length (get_or w.segments j [])) (length w.changed)
          (record {
            called = called j inside;
            loaded = loaded;
            long = long_of j inside;
            wide = (search.listed reverse low).long ∙ ap list_bytes (sym (stacks-is invariant.shaped w.job.loaded));
            left = left;
          })

      -- the job after it
      abbrev pub swept : Job
      swept = (sweep_of w.job j (get_or w.segments j []) w.changed).1.job

      pub swept_is : {A : Type 0} (f : Job → A) → (let marks = mark_all w.job.terms (level_of w.job.phase) (indexes_of w.job.terms.size j (reached_in w.job j w.changed)) (marks_from w.job (get_or w.segments j [])) in
          f swept ≡ f (directed (marked_job w.job w.job.passed w.job.waiting marks) w.job.way w.job.loaded (with_pair w.job j)))
      swept_is f = ap (λ (o : List ℕ × Answer). f o.1.job) (sweep-accepted w.job j (get_or w.segments j []) w.changed sweep-accepts)

      pub listed-loaded : w.job.loaded < length w.job.swept
      listed-loaded = omega (arith, invariant.shaped.swept-length, few given, low)

      pub swept-pairs : swept.swept ≡ with_pair w.job j
      unfolding directed
      swept-pairs = swept_is (λ job. job.swept)

      unfoldable pub sweep-advances : Advances
      unfolding outcome is_lent_own is_own refusal_of lent kept lent_list progressed recounted directed in_reverse
      sweep-advances =
          let call : Call (right_lengths terms) = do_sweep j own own_list in
          let new = pair-new w.job j listed-loaded left swept swept-pairs in
          advances call refl sweep-accepts (outcome w call).world refl (sweeps w.job.loaded j left new)
          (pairs-work (N terms) terms.size w.job swept search-reverse (swept_is in_reverse ∙ search-reverse) (swept_is (λ job. job.phase))
          (pairs-fall (N terms) terms.size w.job swept w.job.loaded j low inside left new
          (pair_keeps w.job j listed-loaded left swept swept-pairs)))

    -- with each pair swept the level is ready
    pub swept-ready : ((b : ℕ) → b < G terms → is_swept_whole w.job b ≡ true) → is_ready w.job ≡ true
    unfolding is_ready
    swept-ready each =
        ap (λ (t : Bool). all (cond t (is_swept_whole w.job) (is_done w.job)) (from 0 (segment_count_of w.job))) search-reverse
        ∙ below_all (is_swept_whole w.job) (segment_count_of w.job) (λ b h. each b (rw (segments-is invariant.shaped) at h))

    -- a segment that is not swept whole has an unswept pair
    pub pair_left : (b : ℕ) → is_swept_whole w.job b ≡ false → (j : ℕ) × (j < G terms) × (is_swept w.job b j ≡ false)
    unfolding is_swept_whole
    pair_left b h = go (some_or_none (λ j. not (is_swept w.job b j)) (segment_count_of w.job))
      where
        go : ((j : ℕ) × (j < segment_count_of w.job) × (not (is_swept w.job b j) ≡ true))
            ⊎ ((j : ℕ) → j < segment_count_of w.job → not (is_swept w.job b j) ≡ false)
            → (j : ℕ) × (j < G terms) × (is_swept w.job b j ≡ false)
        go (inl r) = (r.0, rw (segments-is invariant.shaped) at r.1, not-true (is_swept w.job b r.0) r.2)
        go (inr none) =
            never (below_all (is_swept w.job b) (segment_count_of w.job) (λ j l. not-false (is_swept w.job b j) (none j l))) h

    reverse-advances : has_ended w.job ≡ false → Advances
    unfolding is_load_due level_of
    reverse-advances on = go (test-cases (is_loaded w.job)) (test-cases (is_swept_whole w.job w.job.loaded))
      where
        rest : is_load_due w.job ≡ true
            → ((b : ℕ) × (b < G terms) × (not (is_swept_whole w.job b) ≡ true)) ⊎ ((b : ℕ) → b < G terms → not (is_swept_whole w.job b) ≡ false)
            → Advances
        rest due (inl r) =
            let p = pair_left r.0 (not-true (is_swept_whole w.job r.0) r.2) in
            let bytes = list_bytes (m terms r.0) in
            load-advances r.0 p.0 r.1 p.1 p.2 due (replicate bytes 0) (length-replicate bytes 0)
        rest due (inr all) =
            close-advances Forward (swept-ready (λ b l. not-false (is_swept_whole w.job b) (all b l))) on
            (omega (arith, ap level_of search.phase_is, search.last))

        others : ((b : ℕ) × (b < G terms) × (not (is_swept_whole w.job b) ≡ true)) ⊎ ((b : ℕ) → b < G terms → not (is_swept_whole w.job b) ≡ false)
        others = some_or_none (λ b. not (is_swept_whole w.job b)) (G terms)

        go : (is_loaded w.job ≡ true) ⊎ (is_loaded w.job ≡ false)
            → (is_swept_whole w.job w.job.loaded ≡ true) ⊎ (is_swept_whole w.job w.job.loaded ≡ false) → Advances
        go (inl loaded) (inr some) = let p = pair_left w.job.loaded some in sweep-advances p.0 p.1 loaded p.2
        go (inl loaded) (inl whole) = rest (or_right (not (is_loaded w.job)) (is_swept_whole w.job w.job.loaded) whole) others
        go (inr none) whole = rest (ap (λ (t : Bool). not t || is_swept_whole w.job w.job.loaded) none) others

  searches-advance : {d : ℕ} → Searches terms w d → has_ended w.job ≡ false → Advances
  searches-advance s on = go (test-cases (is_reverse w.job.way))
    where
      go : (is_reverse w.job.way ≡ true) ⊎ (is_reverse w.job.way ≡ false) → Advances
      go (inl reverse) = reverse-advances s reverse on
      go (inr forward) = forward-advances s forward on

  pub invariant-advances : has_ended w.job ≡ false → Advances
  unfolding is_finished
  invariant-advances on = go invariant.phase
    where
      go : InPhase terms w → Advances
      go (blanking blanks) = blanks-advance blanks on
      go (searching d s) = searches-advance s on
      go (ended d s) = never (ap is_finished s.phase_is) (on-unfinished w.job on)

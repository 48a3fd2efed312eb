-- An accepted Close keeps the invariant: Blanking leads to Level 1, a level to the next, and one that brought nothing new to the end.
use mathlib.Core.Path.{◌≡◌, refl, sym, ap, ◌∙◌, subst}
use mathlib.Core.Logic.{◌⊎◌, inl, inr}
use mathlib.Core.Bool.{Bool, true, false, not, cond}
use mathlib.Core.List.{List, []}
use Prim.Native.Nat.{ℕ, suc, ◌+◌, ◌-◌, ◌/◌, ◌%◌, ◌^◌, ◌≤◌, ◌<◌}
use native.Mathlib.Nat.{div-add-mod'}
use native.Mathlib.Numerals.{add-one}
use native.Mathlib.Omega.{arith}
use lib.Dec.{eqb}
use lib.ListN.{length, get_or, set, length-set}
use lib.Seq.{get_or-set_same, get_or-set_other}
use borrow.Author.Tests.{eqb-true, eq-eqb, ne_eqb}
use Rattle.base.specs.Words.{unless}
use Rattle.base.proofs.Bits.{bit_is, bit-zero}
use Rattle.base.proofs.Counting.{all-below}
use Rattle.base.proofs.Lists.{replicate-zero}
use Rattle.base.proofs.Tests.{and_left, and_right, test-cases, not-is-false, never, lt-or-ge, eq-or-ne}
use Rattle.graph.specs.Walks.{is_move}
use Rattle.graph.proofs.LevelCounts.{counting-start, counting-whole, counting-next, counting-end}
use Rattle.graph.proofs.Levels as Levels
use Rattle.graph.proofs.Tally.{tally-zero, tally-some}
use Rattle.search.specs.Blank.{goal_of, blanked}
use Rattle.search.specs.Build.{World, with_job}
use Rattle.search.specs.Close.{is_done, is_swept_whole, is_ready, is_past_last, close_refusal, next_phase, next_counts, closed, close_of}
use Rattle.search.specs.Entries.{entry_at, bytes_for, blank, set_entry}
use Rattle.search.specs.JobState.{is_coherent, is_level, is_finished, is_reverse, in_reverse, level_of, last_level, no_segment, segment_count_of, stack_count_at, passed_of, waiting_of, swept_of, is_swept, count_of, progressed, recounted, directed}
use Rattle.search.specs.Marks.{every_stack}
use Rattle.search.specs.Segments.{segment_limit}
use Rattle.search.specs.Terms.{N, G, m}
use Rattle.search.specs.Answers.{Answer}
use Rattle.search.specs.declared.Job.{Job}
use Rattle.search.specs.declared.Phase.{Phase}
use Rattle.search.specs.declared.Phase.TheVariants.{Blanking, Level, Finished}
use Rattle.search.specs.declared.Terms.{Terms}
use Rattle.search.specs.declared.Way.{Way}
use Rattle.search.proofs.Accepted.{reverse-level, level-reverse, CloseFacts, past-facts, close_facts, close-accepted}
use Rattle.search.proofs.EntryLaws.{set-bytes, get_set_same, get_set_other, blank-length, blank-bytes, blank-entry, byte_inside, spare-inside}
use Rattle.search.proofs.Invariant.{Shaped, Spares, Blanks, Searches, Ended, Invariant, entry_in, Looked, Logged, InPhase, blanking, searching, ended}
use Rattle.search.proofs.PairLaws.{none-swept}
use Rattle.search.proofs.SegmentLaws.{segment-some, stack-segment, stack-offset}
use Rattle.search.proofs.Shapes.{size_is, segments-is, stacks-is, goal-is}
use Rattle.search.proofs.Given.{Given, moves, step, goal, D, level_count, beyond, some, few, depths, goal-here}

-- ---- the entries of a blanked segment

module _ (job : Job) (j : ℕ) where
  -- each is 3, but for the wanted stack's
  blanked-entry : (i : ℕ) → i / 4 < bytes_for (stack_count_at job j) → (goal_of job / job.terms.size ≡ j → i ≡ goal_of job % job.terms.size → ⊥)
      → entry_at (blanked job j) i ≡ 3
  unfolding blanked
  blanked-entry i h away = go (eqb (goal_of job / job.terms.size) j) refl
    where
      go : (t : Bool) → eqb (goal_of job / job.terms.size) j ≡ t
          → entry_at (cond t (set_entry (blank (stack_count_at job j)) (goal_of job % job.terms.size) 0) (blank (stack_count_at job j))) i ≡ 3
      go true e =
          get_set_other (blank (stack_count_at job j)) (goal_of job % job.terms.size) i 0 (omega arith) (away (eqb-true (goal_of job / job.terms.size) j e))
          ∙ blank-entry (stack_count_at job j) i h
      go false e = blank-entry (stack_count_at job j) i h

  blanked-bytes : (k : ℕ) → get_or (blanked job j) k 0 < 256
  unfolding blanked
  blanked-bytes k = go (eqb (goal_of job / job.terms.size) j)
    where
      go : (t : Bool) → get_or (cond t (set_entry (blank (stack_count_at job j)) (goal_of job % job.terms.size) 0) (blank (stack_count_at job j))) k 0 < 256
      go true = set-bytes (blank (stack_count_at job j)) (goal_of job % job.terms.size) 0 (omega arith) (blank-bytes (stack_count_at job j)) k
      go false = blank-bytes (stack_count_at job j) k

  blanked-goal : (i : ℕ) → i / 4 < bytes_for (stack_count_at job j) → goal_of job / job.terms.size ≡ j → i ≡ goal_of job % job.terms.size
      → entry_at (blanked job j) i ≡ 0
  unfolding blanked
  blanked-goal i h e q =
      rw (eq-eqb (goal_of job / job.terms.size) j e, ← q)
      (get_set_same (blank (stack_count_at job j)) i 0 (omega arith) (rw blank-length h))

-- ---- the world after a close

-- a level that brought stacks is followed by the next
goes_on : (counts : List ℕ) (d : ℕ) → (get_or counts d 0 ≡ 0 → ⊥) → next_phase counts (Level d) ≡ Level (d + 1)
unfolding next_phase
goes_on counts d ne = rw (ne_eqb (get_or counts d 0) 0 ne)

first-level : 1 ≤ last_level
first-level = omega arith

unfoldable pub closed_world : World → Way → World
closed_world w way = with_job (closed w.job way) w

pub close-world : (w : World) (way : Way) → close_refusal w.job ≡ 0
    → ◌≡◌ {A = World} (with_job (close_of w.job way).job w) (closed_world w way)
unfolding closed_world
close-world w way h = ap (λ (o : Answer). with_job o.job w) (close-accepted w.job way h)

module _ (w : World) (way : Way) where
  closed-passed : (j : ℕ) → passed_of (closed_world w way).job j ≡ 0
  unfolding closed_world closed progressed recounted directed passed_of
  closed-passed j = replicate-zero segment_limit j

  closed-waiting : (j : ℕ) → waiting_of (closed_world w way).job j ≡ waiting_of w.job j
  unfolding closed_world closed progressed recounted directed waiting_of
  closed-waiting j = refl

  closed-swept : (b : ℕ) → swept_of (closed_world w way).job b ≡ 0
  unfolding closed_world closed progressed recounted directed swept_of
  closed-swept b = replicate-zero segment_limit b

  closed-pair : (b j : ℕ) → is_swept (closed_world w way).job b j ≡ false
  unfolding is_swept
  closed-pair b j =
      ap (λ (x : ℕ). eqb (x / 2 ^ j % 2) 1) (closed-swept b) ∙ ap (λ (x : ℕ). eqb x 1) (bit_is 0 j ∙ bit-zero j)

  closed-loaded : (closed_world w way).job.loaded ≡ no_segment
  unfolding closed_world closed directed
  closed-loaded = refl

module _ {terms : Terms} {w : World} (shaped : Shaped terms w) (ready : is_ready w.job ≡ true) where
  -- what readiness says of each segment
  module _ (forward : in_reverse w.job ≡ false) (j : ℕ) (inside : j < G terms) where
    done : is_done w.job j ≡ true
    unfolding is_ready
    done = all-below (is_done w.job) (segment_count_of w.job) j (rw forward at ready) (rw (segments-is shaped) inside)

    ready-passed : passed_of w.job j ≡ m terms j
    unfolding is_done
    ready-passed =
        eqb-true (passed_of w.job j) (stack_count_at w.job j)
        (and_left (eqb (passed_of w.job j) (stack_count_at w.job j)) (eqb (waiting_of w.job j) 0) done)
        ∙ stacks-is shaped j

    ready-waiting : waiting_of w.job j ≡ 0
    unfolding is_done
    ready-waiting =
        eqb-true (waiting_of w.job j) 0
        (and_right (eqb (passed_of w.job j) (stack_count_at w.job j)) (eqb (waiting_of w.job j) 0) done)

  -- and of each pair
  ready-swept : in_reverse w.job ≡ true → (b j : ℕ) → b < G terms → j < G terms → is_swept w.job b j ≡ true
  unfolding is_ready is_swept_whole
  ready-swept reverse b j low inside =
      all-below (is_swept w.job b) (segment_count_of w.job) j
      (all-below (is_swept_whole w.job) (segment_count_of w.job) b (rw reverse at ready) (rw (segments-is shaped) low))
      (rw (segments-is shaped) inside)

pub no-log : (terms : Terms) (w : World) → ((j : ℕ) → waiting_of w.job j ≡ 0) → (v : ℕ) → Logged terms w v → ⊥
unfolding Logged
no-log terms w none v l = omega (arith, l.1.1, none (v / terms.size))

-- with nothing passed, waiting or swept, no edge is looked at and nothing is logged
module _ (terms : Terms) (w : World) (way : Way) where
  no-look : (u v : ℕ) → Looked terms (closed_world w way).job u v → ⊥
  unfolding Looked
  no-look u v l = go l.0
    where
      go : (u % terms.size < passed_of (closed_world w way).job (u / terms.size)) ⊎ (is_swept (closed_world w way).job (u / terms.size) (v / terms.size) ≡ true) → ⊥
      go (inl h) = omega (arith, closed-passed w way (u / terms.size))
      go (inr h) = never h (closed-pair w way (u / terms.size) (v / terms.size))

  no-log-after : ((j : ℕ) → waiting_of w.job j ≡ 0) → (v : ℕ) → Logged terms (closed_world w way) v → ⊥
  unfolding Logged
  no-log-after none v l = omega (arith, l.1.1, none (v / terms.size), closed-waiting w way (v / terms.size))

-- a level that has been searched whole, whichever way: nothing waits, and every stack of its depth is reached
pub record Complete (terms : Terms) (w : World) (d : ℕ) : Type 0 where
  pub none-waits : (j : ℕ) → waiting_of w.job j ≡ 0
  pub reached : Levels.Reached (N terms) (D terms) d (Looked terms w.job)

module _ {terms : Terms} (given : Given terms) where
  module _ {w : World} (way : Way) (shaped : Shaped terms w) (ready : is_ready w.job ≡ true) where
    -- ---- from Blanking to Level 1

    module _ (blanks : Blanks terms w) where
      unlevelled : in_reverse w.job ≡ false
      unfolding in_reverse is_level
      unlevelled = rw blanks.phase_is

      all-blanked : (j : ℕ) → j < G terms → get_or w.segments j [] ≡ blanked w.job j
      all-blanked j h = go (blanks.each j h)
        where
          go : (passed_of w.job j ≡ 0) ⊎ ((passed_of w.job j ≡ m terms j) × (get_or w.segments j [] ≡ blanked w.job j))
              → get_or w.segments j [] ≡ blanked w.job j
          go (inl z) = absurd (omega (arith, ready-passed shaped ready unlevelled j h, segment-some (N terms) terms.size (some given) j h))
          go (inr z) = z.1

      module _ (v : ℕ) (h : v < N terms) where
        entry-blanked : entry_in terms.size w.segments v ≡ entry_at (blanked w.job (v / terms.size)) (v % terms.size)
        unfolding entry_in
        entry-blanked =
            ap (λ (bytes : List ℕ). entry_at bytes (v % terms.size)) (all-blanked (v / terms.size) (stack-segment (N terms) terms.size (some given) v h))

        byte-there : v % terms.size / 4 < bytes_for (stack_count_at w.job (v / terms.size))
        byte-there =
            rw (stacks-is shaped (v / terms.size))
            (byte_inside (v % terms.size) (m terms (v / terms.size)) (stack-offset (N terms) terms.size (some given) v h))

      goal-place : goal_of w.job / w.job.terms.size ≡ goal terms / terms.size
      goal-place = rw (goal-is shaped, size_is shaped)

      goal-offset : goal_of w.job % w.job.terms.size ≡ goal terms % terms.size
      goal-offset = rw (goal-is shaped, size_is shaped)

      blank-start : entry_in terms.size w.segments (goal terms) ≡ 0
      blank-start =
          let g = goal terms in
          entry-blanked g (goal-here given) ∙ blanked-goal w.job (g / terms.size) (g % terms.size) (byte-there g (goal-here given)) goal-place (sym goal-offset)

      blank-away : (v : ℕ) → v < N terms → (v ≡ goal terms → ⊥) → entry_in terms.size w.segments v ≡ 3
      blank-away v h ne =
          entry-blanked v h
          ∙ blanked-entry w.job (v / terms.size) (v % terms.size) (byte-there v h)
          (λ e q. ne (cc (div-add-mod' v terms.size, div-add-mod' (goal terms) terms.size, goal-place, goal-offset)))

      blank-spares : Spares terms (closed_world w way)
      unfolding closed_world
      blank-spares =
          record {
            byte = λ j k h. rw (all-blanked j h) (blanked-bytes w.job j k);
            spare = λ j i h l k. ap (λ (bytes : List ℕ). entry_at bytes i) (all-blanked j h)
                ∙ blanked-entry w.job j i (rw (stacks-is shaped j) (spare-inside i (m terms j) k))
                (λ e q. omega (
                  arith,
                  goal-offset,
                  stack-offset (N terms) terms.size (some given) (goal terms) (goal-here given),
                  ap (m terms) (sym goal-place ∙ e),
                ));
          }

      counts-then : (i : ℕ) → count_of (closed_world w way).job i ≡ get_or (set w.job.counts 0 1) i 0
      unfolding closed_world closed progressed recounted directed count_of next_counts
      counts-then i = ap (λ (p : Phase). get_or (next_counts w.job.counts p) i 0) blanks.phase_is

      counts-later : (i : ℕ) → 0 < i → count_of (closed_world w way).job i ≡ 0
      unfolding count_of
      counts-later i h = counts-then i ∙ get_or-set_other w.job.counts 0 i 1 0 (λ e. omega arith) ∙ blanks.none-counted i

      counts-first : count_of (closed_world w way).job 0 ≡ 1
      counts-first = counts-then 0 ∙ get_or-set_same w.job.counts 0 1 0 (omega (arith, shaped.counts-length))

      closed-blanks : Searches terms (closed_world w way) 1
      unfolding closed_world closed progressed recounted directed next_phase count_of
      closed-blanks =
          let none : (j : ℕ) → waiting_of (closed_world w way).job j ≡ 0 = λ j. closed-waiting w way j ∙ blanks.none-waits j in
          record {
            phase_is = ap (next_phase w.job.counts) blanks.phase_is;
            last = first-level;
            before = (goal terms, goal-here given, ap suc (depths given).goal);
            passed-fits = λ j. omega (arith, closed-passed w way j);
            waiting-fits = λ j. omega (arith, none j);
            waiting-beyond = λ j h. none j;
            offsets = λ t i h l. absurd (omega (arith, none t));
            level = Levels.level-start (depths given) blank-start blank-away (λ u v g h l. no-look terms w way u v l) (no-log-after terms w way blanks.none-waits);
            spares = blank-spares;
            counts = counting-start (every_stack terms) (depths given) (goal-here given) blank-away (count_of (closed_world w way).job) counts-first counts-later;
            idle = λ r. none;
            listed = λ r l. absurd (omega (arith, few given, closed-loaded w way));
          }

  -- a level that is ready has been searched whole, whichever way

  module _ {w : World} (shaped : Shaped terms w) (ready : is_ready w.job ≡ true) {d : ℕ} (search : Searches terms w d) where
    levelled : is_level w.job.phase ≡ true
    unfolding is_level
    levelled = ap is_level search.phase_is

    pub ready-forward : is_reverse w.job.way ≡ false → (j : ℕ) → j < G terms → passed_of w.job j ≡ m terms j
    ready-forward forward = ready-passed shaped ready (not-reverse forward)
      where
        not-reverse : is_reverse w.job.way ≡ false → in_reverse w.job ≡ false
        not-reverse h = not-is-false (in_reverse w.job) (λ r. never (reverse-level w.job r).1 h)

    pub ready-reverse : is_reverse w.job.way ≡ true → (b j : ℕ) → b < G terms → j < G terms → is_swept w.job b j ≡ true
    ready-reverse reverse = ready-swept shaped ready (level-reverse w.job levelled reverse)

    pub all_settled : (j : ℕ) → waiting_of w.job j ≡ 0
    all_settled j = go (test-cases (is_reverse w.job.way)) (lt-or-ge j (G terms))
      where
        go : (is_reverse w.job.way ≡ true) ⊎ (is_reverse w.job.way ≡ false) → (j < G terms) ⊎ (G terms ≤ j) → waiting_of w.job j ≡ 0
        go (inl reverse) h = search.idle reverse j
        go (inr forward) (inl h) =
            ready-waiting shaped ready (not-is-false (in_reverse w.job) (λ r. never (reverse-level w.job r).1 forward)) j h
        go (inr forward) (inr h) = search.waiting-beyond j h

    pub ready-complete : Complete terms w d
    unfolding Looked
    ready-complete =
        record {
          none-waits = all_settled;
          reached = Levels.reached-forward (depths given) search.level.positive (omega (arith, search.last))
              (λ u k h e m. (met u k h m (test-cases (is_reverse w.job.way)), (k, m, refl)));
        }
      where
        home : (u : ℕ) → u < N terms → u / terms.size < G terms
        home u h = stack-segment (N terms) terms.size (some given) u h

        met : (u k : ℕ) → u < N terms → is_move (moves terms) k ≡ true → (is_reverse w.job.way ≡ true) ⊎ (is_reverse w.job.way ≡ false)
            → (u % terms.size < passed_of w.job (u / terms.size)) ⊎ (is_swept w.job (u / terms.size) (step terms k u / terms.size) ≡ true)
        met u k h m (inl reverse) =
            inr (ready-reverse reverse (u / terms.size) (step terms k u / terms.size) (home u h) (home (step terms k u) ((depths given).graph.inside k u m h)))
        met u k h m (inr forward) =
            inl (rw (ready-forward forward (u / terms.size) (home u h)) (stack-offset (N terms) terms.size (some given) u h))

  -- ---- from a level to the next, or to the end, however it was searched

  module _ {w : World} {d : ℕ} (search : Searches terms w d) (complete : Complete terms w d) where
    -- the level's count is complete
    pub count-whole : count_of w.job d ≡ level_count terms d
    count-whole = counting-whole search.counts search.level (no-log terms w complete.none-waits) complete.reached

    -- where the level's count is not 0 some stack is at that depth
    level-some : (count_of w.job d ≡ 0 → ⊥) → (v : ℕ) × (v < N terms) × (D terms v ≡ d)
    level-some ne =
        let r = tally-some (λ v. eqb (D terms v) d) (N terms) (omega (arith, count-whole)) in
        (r.0, r.1, eqb-true (D terms r.0) d r.2)

    -- 14 keeps a level that brought stacks below the last
    below_last : is_past_last w.job ≡ false → (count_of w.job d ≡ 0 → ⊥) → suc d ≤ last_level
    unfolding level_of
    below_last unpast ne = go (eq-or-ne d last_level)
      where
        go : (d ≡ last_level) ⊎ (d ≡ last_level → ⊥) → suc d ≤ last_level
        go (inl e) = absurd (ne (ap (count_of w.job) e ∙ past-facts w.job unpast (ap level_of search.phase_is ∙ e)))
        go (inr e) = omega (arith, search.last)

    module _ (empty : count_of w.job d ≡ 0) where
      -- nothing is at depth d, so nothing is deeper
      level-empty : (v : ℕ) → v < N terms → D terms v ≡ d → ⊥
      level-empty v h e =
          never (eq-eqb (D terms v) d e) (tally-zero (λ u. eqb (D terms u) d) (N terms) (sym count-whole ∙ empty) v h)

      all_above : (v : ℕ) → v < N terms → D terms v < beyond → (D terms v < d) × (entry_in terms.size w.segments v ≡ D terms v % 3)
      all_above v h near = go (Levels.level-end (depths given) search.level level-empty v h)
        where
          go : ((D terms v < d) × (entry_in terms.size w.segments v ≡ D terms v % 3))
              ⊎ ((D terms v ≡ beyond) × (entry_in terms.size w.segments v ≡ 3))
              → (D terms v < d) × (entry_in terms.size w.segments v ≡ D terms v % 3)
          go (inl r) = r
          go (inr r) = absurd (omega (arith, r.0))

      all-beyond : (v : ℕ) → v < N terms → D terms v ≡ beyond → entry_in terms.size w.segments v ≡ 3
      all-beyond v h far = go (Levels.level-end (depths given) search.level level-empty v h)
        where
          go : ((D terms v < d) × (entry_in terms.size w.segments v ≡ D terms v % 3))
              ⊎ ((D terms v ≡ beyond) × (entry_in terms.size w.segments v ≡ 3))
              → entry_in terms.size w.segments v ≡ 3
          go (inl r) = absurd (omega (arith, r.0, far, search.last))
          go (inr r) = r.1

    -- with the way that Close is told
    module _ (way : Way) where
      -- a level's Close leaves the counts
      closed_counts : (i : ℕ) → count_of (closed_world w way).job i ≡ count_of w.job i
      unfolding closed_world closed progressed recounted directed count_of next_counts
      closed_counts i = ap (λ (p : Phase). get_or (next_counts w.job.counts p) i 0) search.phase_is

      level-spares : Spares terms (closed_world w way)
      unfolding closed_world
      level-spares = record { byte = search.spares.byte; spare = search.spares.spare }

      closed-next : is_past_last w.job ≡ false → (count_of w.job d ≡ 0 → ⊥) → Searches terms (closed_world w way) (suc d)
      unfolding closed_world closed progressed recounted directed next_phase count_of
      closed-next unpast ne =
          let v = level-some ne in
          let none : (j : ℕ) → waiting_of (closed_world w way).job j ≡ 0 = λ j. closed-waiting w way j ∙ complete.none-waits j in
          record {
            phase_is = ap (next_phase w.job.counts) search.phase_is ∙ goes_on w.job.counts d ne ∙ ap Level (add-one d);
            last = below_last unpast ne;
            before = (v.0, v.1, ap suc v.2);
            passed-fits = λ j. omega (arith, closed-passed w way j);
            waiting-fits = λ j. omega (arith, none j);
            waiting-beyond = λ j h. none j;
            offsets = λ t i h l. absurd (omega (arith, none t));
            level = Levels.level-close search.level (no-log terms w complete.none-waits) complete.reached (λ u v g h l. no-look terms w way u v l) (no-log-after terms w way complete.none-waits);
            spares = level-spares;
            counts = counting-next search.counts search.level (no-log terms w complete.none-waits) complete.reached closed_counts;
            idle = λ r. none;
            listed = λ r l. absurd (omega (arith, few given, closed-loaded w way));
          }

      module _ (empty : count_of w.job d ≡ 0) where
        closed-last : Ended terms (closed_world w way) (d - 1)
        unfolding closed_world closed progressed recounted directed next_phase count_of
        closed-last =
            let v = search.before in
            record {
              phase_is = ap (next_phase w.job.counts) search.phase_is
                  ∙ ap (λ (t : Bool). cond t (Finished (d - 1)) (Level (d + 1))) (eq-eqb (count_of w.job d) 0 empty);
              last = omega (arith, search.last, search.level.positive);
              none_passed = closed-passed w way;
              none-waits = λ j. closed-waiting w way j ∙ complete.none-waits j;
              entries = λ v h near. (all_above empty v h near).1;
              unreached = all-beyond empty;
              greatest = λ v h near. omega (arith, (all_above empty v h near).0);
              spares = level-spares;
              counts = counting-end search.counts search.level (no-log terms w complete.none-waits) complete.reached closed_counts
                  (omega (arith, search.last)) (λ v h near. (all_above empty v h near).0);
              deepest = (v.0, v.1, omega (arith, v.2));
            }

-- ---- whatever the phase

next-counts-length : (counts : List ℕ) (p : Phase) → length (next_counts counts p) ≡ length counts
unfolding next_counts
next-counts-length counts Blanking = length-set counts 0 1
next-counts-length counts (Level d) = refl
next-counts-length counts (Finished d) = refl

closed-shaped : {terms : Terms} {w : World} (way : Way) → Shaped terms w → Shaped terms (closed_world w way)
unfolding closed_world closed progressed recounted directed
closed-shaped {terms} {w} way shaped =
    record {
      terms_is = shaped.terms_is;
      passed_length = refl;
      waiting-length = shaped.waiting-length;
      swept-length = refl;
      counts-length = next-counts-length w.job.counts w.job.phase ∙ shaped.counts-length;
      segments-length = shaped.segments-length;
      segment-bytes = shaped.segment-bytes;
      log_length = shaped.log_length;
      loaded-fits = inl refl;
      swept-fits = none-swept (closed_world w way).job (G terms) (closed-swept w way);
    }

pub close-keeps : {terms : Terms} {w : World} (way : Way) → Given terms → Invariant terms w
    → close_refusal w.job ≡ 0 → Invariant terms (closed_world w way)
unfolding is_finished
close-keeps {terms} {w} way given invariant h =
    record { shaped = closed-shaped way invariant.shaped; phase = go invariant.phase }
  where
    facts : CloseFacts w.job
    facts = close_facts w.job h

    level : (d : ℕ) → Searches terms w d → (count_of w.job d ≡ 0) ⊎ (count_of w.job d ≡ 0 → ⊥) → InPhase terms (closed_world w way)
    level d s (inl e) = ended (d - 1) (closed-last given s (ready-complete given invariant.shaped facts.ready s) way e)
    level d s (inr ne) = searching (suc d) (closed-next given s (ready-complete given invariant.shaped facts.ready s) way facts.fits ne)

    go : InPhase terms w → InPhase terms (closed_world w way)
    go (blanking s) = searching 1 (closed-blanks given way invariant.shaped facts.ready s)
    go (searching d s) = level d s (eq-or-ne (count_of w.job d) 0)
    go (ended d s) = never (ap is_finished s.phase_is) facts.unfinished

-- ---- a Close that says 14

-- the refusal is a later one
later : (ok : Bool) (r rest x : ℕ) → (r ≡ x → ⊥) → unless ok r rest ≡ x → (ok ≡ true) × (rest ≡ x)
later true r rest x ne h = (refl, h)
later false r rest x ne h = absurd (ne h)

-- the job is ready, and the last level has stacks
pub refused-14 : (job : Job) → close_refusal job ≡ 14 → (is_ready job ≡ true) × (is_past_last job ≡ true)
unfolding close_refusal
refused-14 job h =
    let fits : ℕ = unless (not (is_past_last job)) 14 0 in
    let ready : ℕ = unless (is_ready job) 13 fits in
    let a = later (is_coherent job) 7 (unless (not (is_finished job.phase)) 8 ready) 14 (λ e. omega arith) h in
    let b = later (not (is_finished job.phase)) 8 ready 14 (λ e. omega arith) a.1 in
    let c = later (is_ready job) 13 fits 14 (λ e. omega arith) b.1 in
    (c.0, past (is_past_last job) c.1)
  where
    past : (t : Bool) → unless (not t) 14 0 ≡ 14 → t ≡ true
    past true e = refl
    past false e = absurd (omega (arith, e))

-- so the build is in the last level, which it has searched whole, and some stack is that deep
module _ {terms : Terms} {w : World} (given : Given terms) (invariant : Invariant terms w) (h : close_refusal w.job ≡ 14) where
  at_last : level_of w.job.phase ≡ last_level
  unfolding is_past_last
  at_last =
      eqb-true (level_of w.job.phase) last_level
      (and_left (eqb (level_of w.job.phase) last_level) (not (eqb (count_of w.job last_level) 0)) (refused-14 w.job h).1)

  some-last : count_of w.job last_level ≡ 0 → ⊥
  unfolding is_past_last
  some-last e =
      never
      (and_right (eqb (level_of w.job.phase) last_level) (not (eqb (count_of w.job last_level) 0)) (refused-14 w.job h).1)
      (ap not (eq-eqb (count_of w.job last_level) 0 e))

  pub last-searches : Searches terms w last_level
  unfolding level_of
  last-searches = go invariant.phase
    where
      go : InPhase terms w → Searches terms w last_level
      go (blanking s) = absurd (omega (arith, ap level_of s.phase_is, at_last, first-level))
      go (searching d s) = subst (Searches terms w) (sym (ap level_of s.phase_is) ∙ at_last) s
      go (ended d s) = absurd (omega (arith, ap level_of s.phase_is, at_last, s.last))

  last-ready : is_ready w.job ≡ true
  last-ready = (refused-14 w.job h).0

  pub last-complete : Complete terms w last_level
  last-complete = ready-complete given invariant.shaped last-ready last-searches

  pub last-deep : (v : ℕ) × (v < N terms) × (D terms v ≡ last_level)
  last-deep = level-some given last-searches last-complete some-last

  pub last-passed : is_reverse w.job.way ≡ false → (j : ℕ) → j < G terms → passed_of w.job j ≡ m terms j
  last-passed = ready-forward given invariant.shaped last-ready last-searches

  pub last-swept : is_reverse w.job.way ≡ true → (b j : ℕ) → b < G terms → j < G terms → is_swept w.job b j ≡ true
  last-swept = ready-reverse given invariant.shaped last-ready last-searches

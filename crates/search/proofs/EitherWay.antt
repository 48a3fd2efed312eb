-- A level leaves the same by either way: where it is searched whole each entry and count follows from the depths alone, and so do the
-- segments, what Close answers, and the phase after it.
use mathlib.Core.Path.{◌≡◌, sym, ap, ◌∙◌, subst}
use mathlib.Core.Logic.{◌⊎◌, inl, inr}
use mathlib.Core.Bool.{true, false, not, ◌&&◌, cond}
use mathlib.Core.List.{List, [], ◌∷◌}
use Prim.Native.Nat.{ℕ, ◌+◌, ◌*◌, ◌%◌, ◌<◌, ◌≤◌}
use native.Mathlib.Omega.{arith}
use lib.Dec.{leb, eqb}
use lib.ListN.{get_or}
use lib.Seq.{ext_get_or}
use borrow.Author.Tests.{le-leb, lt-leb}
use Rattle.base.specs.Words.{unless}
use Rattle.base.proofs.Counting.{below_all}
use Rattle.base.proofs.Tests.{test-cases, never, lt-or-ge, eq-or-ne}
use Rattle.graph.proofs.LevelCounts.{counting-is}
use Rattle.graph.proofs.Levels.{level-found}
use Rattle.search.specs.Build.{World, Lengths, Call, outcome, after, do_close}
use Rattle.search.specs.Close.{is_ready, is_past_last, is_swept_whole, next_phase, next_counts, closed, close_refusal, close_of}
use Rattle.search.specs.EitherWay.{SearchedWhole, SameLevel, EitherWay, JustClosed, EitherWayClosed}
use Rattle.search.specs.Entries.{entry_at, bytes_for}
use Rattle.search.specs.JobState.{last_level, segment_count_of, count_of, is_swept, is_reverse, is_level, is_finished, level_of, progressed, recounted, directed}
use Rattle.search.specs.Promise.{right_lengths}
use Rattle.search.specs.PromiseBy.{AtEnd}
use Rattle.search.specs.Terms.{N, G, m}
use Rattle.search.specs.declared.Phase.{Phase}
use Rattle.search.specs.declared.Phase.TheVariants.{Level}
use Rattle.search.specs.declared.Terms.{Terms}
use Rattle.search.specs.declared.Way.{Way}
use Rattle.search.proofs.Accepted.{close_facts, close-phase}
use Rattle.search.proofs.Advancing.{all-ready, search-forward, swept-ready}
use Rattle.search.proofs.BlankKeeps.{begun-invariant}
use Rattle.search.proofs.BuildCoherent.{invariant-coherent}
use Rattle.search.proofs.CloseKeeps.{closed_world, close-world, Complete, ready-forward, ready-reverse, all_settled, ready-complete, no-log}
use Rattle.search.proofs.Coherence.{begin-given}
use Rattle.search.proofs.EntryLaws.{entries-same}
use Rattle.search.proofs.Invariant.{Invariant, InPhase, Searches, blanking, searching, ended, entry_in}
use Rattle.search.proofs.MarkLaws.{entry-own}
use Rattle.search.proofs.Refused.{refusal_of, refusal_is}
use Rattle.search.proofs.SegmentLaws.{segment-stack}
use Rattle.search.proofs.Shapes.{segments-is, stacks-is}
use Rattle.search.proofs.Steps.{after-keeps}
use Rattle.search.proofs.Given.{Given, D, level_count, some}
use Rattle.search.proofs.WholeBuild.{after-append}

-- what a level that is searched whole leaves, by the depths
record Levelled (terms : Terms) (d : ℕ) (w : World) : Type 0 where
  entries : (v : ℕ) → v < N terms → entry_in terms.size w.segments v ≡ cond (leb (D terms v) d) (D terms v % 3) 3
  counts : (i : ℕ) → count_of w.job i ≡ cond (leb i d) (level_count terms i) 0

level-searches : {terms : Terms} {w : World} → Invariant terms w → (d : ℕ) → w.job.phase ≡ Level d → Searches terms w d
unfolding is_level level_of
level-searches {terms} {w} invariant d level = go invariant.phase
  where
    go : InPhase terms w → Searches terms w d
    go (blanking s) = never (ap is_level level) (ap is_level s.phase_is)
    go (searching e s) = subst (Searches terms w) (sym (ap level_of s.phase_is) ∙ ap level_of level) s
    go (ended e s) = never (ap is_level level) (ap is_level s.phase_is)

module _ {terms : Terms} (given : Given terms) where
  module _ {w : World} (invariant : Invariant terms w) {d : ℕ} (search : Searches terms w d) where
    -- what is searched whole is ready to close, and what is ready is searched whole
    whole_ready : SearchedWhole d w → is_ready w.job ≡ true
    unfolding is_swept_whole
    whole_ready whole = go (test-cases (is_reverse w.job.way))
      where
        inside : (j : ℕ) → j < G terms → j < segment_count_of w.job
        inside j h = rw (segments-is invariant.shaped) h

        go : (is_reverse w.job.way ≡ true) ⊎ (is_reverse w.job.way ≡ false) → is_ready w.job ≡ true
        go (inl reverse) =
            swept-ready given invariant search reverse
            (λ b low. below_all (is_swept w.job b) (segment_count_of w.job) (λ j l. whole.swept reverse b j (inside b low) l))
        go (inr forward) =
            all-ready given invariant (search-forward given invariant search forward)
            (λ j h. omega (arith, whole.passed forward j (inside j h), stacks-is invariant.shaped j))
            (λ j h. whole.settled forward j (inside j h))

    ready-whole : is_ready w.job ≡ true → SearchedWhole d w
    ready-whole ready =
        let shaped = invariant.shaped in
        record {
          level = search.phase_is;
          passed = λ forward j h. ready-forward given shaped ready search forward j (rw (segments-is shaped) at h) ∙ sym (stacks-is shaped j);
          settled = λ forward j h. all_settled given shaped ready search j;
          swept = λ reverse b j low h. ready-reverse given shaped ready search reverse b j
              (rw (segments-is shaped) at low) (rw (segments-is shaped) at h);
        }

    module _ (ready : is_ready w.job ≡ true) where
      complete : Complete terms w d
      complete = ready-complete given invariant.shaped ready search

      levelled : Levelled terms d w
      levelled =
          record {
            entries = entry;
            counts = counting-is search.counts search.level (no-log terms w complete.none-waits) complete.reached;
          }
        where
          found : (v : ℕ) → v < N terms → D terms v ≡ d → entry_in terms.size w.segments v ≡ d % 3
          found = level-found search.level (no-log terms w complete.none-waits) complete.reached

          deep : (v : ℕ) → d < D terms v → (entry_in terms.size w.segments v ≡ 3) ⊎ ((D terms v ≡ d) × (entry_in terms.size w.segments v ≡ d % 3))
              → entry_in terms.size w.segments v ≡ 3
          deep v l (inl e) = e
          deep v l (inr e) = absurd (omega (arith, e.0))

          entry : (v : ℕ) → v < N terms → entry_in terms.size w.segments v ≡ cond (leb (D terms v) d) (D terms v % 3) 3
          entry v h = go (lt-or-ge (D terms v) d) (eq-or-ne (D terms v) d)
            where
              go : (D terms v < d) ⊎ (d ≤ D terms v) → (D terms v ≡ d) ⊎ (D terms v ≡ d → ⊥)
                  → entry_in terms.size w.segments v ≡ cond (leb (D terms v) d) (D terms v % 3) 3
              go (inl l) e = rw (le-leb (D terms v) d (omega arith)) (search.level.below v h l)
              go (inr l) (inl e) = rw (le-leb (D terms v) d (omega arith)) (found v h e ∙ sym (ap (λ (x : ℕ). x % 3) e))
              go (inr l) (inr ne) = rw (lt-leb (D terms v) d (omega arith)) (deep v (omega arith) (search.level.above v h l))

      -- Close has nothing to say but 14
      close-says : close_refusal w.job ≡ unless (not (is_past_last w.job)) 14 0
      unfolding close_refusal is_finished
      close-says = rw (invariant-coherent given invariant, ap is_finished search.phase_is, ready)

  -- two worlds of one build's terms
  module _ {w w' : World} (invariant : Invariant terms w) (invariant' : Invariant terms w') {d : ℕ}
      (search : Searches terms w d) (search' : Searches terms w' d) (ready : is_ready w.job ≡ true) (ready' : is_ready w'.job ≡ true) where
    same-entry : (j : ℕ) → j < G terms → (i : ℕ) → i < 4 * bytes_for (m terms j)
        → entry_at (get_or w.segments j []) i ≡ entry_at (get_or w'.segments j []) i
    same-entry j h i k = go (lt-or-ge i (m terms j))
      where
        at : (x : World) → i < m terms j → entry_in terms.size x.segments (j * terms.size + i) ≡ entry_at (get_or x.segments j []) i
        at x l = entry-own (N terms) terms.size (some given) x.segments j i l

        go : (i < m terms j) ⊎ (m terms j ≤ i) → entry_at (get_or w.segments j []) i ≡ entry_at (get_or w'.segments j []) i
        go (inl l) =
            let v : j * terms.size + i < N terms = segment-stack (N terms) terms.size (some given) j i l in
            sym (at w l)
            ∙ (levelled invariant search ready).entries (j * terms.size + i) v
            ∙ sym ((levelled invariant' search' ready').entries (j * terms.size + i) v)
            ∙ at w' l
        go (inr l) = search.spares.spare j i h l k ∙ sym (search'.spares.spare j i h l k)

    same-segments : w.segments ≡ w'.segments
    same-segments =
        ext_get_or [] w.segments w'.segments (invariant.shaped.segments-length ∙ sym invariant'.shaped.segments-length)
        (λ j l.
        let h : j < G terms = omega (arith, invariant.shaped.segments-length) in
        entries-same (get_or w.segments j []) (get_or w'.segments j [])
        (invariant.shaped.segment-bytes j h ∙ sym (invariant'.shaped.segment-bytes j h))
        (λ k. search.spares.byte j k h)
        (λ k. search'.spares.byte j k h)
        (λ i k. same-entry j h i (omega (arith, invariant.shaped.segment-bytes j h))))

    same-counts : w.job.counts ≡ w'.job.counts
    unfolding count_of
    same-counts =
        ext_get_or 0 w.job.counts w'.job.counts (invariant.shaped.counts-length ∙ sym invariant'.shaped.counts-length)
        (λ i l. (levelled invariant search ready).counts i ∙ sym ((levelled invariant' search' ready').counts i))

    same-phase : w.job.phase ≡ w'.job.phase
    same-phase = search.phase_is ∙ sym search'.phase_is

    same-refusal : close_refusal w.job ≡ close_refusal w'.job
    unfolding is_past_last count_of
    same-refusal = close-says invariant search ready ∙ (λ i. by (same-phase i) (same-counts i)) ∙ sym (close-says invariant' search' ready')
      where
        by : Phase → List ℕ → ℕ
        by phase counts = unless (not (eqb (level_of phase) last_level && not (eqb (get_or counts last_level 0) 0))) 14 0

    same-closed : (way way' : Way) → (close_of w.job way).job.phase ≡ (close_of w'.job way').job.phase
    same-closed way way' =
        close-phase w.job way ∙ (λ i. by (same-refusal i) (same-counts i) (same-phase i)) ∙ sym (close-phase w'.job way')
      where
        by : ℕ → List ℕ → Phase → Phase
        by r counts phase = cond (eqb r 0) (next_phase counts phase) phase

    same-level : SameLevel (right_lengths terms) w w'
    unfolding outcome close_of
    same-level =
        record { segments = same-segments; counts = same-counts; refusals = λ way way'. same-refusal; phases = same-closed }

pub either_way : EitherWay
unfolding EitherWay
either_way terms segments segments' log log' changed changed' accepted buffers buffers' calls calls' d whole whole' =
    let given = begin-given accepted in
    let a = after-keeps given (begun-invariant terms segments log changed buffers) calls in
    let b = after-keeps given (begun-invariant terms segments' log' changed' buffers') calls' in
    let s = level-searches a d whole.level in
    let t = level-searches b d whole'.level in
    same-level given a b s t (whole_ready given a s whole) (whole_ready given b t whole')

-- the other end of a build is the last level, searched whole, so any two builds of a Begin that come to it have the same table and counts
pub end_whole : {terms : Terms} {right : Lengths} {w : World} → AtEnd terms right w → SearchedWhole last_level w
end_whole end = record { level = end.level; passed = end.passed; settled = λ forward. end.settled; swept = end.swept }

-- ---- a level that is closed

module _ {terms : Terms} (given : Given terms) {start : World} (begins : Invariant terms start) {d : ℕ} {calls : List (Call (right_lengths terms))}
    (close : JustClosed start d calls) where
  abbrev last : World
  last = after start close.before

  accepts : close_refusal last.job ≡ 0
  unfolding refusal_of
  accepts = sym (refusal_is {right = right_lengths terms} last (do_close close.way)) ∙ close.accepted

  -- it was searched whole
  closed-whole : SearchedWhole d last
  closed-whole =
      let invariant = after-keeps given begins close.before in
      ready-whole given invariant (level-searches invariant d close.level) (close_facts last.job accepts).ready

  leads : after start calls ≡ (outcome {right = right_lengths terms} last (do_close close.way)).world
  unfolding after
  leads = ap (after start) close.place ∙ after-append start close.before (do_close close.way ∷ [])

  -- its Close leaves the segments and the counts
  leads-segments : (after start calls).segments ≡ last.segments
  unfolding outcome
  leads-segments = ap (λ (w : World). w.segments) leads

  leads-counts : (after start calls).job.counts ≡ last.job.counts
  unfolding outcome closed_world closed directed progressed recounted next_counts
  leads-counts =
      ap (λ (w : World). w.job.counts) (leads ∙ close-world last close.way accepts)
      ∙ ap (next_counts last.job.counts) close.level

pub either-way-closed : EitherWayClosed
unfolding EitherWayClosed EitherWay
either-way-closed terms segments segments' log log' changed changed' accepted buffers buffers' calls calls' d close close' =
    let given = begin-given accepted in
    let a = begun-invariant terms segments log changed buffers in
    let b = begun-invariant terms segments' log' changed' buffers' in
    let same =
    either_way terms segments segments' log log' changed changed' accepted buffers buffers' close.before close'.before d
    (closed-whole given a close) (closed-whole given b close') in
    record {
      segments = leads-segments given a close ∙ same.segments ∙ sym (leads-segments given b close');
      counts = leads-counts given a close ∙ same.counts ∙ sym (leads-counts given b close');
      phases = ap (λ (w : World). w.job.phase) (leads given a close)
          ∙ same.phases close.way close'.way
          ∙ sym (ap (λ (w : World). w.job.phase) (leads given b close'));
    }

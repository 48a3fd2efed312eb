-- The whole-build theorem: demands 2 and 3 by any set, for every list of calls after an accepted Begin.
use mathlib.Core.Path.{◌≡◌, refl, sym, ap, ◌∙◌, subst}
use mathlib.Core.Logic.{◌⊎◌, inl, inr}
use mathlib.Core.Bool.{true, false, not, false≢true}
use mathlib.Core.List.{List, [], ◌∷◌, ◌++◌}
use Prim.Native.Nat.{ℕ, zero, suc, ◌-◌, ◌≤◌, ◌<◌}
use native.Mathlib.Nat.{le_refl}
use native.Mathlib.Omega.{arith}
use lib.Dec.{eqb}
use lib.ListN.{length, get_or, set}
use lib.Seq.{set-get_or}
use borrow.Author.Tests.{eqb-true, not-true, not-false}
use Rattle.base.proofs.Counting.{all-below}
use Rattle.base.proofs.Tests.{or_cases, test-cases, not-is-false, never, eq-or-ne}
use Rattle.search.specs.Begin.{begun}
use Rattle.search.specs.Build.{World, Lengths, Call, CarriesOn, own, other, do_blank, do_expand, do_settle, do_look, do_load, do_sweep, do_close, with_job, with_segment, loaded_as, lent, kept, lent_list, is_own, is_lent_own, is_load_due, outcome, after, passes, empties, sweeps, loads, changes}
use Rattle.search.specs.Close.{is_done, is_swept_whole, is_ready, is_past_last, close_refusal}
use Rattle.search.specs.Drive.{has_ended}
use Rattle.search.specs.JobState.{is_blanking, is_level, is_finished, is_reverse, in_reverse, level_of, last_level, no_segment, stack_count_of, segment_count_of, stack_count_at, passed_of, waiting_of, count_of, is_loaded, is_swept, swept_of, progressed, recounted, directed}
use Rattle.search.specs.Load.{load_refusal}
use Rattle.search.specs.Logs.{log_part, indexes_of, pending}
use Rattle.search.specs.Marks.{Marks, mark_all, found_at, with_found, marks_from, marked_job}
use Rattle.search.specs.Promise.{Continues, FinishedByClose, right_lengths}
use Rattle.search.specs.PromiseBy.{Needs, FinishesBy, AtEnd, PromiseBy, WholeBuildBy}
use Rattle.search.specs.Segments.{segment_limit}
use Rattle.search.specs.Settle.{settle_refusal}
use Rattle.search.specs.Terms.{N}
use Rattle.search.specs.Answers.{Answer}
use Rattle.search.specs.declared.Phase.{Phase}
use Rattle.search.specs.declared.Phase.TheVariants.{Blanking, Level, Finished}
use Rattle.search.specs.declared.Job.{Job}
use Rattle.search.specs.declared.Terms.{Terms}
use Rattle.search.specs.declared.Way.{Way}
use Rattle.search.specs.declared.Way.TheVariants.{Forward}
use Rattle.search.proofs.MarkLaws.{found-same}
use Rattle.search.proofs.Accepted.{forward-level, reverse-level, blank-facts, expand-facts, settle-facts, load-facts, sweep-facts, close_facts, settle-accepted, blank-phase, expand-phase, settle-phase, load-phase, sweep-phase}
use Rattle.search.proofs.Advancing.{ended-cases, close-14, invariant-advances}
use Rattle.search.proofs.BlankKeeps.{begun-invariant}
use Rattle.search.proofs.BuildCoherent.{invariant-coherent}
use Rattle.search.proofs.CloseKeeps.{refused-14, last-searches, last-complete, last-deep, last-passed, last-swept}
use Rattle.search.proofs.Coherence.{begin-given}
use Rattle.search.proofs.Finishing.{depth-needs, ended-finishes}
use Rattle.search.proofs.Invariant.{Invariant, InPhase, blanking, searching, ended}
use Rattle.search.proofs.LoadKeeps.{loaded_world, load-world}
use Rattle.search.proofs.Refused.{refusal_of, refusal_is, refused-same, accepted-own}
use Rattle.search.proofs.Shapes.{segments-is, stacks-is, loaded-low}
use Rattle.search.proofs.Steps.{step_keeps, after-keeps}
use Rattle.search.proofs.WorkLeft.{work_left}
use Rattle.search.proofs.Given.{Given, few}

-- ---- what has finished stays so

finished-blanking : (p : Phase) → is_finished p ≡ true → is_blanking p ≡ false
unfolding is_finished is_blanking
finished-blanking Blanking h = absurd (false≢true h)
finished-blanking (Level d) h = refl
finished-blanking (Finished d) h = refl

finished-level : (p : Phase) → is_finished p ≡ true → is_level p ≡ false
unfolding is_finished is_level
finished-level Blanking h = refl
finished-level (Level d) h = absurd (false≢true h)
finished-level (Finished d) h = refl

module _ {right : Lengths} where
  finished-refuses : (w : World) (call : Call right) → is_finished w.job.phase ≡ true
      → (refusal_of w call ≡ 0 → ⊥) ⊎ ((outcome w call).world ≡ w)
  unfolding refusal_of outcome
  finished-refuses w (do_blank j segment) h =
      inl (λ e. never (blank-facts w.job j (length (lent segment (get_or w.segments j []))) e).called.in-phase (finished-blanking w.job.phase h))
  finished-refuses w (do_expand j segment log) h =
      inl (λ e. never
      (forward-level w.job (expand-facts w.job j (length (lent segment (get_or w.segments j []))) (length (lent log w.log)) e).0.called.in-phase).0
      (finished-level w.job.phase h))
  finished-refuses w (do_settle j segment log) h =
      inl (λ e. never
      (forward-level w.job (settle-facts w.job j (length (lent segment (get_or w.segments j []))) (lent log w.log) e).0.called.in-phase).0
      (finished-level w.job.phase h))
  finished-refuses w (do_look j log) h = inr refl
  finished-refuses w (do_load b segment list) h =
      inl (λ e. never
      (reverse-level w.job (load-facts w.job b (length (lent segment (get_or w.segments b []))) (length list) e).called.in-phase).0
      (finished-level w.job.phase h))
  finished-refuses w (do_sweep j segment list) h =
      inl (λ e. never
      (reverse-level w.job
      (sweep-facts w.job j (length (lent segment (get_or w.segments j []))) (length (lent_list w.job list w.changed)) e).called.in-phase).0
      (finished-level w.job.phase h))
  finished-refuses w (do_close way) h = inl (λ e. never h (close_facts w.job e).unfinished)

  pub finished-same : (w : World) (call : Call right) → is_finished w.job.phase ≡ true → (outcome w call).world ≡ w
  finished-same w call h = go (finished-refuses w call h)
    where
      go : (refusal_of w call ≡ 0 → ⊥) ⊎ ((outcome w call).world ≡ w) → (outcome w call).world ≡ w
      go (inl ne) = refused-same w call (λ e. ne (sym (refusal_is w call) ∙ e))
      go (inr e) = e

  pub finished-stays : (w : World) (calls : List (Call right)) → is_finished w.job.phase ≡ true → after w calls ≡ w
  unfolding after
  finished-stays w [] h = refl
  finished-stays w (call ∷ calls) h = ap (λ (x : World). after x calls) (finished-same w call h) ∙ finished-stays w calls h

  pub after-append : (w : World) (calls more : List (Call right)) → after w (calls ++ more) ≡ after (after w calls) more
  unfolding after
  after-append w [] more = refl
  after-append w (call ∷ calls) more = after-append (outcome w call).world calls more

-- ---- only Close finishes a build

module _ {right : Lengths} where
  -- the other calls answer a job of the same phase, accepted or refused
  pub only-close-finishes : (w : World) (call : Call right) → is_finished w.job.phase ≡ false
      → is_finished (outcome w call).world.job.phase ≡ true → (way : Way) × (call ≡ do_close way)
  unfolding outcome
  only-close-finishes w (do_blank j segment) u f =
      never f (ap is_finished (blank-phase w.job j (lent segment (get_or w.segments j []))) ∙ u)
  only-close-finishes w (do_expand j segment log) u f =
      never f (ap is_finished (expand-phase w.job j (lent segment (get_or w.segments j [])) (lent log w.log)) ∙ u)
  only-close-finishes w (do_settle j segment log) u f =
      never f (ap is_finished (settle-phase w.job j (lent segment (get_or w.segments j [])) (lent log w.log)) ∙ u)
  only-close-finishes w (do_look j log) u f = never f u
  only-close-finishes w (do_load b segment list) u f =
      never f (ap is_finished (load-phase w.job b (lent segment (get_or w.segments b [])) list) ∙ u)
  only-close-finishes w (do_sweep j segment list) u f =
      never f (ap is_finished (sweep-phase w.job j (lent segment (get_or w.segments j [])) (lent_list w.job list w.changed)) ∙ u)
  only-close-finishes w (do_close way) u f = (way, refl)

  -- a call that finishes a build is accepted
  finishing-accepted : (w : World) (call : Call right) → is_finished w.job.phase ≡ false → is_finished (outcome w call).world.job.phase ≡ true
      → (outcome w call).refusal ≡ 0
  finishing-accepted w call u f = go (eq-or-ne (outcome w call).refusal 0)
    where
      go : ((outcome w call).refusal ≡ 0) ⊎ ((outcome w call).refusal ≡ 0 → ⊥) → (outcome w call).refusal ≡ 0
      go (inl e) = e
      go (inr ne) = never f (ap (λ (x : World). is_finished x.job.phase) (refused-same w call ne) ∙ u)

  finished-by-close : (w : World) (calls : List (Call right)) → is_finished w.job.phase ≡ false → is_finished (after w calls).job.phase ≡ true
      → FinishedByClose w calls
  unfolding after
  finished-by-close w [] u f = never f u
  finished-by-close w (call ∷ calls) u f =
      go (λ v. finished-by-close (outcome w call).world calls v f) (test-cases (is_finished (outcome w call).world.job.phase))
    where
      -- what holds of the call, as one of Close
      close : is_finished (outcome w call).world.job.phase ≡ true
          → (way : Way) × (call ≡ do_close way) × ((outcome {right = right} w (do_close way)).refusal ≡ 0)
          × (is_finished (outcome {right = right} w (do_close way)).world.job.phase ≡ true)
      close e =
          let c = only-close-finishes w call u e in (
            c.0,
            c.1,
            subst (λ (x : Call right). (outcome w x).refusal ≡ 0) c.1 (finishing-accepted w call u e),
            subst (λ (x : Call right). is_finished (outcome w x).world.job.phase ≡ true) c.1 e,
          )

      go : (is_finished (outcome w call).world.job.phase ≡ false → FinishedByClose (outcome w call).world calls)
          → (is_finished (outcome w call).world.job.phase ≡ true) ⊎ (is_finished (outcome w call).world.job.phase ≡ false)
          → FinishedByClose w (call ∷ calls)
      go rest (inl e) =
          record {
            before = [];
            later = calls;
            way = (close e).0;
            place = ap (λ (c : Call right). c ∷ calls) (close e).1;
            unfinished = u;
            accepted = (close e).2;
            finished = (close e).3;
          }
      go rest (inr e) =
          let r = rest e in
          record {
            before = call ∷ r.before;
            later = r.later;
            way = r.way;
            place = ap (λ (cs : List (Call right)). call ∷ cs) r.place;
            unfinished = r.unfinished;
            accepted = r.accepted;
            finished = r.finished;
          }

  closed-is-finished : (w : World) (calls : List (Call right)) → FinishedByClose w calls → is_finished (after w calls).job.phase ≡ true
  unfolding after
  closed-is-finished w calls f =
      let end : World = (outcome {right = right} (after w f.before) (do_close f.way)).world in
      ap (λ (cs : List (Call right)). is_finished (after w cs).job.phase) f.place
      ∙ ap (λ (x : World). is_finished x.job.phase) (after-append w f.before (do_close f.way ∷ f.later) ∙ finished-stays end f.later f.finished)
      ∙ f.finished

-- ---- where Close says 14

-- where nothing changes, nothing carries the build on
still-carries : (w : World) → segment_count_of w.job ≤ segment_limit → CarriesOn w w → ⊥
unfolding is_load_due is_loaded is_swept_whole
still-carries w few (passes j h) = omega arith
still-carries w few (empties j h e) = omega arith
still-carries w few (sweeps b j was is) = never is was
still-carries w few (loads b j due e low l left) = go (or_cases (not (is_loaded w.job)) (is_swept_whole w.job w.job.loaded) due)
  where
    go : (not (is_loaded w.job) ≡ true) ⊎ (is_swept_whole w.job w.job.loaded ≡ true) → ⊥
    go (inl none) = omega (arith, few, low, e, eqb-true w.job.loaded no_segment (not-false (eqb w.job.loaded no_segment) (not-true (is_loaded w.job) none)))
    go (inr whole) =
        never (all-below (is_swept w.job w.job.loaded) (segment_count_of w.job) j whole l) (ap (λ (x : ℕ). is_swept w.job x j) e ∙ left)
still-carries w few (changes ne) = ne refl

-- nor where only what is loaded changes and every pair is swept
reloaded-carries : (w x : World) → x ≡ loaded_as x w → ((b j : ℕ) → b < segment_count_of w.job → j < segment_count_of w.job → is_swept w.job b j ≡ true)
    → CarriesOn w x → ⊥
unfolding directed passed_of waiting_of swept_of is_swept
reloaded-carries w x e all (passes j h) = omega (arith, ap (λ (y : World). passed_of y.job j) e)
reloaded-carries w x e all (empties j h z) = omega (arith, ap (λ (y : World). waiting_of y.job j) e)
reloaded-carries w x e all (sweeps b j was is) = never (sym (ap (λ (y : World). is_swept y.job b j) e) ∙ is) was
reloaded-carries w x e all (loads b j due f low l left) = never (all b j low l) left
reloaded-carries w x e all (changes ne) = ne (sym (ap (λ (y : World). y.job.phase) e))

module _ {terms : Terms} (given : Given terms) {w : World} (invariant : Invariant terms w) (h : close_refusal w.job ≡ 14) where
  last-is : w.job.phase ≡ Level last_level
  last-is = (last-searches given invariant h).phase_is

  swept-whole : is_reverse w.job.way ≡ true → (b j : ℕ) → b < segment_count_of w.job → j < segment_count_of w.job → is_swept w.job b j ≡ true
  swept-whole r b j low l =
      last-swept given invariant h r b j (rw (segments-is invariant.shaped) at low) (rw (segments-is invariant.shaped) at l)

  -- a Load changes only what is loaded
  loads-only : (b : ℕ) (list : List ℕ) → load_refusal w.job b (length (get_or w.segments b [])) (length list) ≡ 0
      → (let x = (outcome {right = right_lengths terms} w (do_load b own list)).world in x ≡ loaded_as x w)
  unfolding loaded_world directed
  loads-only b list e = let q = load-world (right_lengths terms) w b list e in q ∙ sym (ap (λ (x : World). loaded_as x w) q)

  -- a Settle of an empty log changes nothing
  settle-still : (j : ℕ) → settle_refusal w.job j (length (get_or w.segments j [])) w.log ≡ 0
      → (outcome {right = right_lengths terms} w (do_settle j own own)).world ≡ w
  unfolding outcome lent kept pending log_part indexes_of mark_all progressed recounted count_of waiting_of
  settle-still j accepted =
      let segment : List ℕ = get_or w.segments j [] in
      let d : ℕ = level_of w.job.phase in
      let none : get_or w.job.waiting j 0 ≡ 0 = (last-complete given invariant h).none-waits j in
      ap (λ (o : List ℕ × Answer). with_job o.1.job (with_segment j o.0 w)) (settle-accepted w.job j segment w.log accepted)
      ∙ ap (λ (count : ℕ). settled j (mark_all w.job.terms d (indexes_of w.job.terms.size j (log_part w.job.terms.room j count w.log)) (marks_from w.job segment))) none
      ∙ ap (λ (x : List ℕ). relisted x (with_found w.job d (found_at w.job d)) (set w.segments j segment))
      (ap (λ (x : ℕ). set w.job.waiting j x) (sym none) ∙ set-get_or w.job.waiting j 0)
      ∙ ap (λ (x : Job). relisted w.job.waiting x (set w.segments j segment)) (found-same w.job d)
      ∙ ap (relisted w.job.waiting w.job) (set-get_or w.segments j [])
    where
      settled : ℕ → Marks → World
      settled j marks = with_job (marked_job w.job w.job.passed (set w.job.waiting j 0) marks) (with_segment j marks.segment w)

      relisted : List ℕ → Job → List (List ℕ) → World
      relisted waiting job segments =
          record { job = progressed job w.job.phase w.job.passed waiting; segments = segments; log = w.log; changed = w.changed }

  -- a call leaves the world as it is, or loads a segment in a reverse level
  Stays : World → Type 0
  Stays x = (x ≡ w) ⊎ ((is_reverse w.job.way ≡ true) × (x ≡ loaded_as x w))

  own-still : (call : Call (right_lengths terms)) → refusal_of w call ≡ 0 → is_lent_own call ≡ true → Stays (outcome w call).world
  unfolding Stays outcome refusal_of is_lent_own is_own lent kept is_blanking
  own-still (do_blank j segment) e o =
      never (blank-facts w.job j (length (lent segment (get_or w.segments j []))) e).called.in-phase (ap is_blanking last-is)
  own-still (do_expand j segment log) e o =
      let f = expand-facts w.job j (length (lent segment (get_or w.segments j []))) (length (lent log w.log)) e in
      absurd
      (omega (
        arith,
        f.1,
        stacks-is invariant.shaped j,
        last-passed given invariant h (forward-level w.job f.0.called.in-phase).1 j (rw (segments-is invariant.shaped) at f.0.called.inside),
      ))
  own-still (do_settle j own own) e o = inl (settle-still j e)
  own-still (do_settle j own (other xs wrong)) e o = absurd (false≢true o)
  own-still (do_settle j (other xs wrong) log) e o = absurd (false≢true o)
  own-still (do_look j log) e o = inl refl
  own-still (do_load b own list) e o =
      let f = load-facts w.job b (length (get_or w.segments b [])) (length list) e in
      inr ((reverse-level w.job f.called.in-phase).1, loads-only b list e)
  own-still (do_load b (other xs wrong) list) e o = absurd (false≢true o)
  own-still (do_sweep j segment list) e o =
      let f = sweep-facts w.job j (length (lent segment (get_or w.segments j []))) (length (lent_list w.job list w.changed)) e in
      never
      (last-swept given invariant h (reverse-level w.job f.called.in-phase).1 w.job.loaded j (loaded-low invariant.shaped f.loaded)
      (rw (segments-is invariant.shaped) at f.called.inside))
      f.left
  own-still (do_close way) e o = absurd (omega (arith, h, e))

  end_stays : (call : Call (right_lengths terms)) → Stays (outcome w call).world
  unfolding Stays
  end_stays call = go (eq-or-ne (outcome w call).refusal 0)
    where
      go : ((outcome w call).refusal ≡ 0) ⊎ ((outcome w call).refusal ≡ 0 → ⊥) → Stays (outcome w call).world
      go (inl e) = own-still call (sym (refusal_is w call) ∙ e) (accepted-own invariant.shaped call e)
      go (inr ne) = inl (refused-same w call ne)

  end-still : (call : Call (right_lengths terms)) → (outcome w call).world ≡ loaded_as (outcome w call).world w
  unfolding Stays directed
  end-still call = go (end_stays call)
    where
      go : Stays (outcome w call).world → (outcome w call).world ≡ loaded_as (outcome w call).world w
      go (inl e) = e ∙ sym (ap (λ (x : World). loaded_as x w) e)
      go (inr r) = r.1

  end-carries : (call : Call (right_lengths terms)) → CarriesOn w (outcome w call).world → ⊥
  unfolding Stays
  end-carries call c = go (end_stays call)
    where
      go : Stays (outcome w call).world → ⊥
      go (inl e) = still-carries w (omega (arith, segments-is invariant.shaped, few given)) (subst (CarriesOn w) e c)
      go (inr r) = reloaded-carries w (outcome w call).world r.1 (swept-whole r.0) c

  pub at-end : AtEnd terms (right_lengths terms) w
  unfolding refusal_of
  at-end =
      record {
        level = last-is;
        passed = λ f j l. last-passed given invariant h f j (rw (segments-is invariant.shaped) at l) ∙ sym (stacks-is invariant.shaped j);
        settled = λ j l. (last-complete given invariant h).none-waits j;
        swept = swept-whole;
        refused = λ way. refusal_is w (do_close way) ∙ h;
        still = end-still;
        none_carries = end-carries;
        deep = depth-needs given last_level (last-deep given invariant h) (omega arith);
      }

-- Close says 14 whatever is loaded, and so the end stays what it is
module _ {terms : Terms} (given : Given terms) where
  still-14 : {w : World} → Invariant terms w → close_refusal w.job ≡ 14 → (x : World) → Invariant terms x → x ≡ loaded_as x w → close_refusal x.job ≡ 14
  unfolding directed is_ready is_done is_swept_whole in_reverse is_swept swept_of passed_of waiting_of count_of stack_count_at segment_count_of stack_count_of is_past_last is_finished level_of
  still-14 {w} invariant h x kept e =
      let f = refused-14 w.job h in
      close-14 x.job (invariant-coherent given kept)
      (ap (λ (y : World). is_finished y.job.phase) e ∙ ap is_finished (last-searches given invariant h).phase_is)
      (ap (λ (y : World). is_ready y.job) e ∙ f.0)
      (ap (λ (y : World). is_past_last y.job) e ∙ f.1)

  end_after : (calls : List (Call (right_lengths terms))) {w : World} → Invariant terms w → close_refusal w.job ≡ 14
      → (close_refusal (after w calls).job ≡ 14) × (after w calls ≡ loaded_as (after w calls) w)
  unfolding after directed
  end_after [] invariant h = (h, refl)
  end_after (call ∷ calls) {w} invariant h =
      let x = (outcome w call).world in
      let kept : Invariant terms x = step_keeps given invariant call in
      let e = end-still given invariant h call in
      let rest = end_after calls kept (still-14 invariant h x kept e) in
      (rest.0, rest.1 ∙ ap (loaded_as (after x calls)) e)

-- ---- every world of a build

module _ {terms : Terms} (given : Given terms) where
  -- as many calls as there is work left bring it to an end
  ends-within : (left : ℕ) (w : World) → Invariant terms w → work_left (N terms) terms.size w.job ≤ left
      → (more : List (Call (right_lengths terms))) × (has_ended (after w more).job ≡ true)
  unfolding after
  ends-within zero w invariant h = go (test-cases (has_ended w.job))
    where
      go : (has_ended w.job ≡ true) ⊎ (has_ended w.job ≡ false)
          → (more : List (Call (right_lengths terms))) × (has_ended (after w more).job ≡ true)
      go (inl e) = ([], e)
      go (inr e) = absurd (omega (arith, (invariant-advances given invariant e).falls))
  ends-within (suc left) w invariant h = go (λ x i l. ends-within left x i l) (test-cases (has_ended w.job))
    where
      go : ((x : World) → Invariant terms x → work_left (N terms) terms.size x.job ≤ left
          → (more : List (Call (right_lengths terms))) × (has_ended (after x more).job ≡ true))
          → (has_ended w.job ≡ true) ⊎ (has_ended w.job ≡ false)
          → (more : List (Call (right_lengths terms))) × (has_ended (after w more).job ≡ true)
      go rest (inl e) = ([], e)
      go rest (inr e) =
          let a = invariant-advances given invariant e in
          let call = a.next.call in
          let r = rest (outcome w call).world (step_keeps given invariant call) (omega (arith, a.falls)) in
          (call ∷ r.0, r.1)

  abbrev pub NeedsLast : Type 0
  NeedsLast = Needs terms last_level

  module _ {w : World} (invariant : Invariant terms w) where
    pub finishes-is : is_finished w.job.phase ≡ true → FinishesBy terms w
    unfolding is_finished
    finishes-is h = go invariant.phase
      where
        go : InPhase terms w
            → FinishesBy terms w
        go (blanking s) = never h (ap is_finished s.phase_is)
        go (searching d s) = never h (ap is_finished s.phase_is)
        go (ended d s) = ended-finishes given invariant.shaped s

    levels-is : (d : ℕ) → w.job.phase ≡ Level d
        → (1 ≤ d) × (d ≤ last_level) × Needs terms (d - 1)
    unfolding level_of is_level
    levels-is d e = go invariant.phase
      where
        go : InPhase terms w → (1 ≤ d) × (d ≤ last_level) × Needs terms (d - 1)
        go (blanking s) = never (ap is_level e) (ap is_level s.phase_is)
        go (searching f s) =
            let same : f ≡ d = sym (ap level_of s.phase_is) ∙ ap level_of e in
            let v = s.before in (
              omega (arith, v.2),
              omega (arith, s.last),
              depth-needs given (d - 1) (v.0, v.1, omega (arith, v.2)) (omega (arith, s.last)),
            )
        go (ended f s) = never (ap is_level e) (ap is_level s.phase_is)

    -- where a stack is as deep as the last level, no build has finished
    unfinished-is : NeedsLast → is_finished w.job.phase ≡ false
    unfinished-is s =
        not-is-false (is_finished w.job.phase)
        (λ e. let f = finishes-is e in omega (arith, f.greatest s.0 last_level s.1 s.2, f.below))

    continues-is : is_finished w.job.phase ≡ false
        → (Continues (right_lengths terms) w) ⊎ (AtEnd terms (right_lengths terms) w)
    continues-is u = go (test-cases (has_ended w.job))
      where
        stands : (is_finished w.job.phase ≡ true) ⊎ (close_refusal w.job ≡ 14)
            → AtEnd terms (right_lengths terms) w
        stands (inl e) = never e u
        stands (inr e) = at-end given invariant e

        go : (has_ended w.job ≡ true) ⊎ (has_ended w.job ≡ false)
            → (Continues (right_lengths terms) w) ⊎ (AtEnd terms (right_lengths terms) w)
        go (inl e) = inr (stands (ended-cases w.job e))
        go (inr e) = inl (invariant-advances given invariant e).next

    -- an ended build has finished where no stack is that deep, and stands at the other end where one is
    pub ended-finished : has_ended w.job ≡ true → (NeedsLast → ⊥) → is_finished w.job.phase ≡ true
    ended-finished h none = go (ended-cases w.job h)
      where
        go : (is_finished w.job.phase ≡ true) ⊎ (close_refusal w.job ≡ 14) → is_finished w.job.phase ≡ true
        go (inl e) = e
        go (inr e) = absurd (none (at-end given invariant e).deep)

    pub ended-stands : has_ended w.job ≡ true → NeedsLast → AtEnd terms (right_lengths terms) w
    ended-stands h s = go (ended-cases w.job h)
      where
        go : (is_finished w.job.phase ≡ true) ⊎ (close_refusal w.job ≡ 14)
            → AtEnd terms (right_lengths terms) w
        go (inl e) = never e (unfinished-is s)
        go (inr e) = at-end given invariant e

  -- the claim, of a build from a world that keeps the invariant and has not finished
  promise-by : {start : World} → Invariant terms start → is_finished start.job.phase ≡ false → (calls : List (Call (right_lengths terms)))
      → PromiseBy terms (right_lengths terms) start calls
  unfolding refusal_of
  promise-by {start} begins unfinished calls =
      let w : World = after start calls in
      let invariant : Invariant terms w = after-keeps given begins calls in
      let end = ends-within (work_left (N terms) terms.size w.job) w invariant (le_refl (work_left (N terms) terms.size w.job)) in
      let last : Invariant terms (after w end.0) = after-keeps given invariant end.0 in
      let joins : (more : List (Call (right_lengths terms))) → after start (calls ++ more) ≡ after w more = after-append start calls in
      record {
        by_close = finished-by-close start calls unfinished;
        since_close = closed-is-finished start calls;
        finishes = finishes-is invariant;
        continues = continues-is invariant;
        closes = λ way h. at-end given invariant (sym (refusal_is w (do_close way)) ∙ h);
        levels = levels-is invariant;
        ends = λ none. (end.0, ap (λ (x : World). is_finished x.job.phase) (joins end.0) ∙ ended-finished last end.1 none);
        never_finished = unfinished-is invariant;
        stands = λ s. (
          end.0,
          subst (AtEnd terms (right_lengths terms)) (sym (joins end.0)) (ended-stands last end.1 s),
        );
        stays = λ more h. ap (λ (x : World). is_finished x.job.phase) (joins more ∙ finished-stays w more h) ∙ h;
        stays_at_end = λ more e.
            let end = end_after given more invariant (sym (refusal_is w (do_close Forward)) ∙ e.refused Forward) in (
              subst (AtEnd terms (right_lengths terms)) (sym (joins more))
                  (at-end given (after-keeps given invariant more) end.0),
              joins more ∙ end.1 ∙ ap (λ (x : World). loaded_as x w) (sym (joins more)),
            );
      }

pub whole-build-by : WholeBuildBy
unfolding WholeBuildBy begun is_finished
whole-build-by terms segments log changed accepted buffers calls =
    promise-by (begin-given accepted) (begun-invariant terms segments log changed buffers) refl calls

-- An accepted Settle keeps the invariant of the search: all that waited in segment j is seen, so its log may be emptied.
use mathlib.Core.Path.{◌≡◌, refl, sym, ap, ◌∙◌, subst}
use mathlib.Core.List.{List, [], map}
use Prim.Native.Nat.{ℕ, ◌+◌, ◌*◌, ◌/◌, ◌<◌}
use native.Mathlib.Nat.{div-add-mod', suc-mul, mul-le-mul_right}
use native.Mathlib.Omega.{arith}
use lib.ListN.{length, get_or, set, length-map}
use lib.Seq.{set-get_or}
use Rattle.base.proofs.Lists.{get_d_map}
use Rattle.base.proofs.Tests.{never}
use Rattle.search.specs.Build.{World, with_job, with_segment, Lengths, own, do_settle, outcome, lent, kept}
use Rattle.search.specs.JobState.{level_of, passed_of, waiting_of, count_of, progressed}
use Rattle.search.specs.Settle.{settle_refusal}
use Rattle.search.specs.Marks.{Marks, mark_all, found_at, with_found}
use Rattle.search.specs.Logs.{Logs, log_part, indexes_of, pending}
use Rattle.search.specs.Terms.{N, G, m}
use Rattle.search.specs.Answers.{Answer}
use Rattle.search.specs.declared.Terms.{Terms}
use Rattle.search.proofs.Accepted.{forward-level, settle-facts, settle-accepted}
use Rattle.search.proofs.Invariant.{entry_in}
use Rattle.search.proofs.SegmentLaws.{segment-stack, segment-stack-div, segment-stack-mod, log_length, log-at}
use Rattle.search.proofs.Shapes.{segments-is}
use Rattle.search.proofs.Staging.{Searching, Staged, Held, stage, stage-start, stage-empty, stage-end, Marking, Due, mark-all}
use Rattle.search.proofs.Given.{Given, some}

module _ {terms : Terms} (given : Given terms) {w : World} {d : ℕ} (search : Searching terms w d) (j : ℕ) (inside : j < G terms) where
  pub settle-stage : Staged terms w d j
      (mark_all terms d (indexes_of terms.size j (log_part terms.room j (waiting_of w.job j) w.log))
      (record { segment = get_or w.segments j []; found = found_at w.job d }))
      (record { log = w.log; waiting = set w.job.waiting j 0 }) (passed_of w.job j)
  unfolding count_of waiting_of indexes_of
  settle-stage = stage-empty given search j inside marking.staged seen
    where
      offsets : List ℕ
      offsets = log_part terms.room j (waiting_of w.job j) w.log

      stacks : List ℕ
      stacks = map (λ i. j * terms.size + i) offsets

      start : Marks
      start = record { segment = get_or w.segments j []; found = found_at w.job d }

      logs : Logs
      logs = record { log = w.log; waiting = w.job.waiting }

      first : Staged terms w d j start logs (passed_of w.job j)
      first = stage-start given search j inside

      long : length offsets ≡ waiting_of w.job j
      long =
          log_length terms.room j (waiting_of w.job j) w.log
          (omega (arith, search.shaped.log_length, search.searches.waiting-fits j, suc-mul j terms.room, mul-le-mul_right terms.room inside))

      many : length stacks ≡ waiting_of w.job j
      many = length-map offsets (λ i. j * terms.size + i) ∙ long

      -- stack k of the list stands at the k-th number of the log
      place : (k : ℕ) → k < length stacks → get_or stacks k 0 ≡ j * terms.size + get_or w.log (j * terms.room + k) 0
      place k h =
          get_d_map (λ i. j * terms.size + i) offsets k 0 0 (omega (arith, many, long))
          ∙ ap (λ (i : ℕ). j * terms.size + i) (log-at terms.room j (waiting_of w.job j) w.log k (rw many at h))

      due : (k : ℕ) → k < length stacks → Due given search j inside (get_or stacks k 0)
      due k h =
          let o = get_or w.log (j * terms.room + k) 0 in
          let fits : o < m terms j = search.searches.offsets j k inside (rw many at h) in
          let own-segment = segment-stack-div (N terms) terms.size (some given) j o fits in
          let own-place = segment-stack-mod (N terms) terms.size (some given) j o fits in
          let low : j * terms.size + o < N terms = segment-stack (N terms) terms.size (some given) j o fits in
          subst (Due given search j inside) (sym (place k h))
          (record {
            low = low;
            here = own-segment;
            near = (first.level.logged (j * terms.size + o)
                (low, (k, rw own-segment (rw many at h), rw (own-segment, own-place) refl))).1;
          })

      marking : Marking given search j inside logs (passed_of w.job j) stacks start (mark_all terms d stacks start)
      marking = mark-all given search j inside logs (passed_of w.job j) stacks start first due

      seen : (v : ℕ) → v < N terms → v / terms.size ≡ j → entry_in terms.size (set w.segments j (mark_all terms d stacks start).segment) v ≡ 3 → Held terms logs v → ⊥
      seen v h here e held =
          let k = held.1.0 in
          let l : k < length stacks = omega (arith, many, ap (λ (x : ℕ). get_or w.job.waiting x 0) here) in
          let this : get_or stacks k 0 ≡ v =
          omega (
            arith,
            place k l,
            held.1.2,
            ap (λ (x : ℕ). get_or w.log (x * terms.room + k) 0) here,
            div-add-mod' v terms.size,
            ap (λ (x : ℕ). x * terms.size) here,
          ) in
          marking.done k l (ap (entry_in terms.size (set w.segments j (mark_all terms d stacks start).segment)) this ∙ e)

module _ {terms : Terms} (given : Given terms) {w : World} {d : ℕ} (search : Searching terms w d) where
  pub settle-keeps : (right : Lengths) (j : ℕ) → settle_refusal w.job j (length (get_or w.segments j [])) w.log ≡ 0
      → Searching terms (outcome {right = right} w (do_settle j own own)).world d
  unfolding outcome lent kept stage pending level_of passed_of
  settle-keeps right j accepted =
      let facts = (settle-facts w.job j (length mine) w.log accepted).0 in
      let inside = rw (segments-is search.shaped) at facts.called.inside in
      subst (λ (x : World). Searching terms x d)
      (sym (ap leaves (settle-accepted w.job j mine w.log accepted) ∙ same))
      (stage-end given search j inside (settle-stage given search j inside) (λ r. never r (forward-level w.job facts.called.in-phase).1))
    where
      mine : List ℕ
      mine = get_or w.segments j []

      leaves : List ℕ × Answer → World
      leaves o = with_job o.1.job (with_segment j o.0 w)

      -- by the terms, the level, what waits, and the stacks passed
      settled : Terms → ℕ → List ℕ → List ℕ → World
      settled t d offsets passed =
          let marks = mark_all t d (indexes_of t.size j offsets) (record { segment = mine; found = found_at w.job d }) in
          with_job (progressed (with_found w.job d marks.found) w.job.phase passed (set w.job.waiting j 0))
          (with_segment j marks.segment w)

      same : settled w.job.terms (level_of w.job.phase) (pending w.job j w.log) w.job.passed
          ≡ settled terms d (log_part terms.room j (waiting_of w.job j) w.log) (set w.job.passed j (passed_of w.job j))
      same = λ i. settled (search.shaped.terms_is i) (level_of (search.searches.phase_is i))
          (log_part (search.shaped.terms_is i).room j (waiting_of w.job j) w.log) (sym (set-get_or w.job.passed j 0) i)

-- An accepted Sweep keeps the invariant of the search: what it marks is no deeper than d, and when it is done every move from the loaded
-- segment's stacks of the level before to a stack of segment j ends at a seen one.
use mathlib.Core.Path.{◌≡◌, refl, sym, ap, ◌∙◌, subst, subst₂}
use mathlib.Core.Logic.{◌⊎◌, inl, inr}
use mathlib.Core.Bool.{true, false}
use mathlib.Core.List.{List, []}
use Prim.Native.Nat.{ℕ, suc, ◌+◌, ◌-◌, ◌*◌, ◌/◌, ◌%◌, ◌^◌, ◌<◌, ◌≤◌}
use native.Mathlib.Nat.{div-add-mod', zero-add}
use native.Mathlib.Omega.{arith}
use lib.Dec.{ltb, eqb}
use lib.ListN.{length, get_or, set, length-map, length-set}
use lib.Seq.{set-get_or}
use borrow.Author.Tests.{eqb-true, eq-eqb, ltb-true, lt-ltb}
use Rattle.base.specs.Words.{from}
use Rattle.base.proofs.Counting.{any_at, any_some, filter-from, filter-keeps}
use Rattle.base.proofs.Lists.{from-length, get_or-from, get_d_map}
use Rattle.base.proofs.Tests.{and_left, and_right, and_both}
use Rattle.graph.specs.Walks.{is_move}
use Rattle.graph.proofs.Levels.{level-look}
use Rattle.search.specs.Build.{World, with_job, with_segment, Lengths, own, do_sweep, Listed, outcome, lent, kept, lent_list}
use Rattle.search.specs.Changed.{bit_at}
use Rattle.search.specs.Expand.{children_of}
use Rattle.search.specs.JobState.{level_of, passed_of, waiting_of, swept_of, is_swept, stack_count_at, stack_count_of, progressed, recounted, directed}
use Rattle.search.specs.Logs.{Logs, indexes_of}
use Rattle.search.specs.Marks.{Marks, mark_all, found_at, marked_job}
use Rattle.search.specs.Sweep.{is_changed, is_reached, reached_in, with_pair, sweep_refusal}
use Rattle.search.specs.Terms.{N, G, m}
use Rattle.search.specs.Answers.{Answer}
use Rattle.search.specs.declared.Terms.{Terms}
use Rattle.search.proofs.Accepted.{reverse-level, sweep-facts, sweep-accepted}
use Rattle.search.proofs.Children.{child-listed, listed-child}
use Rattle.search.proofs.Invariant.{Listing, Looked, Logged, entry_in, is_due}
use Rattle.search.proofs.PairLaws.{pair-cases, pair_fits}
use Rattle.search.proofs.Refused.{own-list}
use Rattle.search.proofs.SegmentLaws.{stack-offset, segment-stack, segment-stack-div}
use Rattle.search.proofs.Shapes.{segments-is, loaded-low}
use Rattle.search.proofs.Staging.{Searching, Staged, Due, Marking, mark-all, stage, stage-start, stage-end, redirect, redirected}
use Rattle.search.proofs.Given.{Given, moves, step, D, depths, some, few}

-- ---- a pair is noted

-- the world with the pair of the loaded segment and segment j noted
unfoldable pub paired_world : World → ℕ → World
paired_world w j = redirect w w.job.loaded (with_pair w.job j) w.changed

module _ {terms : Terms} (given : Given terms) {w : World} {d : ℕ} (search : Searching terms w d) (j : ℕ) (inside : j < G terms)
    (low : w.job.loaded < G terms) (left : is_swept w.job w.job.loaded j ≡ false) where
  listed : w.job.loaded < length w.job.swept
  listed = omega (arith, search.shaped.swept-length, few given)

  -- if every move from the level before, from the loaded segment to segment j, ends at a seen stack
  paired-keeps : ((u v k : ℕ) → u < N terms → v < N terms → suc (D terms u) ≡ d → u / terms.size ≡ w.job.loaded → v / terms.size ≡ j
      → is_move (moves terms) k ≡ true → step terms k u ≡ v → entry_in terms.size w.segments v ≡ 3 → ⊥)
      → Searching terms (paired_world w j) d
  unfolding paired_world directed passed_of swept_of with_pair Looked
  paired-keeps seen =
      redirected search w.job.loaded (with_pair w.job j) w.changed (inr low)
      (length-set w.job.swept w.job.loaded (swept_of w.job w.job.loaded + 2 ^ j) ∙ search.shaped.swept-length)
      (λ b. pair_fits w.job j left (paired_world w j).job refl (G terms) low inside
      (search.shaped.swept-fits w.job.loaded) b (search.shaped.swept-fits b))
      (level-look search.searches.level (λ u v g h s l e. go u v g h s l.0 l.1 e))
      (λ r l. record { long = (search.searches.listed r l).long; bits = (search.searches.listed r l).bits })
    where
      go : (u v : ℕ) → u < N terms → v < N terms → suc (D terms u) ≡ d
          → (u % terms.size < passed_of w.job (u / terms.size)) ⊎ (is_swept (paired_world w j).job (u / terms.size) (v / terms.size) ≡ true)
          → ((k : ℕ) × (is_move (moves terms) k ≡ true) × (step terms k u ≡ v)) → entry_in terms.size w.segments v ≡ 3
          → (Looked terms w.job u v) ⊎ (Logged terms w v)
      go u v g h s (inl p) edge e = inl (inl p, edge)
      go u v g h s (inr t) edge e =
          cases (pair-cases w.job j listed left (paired_world w j).job refl (u / terms.size) (v / terms.size) t)
        where
          cases : ((u / terms.size ≡ w.job.loaded) × (v / terms.size ≡ j)) ⊎ (is_swept w.job (u / terms.size) (v / terms.size) ≡ true)
              → (Looked terms w.job u v) ⊎ (Logged terms w v)
          cases (inl q) = absurd (seen u v edge.0 g h s q.0 q.1 edge.1 edge.2 e)
          cases (inr q) = inl (inr q, edge)

-- ---- Sweep, with the terms and the level read from the job itself

module _ (w : World) (given : Given w.job.terms) (search : Searching w.job.terms w (level_of w.job.phase))
    (j : ℕ) (inside : j < G w.job.terms) (low : w.job.loaded < G w.job.terms)
    (listing : Listing w.job.terms w (level_of w.job.phase)) where
  abbrev terms : Terms
  terms = w.job.terms

  abbrev S : ℕ
  S = w.job.terms.size

  abbrev d : ℕ
  d = level_of w.job.phase

  abbrev b : ℕ
  b = w.job.loaded

  abbrev children : ℕ → List ℕ
  children = children_of w.job.terms.kind w.job.terms.n (moves terms)

  -- the bit of a stack of the loaded segment
  changed-is : (c : ℕ) → c < N terms → c / S ≡ b → bit_at w.changed (c % S) ≡ is_due d (D terms c)
  changed-is c h e =
      listing.bits (c % S) (subst (λ (t : ℕ). c % S < m terms t) e (stack-offset (N terms) S (some given) c h))
      ∙ ap (λ (x : ℕ). is_due d (D terms x))
      (let q : b * S + c % S ≡ c = omega (arith, div-add-mod' c S, ap (λ (x : ℕ). x * S) e) in q)

  -- a stack that is reached is no deeper than d
  reached-near : (v : ℕ) → v < N terms → is_reached w.job w.changed v ≡ true → D terms v ≤ d
  unfolding is_reached is_changed is_due
  reached-near v h t =
      let r = any_some (is_changed S b w.changed) 0 (children v) t in
      let c = get_or (children v) r.0 0 in
      let k = listed-child w.job.terms.kind w.job.terms.n (moves terms) v r.0 r.1 in
      let here = eqb-true (c / S) b (and_left (eqb (c / S) b) (bit_at w.changed (c % S)) r.2) in
      let set = and_right (eqb (c / S) b) (bit_at w.changed (c % S)) r.2 in
      let inside : c < N terms = subst (λ (x : ℕ). x < N terms) (sym k.2) ((depths given).graph.inside k.0 v k.1 h) in
      let due : is_due d (D terms c) ≡ true = sym (changed-is c inside here) ∙ set in
      let shallow = ltb-true (D terms c) d (and_left (ltb (D terms c) d) (eqb (D terms c % 3) ((d - 1) % 3)) due) in
      omega (arith, shallow, ap (D terms) k.2, (depths given).falls k.0 v k.1)

  -- and every stack that a stack of the level before, of the loaded segment, has for a child is reached
  edge-reached : (u v k : ℕ) → u < N terms → suc (D terms u) ≡ d → u / S ≡ b → is_move (moves terms) k ≡ true → step terms k u ≡ v
      → is_reached w.job w.changed v ≡ true
  unfolding is_reached is_changed is_due
  edge-reached u v k g s here move e =
      let back = (depths given).graph.undone k u move g in
      let to : step terms back.0 v ≡ u = ap (step terms back.0) (sym e) ∙ back.2 in
      let c = child-listed w.job.terms.kind w.job.terms.n (moves terms) v back.0 back.1 in
      any_at (is_changed S b w.changed) 0 (children v) c.0 c.1
      (ap (is_changed S b w.changed) (c.2 ∙ to)
      ∙ and_both (eqb (u / S) b) (bit_at w.changed (u % S)) (eq-eqb (u / S) b here)
      (changed-is u g here
      ∙ and_both (ltb (D terms u) d) (eqb (D terms u % 3) ((d - 1) % 3)) (lt-ltb (D terms u) d (omega arith)) (eq-eqb (D terms u % 3) ((d - 1) % 3) (omega arith))))

  abbrev offsets : List ℕ
  offsets = reached_in w.job j w.changed

  abbrev stacks : List ℕ
  stacks = indexes_of S j offsets

  abbrev start : Marks
  start = record { segment = get_or w.segments j []; found = found_at w.job d }

  abbrev logs : Logs
  logs = record { log = w.log; waiting = w.job.waiting }

  first : Staged terms w d j start logs (passed_of w.job j)
  first = stage-start given search j inside

  due : (k : ℕ) → k < length stacks → Due given search j inside (get_or stacks k 0)
  unfolding indexes_of reached_in stack_count_at stack_count_of
  due k h =
      let many : length stacks ≡ length offsets = length-map offsets (λ i. j * S + i) in
      let r = filter-from (λ i. is_reached w.job w.changed (j * S + i)) 0 (from 0 (m terms j)) k (omega (arith, many)) in
      let i = r.0 in
      let l : i < m terms j = omega (arith, r.1, from-length 0 (m terms j)) in
      let at : get_or (from 0 (m terms j)) i 0 ≡ i = get_or-from 0 (m terms j) i 0 l ∙ zero-add i in
      let below : j * S + i < N terms = segment-stack (N terms) S (some given) j i l in
      subst (Due given search j inside)
      (sym (get_d_map (λ i. j * S + i) offsets k 0 0 (omega (arith, many)) ∙ ap (λ (x : ℕ). j * S + x) (r.3 ∙ at)))
      (record {
        low = below;
        here = segment-stack-div (N terms) S (some given) j i l;
        near = reached-near (j * S + i) below (ap (λ (x : ℕ). is_reached w.job w.changed (j * S + x)) (sym at) ∙ r.2);
      })

  marking : Marking given search j inside logs (passed_of w.job j) stacks start (mark_all terms d stacks start)
  marking = mark-all given search j inside logs (passed_of w.job j) stacks start first due

  -- the world when they are marked
  abbrev marked : World
  marked = stage w d j (mark_all terms d stacks start) logs (passed_of w.job j)

  seen : (u v k : ℕ) → u < N terms → v < N terms → suc (D terms u) ≡ d → u / S ≡ b → v / S ≡ j
      → is_move (moves terms) k ≡ true → step terms k u ≡ v → entry_in S marked.segments v ≡ 3 → ⊥
  unfolding stage indexes_of reached_in stack_count_at stack_count_of
  seen u v k g h s here there move e =
      let i = v % S in
      let l : i < m terms j = subst (λ (t : ℕ). i < m terms t) there (stack-offset (N terms) S (some given) v h) in
      let this : j * S + i ≡ v = omega (arith, div-add-mod' v S, ap (λ (x : ℕ). x * S) there) in
      let at : get_or (from 0 (m terms j)) i 0 ≡ i = get_or-from 0 (m terms j) i 0 l ∙ zero-add i in
      let r =
      filter-keeps (λ i. is_reached w.job w.changed (j * S + i)) 0 (from 0 (m terms j)) i (omega (arith, from-length 0 (m terms j)))
      (ap (λ (x : ℕ). is_reached w.job w.changed (j * S + x)) at ∙ ap (is_reached w.job w.changed) this ∙ edge-reached u v k g s here move e) in
      let place : get_or stacks r.0 0 ≡ v = get_d_map (λ i. j * S + i) offsets r.0 0 0 r.1 ∙ ap (λ (x : ℕ). j * S + x) (r.2 ∙ at) ∙ this in
      λ q. marking.done r.0 (omega (arith, r.1, length-map offsets (λ i. j * S + i)))
      (ap (entry_in S (set w.segments j (mark_all terms d stacks start).segment)) place ∙ q)

  own-keeps : (right : Lengths) (list : Listed) → sweep_refusal w.job j (length (get_or w.segments j [])) (length (lent_list w.job list w.changed)) ≡ 0
      → Searching terms (outcome {right = right} w (do_sweep j own list)).world d
  unfolding outcome lent kept stage paired_world progressed recounted directed passed_of waiting_of swept_of is_swept with_pair
  own-keeps right list accepted =
      let lent = lent_list w.job list w.changed in
      let facts = sweep-facts w.job j (length (get_or w.segments j [])) (length lent) accepted in
      let mine = own-list w.job list w.changed facts.wide in
      let reverse = (reverse-level w.job facts.called.in-phase).1 in
      subst (λ (x : World). Searching terms x d)
      (sym
      (ap leaves (sweep-accepted w.job j (get_or w.segments j []) lent accepted)
      ∙ ap (λ (xs : List ℕ). swept w.job.passed (mark_all terms d (indexes_of S j (reached_in w.job j xs)) start)) mine
      ∙ ap (λ (xs : List ℕ). swept xs (mark_all terms d stacks start)) (sym (set-get_or w.job.passed j 0))))
      (paired-keeps given (stage-end given search j inside marking.staged search.searches.idle) j inside low facts.left seen)
    where
      leaves : List ℕ × Answer → World
      leaves o = with_job o.1.job (with_segment j o.0 w)

      -- by the stacks passed and what was marked
      swept : List ℕ → Marks → World
      swept passed marks =
          with_job (directed (marked_job w.job passed w.job.waiting marks) w.job.way w.job.loaded (with_pair w.job j))
          (with_segment j marks.segment w)

module _ {terms : Terms} (given : Given terms) {w : World} {d : ℕ} (search : Searching terms w d) where
  pub sweep-keeps : (right : Lengths) (j : ℕ) (list : Listed)
      → sweep_refusal w.job j (length (get_or w.segments j [])) (length (lent_list w.job list w.changed)) ≡ 0
      → Searching terms (outcome {right = right} w (do_sweep j own list)).world d
  unfolding level_of
  sweep-keeps right j list accepted =
      let facts = sweep-facts w.job j (length (get_or w.segments j [])) (length (lent_list w.job list w.changed)) accepted in
      let low = loaded-low search.shaped facts.loaded in
      subst₂
      (λ (t : Terms) (e : ℕ). Given t → Searching t w e → j < G t → w.job.loaded < G t → Listing t w e
      → Searching t (outcome {right = right} w (do_sweep j own list)).world e)
      search.shaped.terms_is
      (ap level_of search.searches.phase_is)
      (λ g s l k i. own-keeps w g s j l k i right list accepted)
      given
      search
      (rw (segments-is search.shaped) at facts.called.inside)
      low
      (search.searches.listed (reverse-level w.job facts.called.in-phase).1 low)

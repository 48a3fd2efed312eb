-- An accepted Expand keeps the invariant of the search: each child that it places is no deeper than d, and when a stack is passed its
-- children are seen or logged.
use mathlib.Core.Path.{◌≡◌, refl, sym, ap, ◌∙◌, subst, subst₂}
use mathlib.Core.Logic.{◌⊎◌, inl, inr}
use mathlib.Core.Bool.{true, false}
use mathlib.Core.List.{List, [], ◌∷◌}
use Prim.Native.Nat.{ℕ, zero, suc, ◌+◌, ◌-◌, ◌*◌, ◌/◌, ◌%◌, ◌<◌, ◌≤◌}
use native.Mathlib.Omega.{arith}
use lib.ListN.{length, get_or, set}
use borrow.Author.Tests.{eqb-true, eq-eqb}
use Rattle.base.proofs.Tests.{never, eq-or-ne}
use Rattle.graph.specs.Walks.{is_move}
use Rattle.graph.proofs.Levels.{expanded-all, child-near}
use Rattle.search.specs.Build.{World, with_job, with_segment, with_log, Lengths, own, do_expand, outcome, lent, kept}
use Rattle.search.specs.Entries.{entry_at}
use Rattle.search.specs.Expand.{Expansion, is_parent, children_of, place_child, place_all, pass_one, wait_for, expand_next, expand_run, expansion, expanded_job, expand_refusal}
use Rattle.search.specs.Marks.{found_at}
use Rattle.search.specs.JobState.{stack_count_of, segment_count_of, stack_count_at, level_of, passed_of}
use Rattle.search.specs.Logs.{log_one, falling_in, lacks_room}
use Rattle.search.specs.Terms.{N, G, m}
use Rattle.search.specs.Answers.{Expanded}
use Rattle.search.specs.declared.Terms.{Terms}
use Rattle.search.proofs.Accepted.{forward-level, expand-facts, expand-accepted}
use Rattle.search.proofs.Children.{child-listed, listed-child, children-inside}
use Rattle.search.proofs.ExpandCases.{first-before, room-enough, falling-here, falling-elsewhere, place_here, place-elsewhere, place_at, NextCase, stopped, skipped, blocked, expanded, next-case, next-at, next_wait}
use Rattle.search.proofs.Invariant.{entry_in}
use Rattle.search.proofs.MarkLaws.{entry_place, marked-before, marked-after}
use Rattle.search.proofs.SegmentLaws.{stack-segment, segment-stack}
use Rattle.search.proofs.Shapes.{segments-is}
use Rattle.search.proofs.Staging.{Searching, Staged, Held, stage, stage-start, stage-mark, stage-marked, stage-log, stage-pass, stage-end, log-waiting, log-waiting-other, log-more, log-held}
use Rattle.search.proofs.Given.{Given, moves, step, D, laws, depths, some, few}

-- with the terms and the level read from the job itself
module _ (w : World) (given : Given w.job.terms) (search : Searching w.job.terms w (level_of w.job.phase))
    (j : ℕ) (inside : j < G w.job.terms) where
  abbrev terms : Terms
  terms = w.job.terms

  abbrev S : ℕ
  S = w.job.terms.size

  abbrev C : ℕ
  C = w.job.terms.room

  abbrev d : ℕ
  d = level_of w.job.phase

  -- the invariant of the world that e stands for
  abbrev Going : Expansion → Type 0
  Going e = Staged terms w d j e.marks e.logs e.at

  -- stack v is seen or logged
  abbrev Placed : Expansion → ℕ → Type 0
  Placed e v = entry_in S (set w.segments j e.marks.segment) v ≡ 3 → Held terms e.logs v

  -- each free place of another log is enough for the children that fall there
  abbrev Roomy : List ℕ → Expansion → Type 0
  Roomy children e = (t : ℕ) → t < G terms → (t ≡ j → ⊥) → falling_in S t children + get_or e.logs.waiting t 0 ≤ C

  record Placing (children : List ℕ) (e e' : Expansion) : Type 0 where
    going : Going e'
    before : (v : ℕ) → v < N terms → Placed e v → Placed e' v
    done : (k : ℕ) → k < length children → Placed e' (get_or children k 0)

  -- one child
  record PlacingOne (c : ℕ) (children : List ℕ) (e e' : Expansion) : Type 0 where
    going : Going e'
    before : (v : ℕ) → v < N terms → Placed e v → Placed e' v
    done : Placed e' c
    roomy : Roomy children e'

  place-one : (c : ℕ) (children : List ℕ) (e : Expansion) → Going e → c < N terms → D terms c ≤ d → Roomy (c ∷ children) e
      → PlacingOne c children e (place_child w.job j c e)
  place-one c children e going h near roomy = go (eq-or-ne (c / S) j)
    where
      t : c / S < G terms
      t = stack-segment (N terms) S (some given) c h

      left : (u : ℕ) → u < G terms → (u ≡ j → ⊥) → (c / S ≡ j → ⊥) → get_or e.logs.waiting (c / S) 0 < C → (u ≡ c / S) ⊎ (u ≡ c / S → ⊥)
          → falling_in S u children + get_or (log_one C (c / S) (c % S) e.logs).waiting u 0 ≤ C
      left u l ne other room (inl i) =
          rw i
          (omega (
            arith,
            roomy (c / S) t other,
            falling-here S (c / S) c children refl,
            log-waiting terms (few given) e.logs going.logs-fit (c / S) (c % S) t room,
          ))
      left u l ne other room (inr i) =
          omega (
            arith,
            roomy u l ne,
            falling-elsewhere S u c children (λ q. i (sym q)),
            log-waiting-other terms (few given) e.logs going.logs-fit (c / S) (c % S) t room u i,
          )

      go : (c / S ≡ j) ⊎ (c / S ≡ j → ⊥) → PlacingOne c children e (place_child w.job j c e)
      go (inl here) =
          let marked = stage-marked given search j inside going c h here in
          rw (place_here w.job j c e here)
          (record {
            going = stage-mark given search j inside going c h here near;
            before = λ v l p i. p (marked-before marked v l i);
            done = λ i. absurd (marked-after marked i);
            roomy = λ u l ne. omega (arith, roomy u l ne, falling-elsewhere S u c children (λ q. ne (sym q ∙ here)));
          })
      go (inr ne) =
          let room : get_or e.logs.waiting (c / S) 0 < C = omega (arith, roomy (c / S) t ne, falling-here S (c / S) c children refl) in
          rw (place-elsewhere w.job j c e ne)
          (record {
            going = stage-log given search j inside going c h near room;
            before = λ v l p i. log-more terms (few given) e.logs going.logs-fit (c / S) (c % S) t room v (p i);
            done = λ i. log-held terms (few given) e.logs going.logs-fit (c / S) (c % S) t room c h refl refl;
            roomy = λ u l m. left u l m ne room (eq-or-ne u (c / S));
          })

  place-all : (children : List ℕ) (e : Expansion) → Going e → ((k : ℕ) → k < length children → get_or children k 0 < N terms)
      → ((k : ℕ) → k < length children → D terms (get_or children k 0) ≤ d) → Roomy children e → Placing children e (place_all w.job j children e)
  unfolding place_all
  place-all [] e going h near roomy = record { going = going; before = λ v l p. p; done = λ k l. absurd (omega arith) }
  place-all (c ∷ children) e going h near roomy =
      let one = place-one c children e going (h 0 (omega arith)) (near 0 (omega arith)) roomy in
      let rest =
      place-all children (place_child w.job j c e) one.going (λ k l. h (suc k) (omega arith)) (λ k l. near (suc k) (omega arith)) one.roomy in
      record {
        going = rest.going;
        before = λ v l p. rest.before v l (one.before v l p);
        done = each one rest;
      }
    where
      each : PlacingOne c children e (place_child w.job j c e)
          → Placing children (place_child w.job j c e) (place_all w.job j children (place_child w.job j c e))
          → (k : ℕ) → k < suc (length children) → Placed (place_all w.job j children (place_child w.job j c e)) (get_or (c ∷ children) k 0)
      each one rest zero l = rest.before c (h 0 (omega arith)) one.done
      each one rest (suc k) l = rest.done k (omega arith)

  -- one more stack
  next-going : (e : Expansion) → Going e → e.at < m terms j → Going (expand_next w.job j e)
  unfolding pass_one wait_for is_parent segment_count_of stack_count_of
  next-going e going h = go (next-case w.job j e)
    where
      u : ℕ
      u = j * S + e.at

      low : u < N terms
      low = segment-stack (N terms) S (some given) j e.at h

      entry : entry_in S (set w.segments j e.marks.segment) u ≡ entry_at e.marks.segment e.at
      entry = entry_place (N terms) S (some given) w.segments j (omega (arith, search.shaped.segments-length)) e.marks.segment e.at h

      children : List ℕ
      children = children_of w.job.terms.kind w.job.terms.n (moves terms) u

      after : Expansion
      after = place_all w.job j children e

      -- a stack at the level before has its entry, so that it is expanded
      parent : suc (D terms u) ≡ d → is_parent d (entry_at e.marks.segment e.at) ≡ true
      parent level = eq-eqb (entry_at e.marks.segment e.at) ((d - 1) % 3) (sym entry ∙ expanded-all going.level u low level)

      near : is_parent d (entry_at e.marks.segment e.at) ≡ true → (k : ℕ) → k < length children → D terms (get_or children k 0) ≤ d
      near due k l =
          let c = listed-child w.job.terms.kind w.job.terms.n (moves terms) u k l in
          subst (λ (v : ℕ). D terms v ≤ d) (sym c.2)
          (child-near (depths given)
          going.level u c.0 low (entry ∙ eqb-true (entry_at e.marks.segment e.at) ((d - 1) % 3) due) c.1)

      roomy : G terms ≤ next_wait w.job j e → Roomy children e
      roomy l t g ne =
          omega (
            arith,
            room-enough S C j e.logs.waiting children t
                (first-before (lacks_room S C j e.logs.waiting children) 0 (G terms) t (omega arith) (omega arith))
                ne,
            going.logs-fit.waiting-fits t,
          )

      placing : is_parent d (entry_at e.marks.segment e.at) ≡ true → G terms ≤ next_wait w.job j e → Placing children e after
      placing due l = place-all children e going (children-inside w.job.terms.kind w.job.terms.n (moves terms) u given.in-range (laws given) low) (near due) (roomy l)

      at_same : after.at ≡ e.at
      at_same = place_at w.job j children e

      child : Placing children e after → (k : ℕ) → is_move (moves terms) k ≡ true
          → Placed after (step terms k (j * S + after.at))
      child placing k m =
          let c = child-listed w.job.terms.kind w.job.terms.n (moves terms) u k m in
          subst (Placed after) (c.2 ∙ ap (λ (x : ℕ). step terms k (j * S + x)) (sym at_same)) (placing.done c.0 c.1)

      go : NextCase w.job j e → Going (expand_next w.job j e)
      go (stopped s i) = rw i going
      go (skipped s due i) =
          rw i
          (stage-pass given search j inside going h
          (λ k m level v. never (parent level) due))
      go (blocked s due l i) = rw i going
      go (expanded s due l i) =
          rw i
          (stage-pass given search j inside (placing due l).going (rw at_same h) (λ k m level. child (placing due l) k m))

  run-going : (left : ℕ) (e : Expansion) → Going e → e.at + left ≤ m terms j → Going (expand_run w.job j left e)
  unfolding expand_run
  run-going zero e going h = going
  run-going (suc left) e going h = run-going left (expand_next w.job j e) (next-going e going (omega arith)) (fits (next-at w.job j e))
    where
      fits : ((expand_next w.job j e).at ≡ e.at) ⊎ ((expand_next w.job j e).at ≡ suc e.at)
          → (expand_next w.job j e).at + left ≤ m terms j
      fits (inl i) = omega arith
      fits (inr i) = omega arith

  expansion-going : Going (expansion w.job j (get_or w.segments j []) w.log)
  unfolding expansion stack_count_at stack_count_of
  expansion-going =
      run-going (m terms j - passed_of w.job j)
      (record {
        at = passed_of w.job j;
        waits = false;
        on = 0;
        marks = record { segment = get_or w.segments j []; found = found_at w.job d };
        logs = record { log = w.log; waiting = w.job.waiting };
      })
      (stage-start given search j inside)
      (omega (arith, search.searches.passed-fits j))

  own-keeps : (right : Lengths) → expand_refusal w.job j (length (get_or w.segments j [])) (length w.log) ≡ 0
      → Searching terms (outcome {right = right} w (do_expand j own own)).world d
  unfolding outcome lent kept stage expanded_job
  own-keeps right accepted =
      let e = expansion w.job j (get_or w.segments j []) w.log in
      subst (λ (x : World). Searching terms x d)
      (sym (ap leaves (expand-accepted w.job j (get_or w.segments j []) w.log accepted)))
      (stage-end given search j inside expansion-going
      (λ r. never r (forward-level w.job (expand-facts w.job j (length (get_or w.segments j [])) (length w.log) accepted).0.called.in-phase).1))
    where
      leaves : List ℕ × List ℕ × Expanded → World
      leaves o = with_job o.2.job (with_log o.1 (with_segment j o.0 w))

module _ {terms : Terms} (given : Given terms) {w : World} {d : ℕ} (search : Searching terms w d) where
  pub expand-keeps : (right : Lengths) (j : ℕ) → expand_refusal w.job j (length (get_or w.segments j [])) (length w.log) ≡ 0
      → Searching terms (outcome {right = right} w (do_expand j own own)).world d
  unfolding level_of
  expand-keeps right j accepted =
      subst₂
      (λ (t : Terms) (e : ℕ). Given t → Searching t w e → j < G t → Searching t (outcome {right = right} w (do_expand j own own)).world e)
      search.shaped.terms_is
      (ap level_of search.searches.phase_is)
      (λ g s l. own-keeps w g s j l right accepted)
      given
      search
      (rw (segments-is search.shaped) at (expand-facts w.job j (length (get_or w.segments j [])) (length w.log) accepted).0.called.inside)

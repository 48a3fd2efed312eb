-- What a call reads of the changed list: Load nothing but its length, Sweep also the bits of the loaded segment's stacks.
use mathlib.Core.Path.{◌≡◌, refl, sym, ap, ◌∙◌, subst}
use mathlib.Core.Logic.{◌⊎◌, inl, inr}
use mathlib.Core.Bool.{Bool, ◌&&◌, cond}
use mathlib.Core.List.{List}
use Prim.Native.Nat.{ℕ, ◌*◌, ◌/◌, ◌%◌, ◌+◌, ◌<◌}
use native.Mathlib.Nat.{zero-add}
use native.Mathlib.Omega.{arith}
use lib.Dec.{eqb}
use lib.ListN.{length, get_or}
use borrow.Author.Tests.{eq-eqb, ne_eqb}
use Rattle.base.specs.Words.{from}
use Rattle.base.proofs.Counting.{any_same, filter_same}
use Rattle.base.proofs.Lists.{from-length, get_or-from}
use Rattle.base.proofs.Tests.{eq-or-ne}
use Rattle.search.specs.Changed.{bit_at}
use Rattle.search.specs.Expand.{children_of}
use Rattle.search.specs.JobState.{stack_count_at, stack_count_of, moves_of, level_of, directed}
use Rattle.search.specs.Load.{load_refusal, changed_of, load_of}
use Rattle.search.specs.Logs.{indexes_of}
use Rattle.search.specs.Marks.{mark_all, marks_from, marked_job}
use Rattle.search.specs.Sweep.{sweep_refusal, is_changed, is_reached, reached_in, with_pair, sweep_of}
use Rattle.search.specs.Terms.{N, m}
use Rattle.search.specs.Answers.{Answer}
use Rattle.search.specs.declared.Job.{Job}
use Rattle.search.proofs.Accepted.{sweep-facts, sweep-accepted, sweep-refused}
use Rattle.search.proofs.Children.{children-inside}
use Rattle.search.proofs.Coherence.{coherent-facts, begin-given}
use Rattle.search.proofs.SegmentLaws.{stack-offset, segment-stack}
use Rattle.search.proofs.Given.{Given, some, laws}

-- Load gives the same for two lists of one length, and refused each is left as it was
module _ (job : Job) (b : ℕ) (segment list list' : List ℕ) (long : length list ≡ length list') where
  pub load-list-own : ((load_of job b segment list).1 ≡ (load_of job b segment list').1)
      × ((load_of job b segment list).1.refusal ≡ 0 → (load_of job b segment list).0 ≡ (load_of job b segment list').0)
  unfolding load_of
  load-list-own =
      go (load_refusal job b (length segment) (length list)) (load_refusal job b (length segment) (length list')) (ap (load_refusal job b (length segment)) long)
    where
      by : ℕ → List ℕ → List ℕ × Answer
      by r xs =
          cond (eqb r 0)
          (changed_of job b segment, record { refusal = 0; job = directed job job.way b job.swept })
          (xs, record { refusal = r; job = job })

      go : (r r' : ℕ) → r ≡ r' → ((by r list).1 ≡ (by r' list').1) × ((by r list).1.refusal ≡ 0 → (by r list).0 ≡ (by r' list').0)
      go r r' e = subst (λ (x : ℕ). ((by r list).1 ≡ (by x list').1) × ((by r list).1.refusal ≡ 0 → (by r list).0 ≡ (by x list').0)) e (cases (eq-or-ne r 0))
        where
          cases : (r ≡ 0) ⊎ (r ≡ 0 → ⊥) → ((by r list).1 ≡ (by r list').1) × ((by r list).1.refusal ≡ 0 → (by r list).0 ≡ (by r list').0)
          cases (inl z) = rw (eq-eqb r 0 z) (refl, λ h. refl)
          cases (inr ne) = rw (ne_eqb r 0 ne) (refl, λ h. absurd (ne h))

-- Sweep gives the same for two lists of one length with the same bits of the loaded segment's stacks
module _ (job : Job) (j : ℕ) (segment list list' : List ℕ) (long : length list ≡ length list')
    (bits : (i : ℕ) → i < stack_count_at job job.loaded → bit_at list i ≡ bit_at list' i) where
  module _ (given : Given job.terms) where
    changed-same : (c : ℕ) → c < N job.terms → is_changed job.terms.size job.loaded list c ≡ is_changed job.terms.size job.loaded list' c
    unfolding is_changed stack_count_at stack_count_of
    changed-same c h = go (eq-or-ne (c / job.terms.size) job.loaded)
      where
        go : (c / job.terms.size ≡ job.loaded) ⊎ (c / job.terms.size ≡ job.loaded → ⊥)
            → (eqb (c / job.terms.size) job.loaded && bit_at list (c % job.terms.size)) ≡ (eqb (c / job.terms.size) job.loaded && bit_at list' (c % job.terms.size))
        go (inl e) =
            ap (λ (t : Bool). eqb (c / job.terms.size) job.loaded && t)
            (bits (c % job.terms.size) (subst (λ (t : ℕ). c % job.terms.size < m job.terms t) e (stack-offset (N job.terms) job.terms.size (some given) c h)))
        go (inr ne) = rw (ne_eqb (c / job.terms.size) job.loaded ne)

    reached-same : reached_in job j list ≡ reached_in job j list'
    unfolding reached_in is_reached stack_count_at stack_count_of
    reached-same =
        filter_same (λ i. is_reached job list (j * job.terms.size + i)) (λ i. is_reached job list' (j * job.terms.size + i)) 0 (from 0 (m job.terms j))
        (λ i l.
        let inside : i < m job.terms j = omega (arith, from-length 0 (m job.terms j)) in
        let v = j * job.terms.size + get_or (from 0 (m job.terms j)) i 0 in
        let low : v < N job.terms =
        subst (λ (x : ℕ). j * job.terms.size + x < N job.terms) (sym (get_or-from 0 (m job.terms j) i 0 inside ∙ zero-add i))
        (segment-stack (N job.terms) job.terms.size (some given) j i inside) in
        any_same (is_changed job.terms.size job.loaded list) (is_changed job.terms.size job.loaded list') 0 (children_of job.terms.kind job.terms.n (moves_of job) v)
        (λ k h. changed-same (get_or (children_of job.terms.kind job.terms.n (moves_of job) v) k 0)
        (children-inside job.terms.kind job.terms.n (moves_of job) v given.in-range (laws given) low k h)))

  pub sweep-list-own : sweep_of job j segment list ≡ sweep_of job j segment list'
  sweep-list-own = go (eq-or-ne (sweep_refusal job j (length segment) (length list)) 0)
    where
      same : sweep_refusal job j (length segment) (length list) ≡ sweep_refusal job j (length segment) (length list')
      same = ap (sweep_refusal job j (length segment)) long

      swept : List ℕ → List ℕ × Answer
      swept offsets =
          let marks = mark_all job.terms (level_of job.phase) (indexes_of job.terms.size j offsets) (marks_from job segment) in (
            marks.segment,
            record { refusal = 0; job = directed (marked_job job job.passed job.waiting marks) job.way job.loaded (with_pair job j) },
          )

      go : (sweep_refusal job j (length segment) (length list) ≡ 0) ⊎ (sweep_refusal job j (length segment) (length list) ≡ 0 → ⊥)
          → sweep_of job j segment list ≡ sweep_of job j segment list'
      go (inl e) =
          let facts = coherent-facts job (sweep-facts job j (length segment) (length list) e).called.coherent in
          let given = begin-given facts.begins in
          sweep-accepted job j segment list e ∙ ap swept (reached-same given) ∙ sym (sweep-accepted job j segment list' (sym same ∙ e))
      go (inr ne) =
          sweep-refused job j segment list ne
          ∙ ap (λ (r : ℕ). (segment, record { refusal = r; job = job })) same
          ∙ sym (sweep-refused job j segment list' (λ e. ne (same ∙ e)))

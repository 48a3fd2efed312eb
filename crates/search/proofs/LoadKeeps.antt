-- An accepted Load keeps the invariant of the search: the bits of its list are set at the depths that have the entry of the level before.
use mathlib.Core.Path.{◌≡◌, sym, ap, ◌∙◌, subst}
use mathlib.Core.Logic.{inr}
use mathlib.Core.Bool.{false, ◌&&◌, cond}
use mathlib.Core.List.{List, []}
use Prim.Native.Nat.{ℕ, ◌+◌, ◌-◌, ◌*◌, ◌%◌, ◌<◌, ◌≤◌}
use lib.Dec.{ltb, eqb}
use lib.ListN.{length, get_or}
use borrow.Author.Tests.{eqb-true, eq-eqb, ltb-true, lt-ltb}
use Rattle.base.proofs.Tests.{and_left, and_right, and_both, same_test}
use Rattle.graph.proofs.Levels.{expanded-below}
use Rattle.search.specs.Build.{World, with_job, with_changed, Lengths, own, do_load, outcome, lent}
use Rattle.search.specs.Changed.{list_bytes, bit_at}
use Rattle.search.specs.Entries.{entry_at}
use Rattle.search.specs.Expand.{is_parent}
use Rattle.search.specs.JobState.{level_of, passed_of, swept_of, is_swept, stack_count_at, directed}
use Rattle.search.specs.Load.{load_refusal, changed_of}
use Rattle.search.specs.Terms.{N, G, m}
use Rattle.search.specs.Answers.{Answer}
use Rattle.search.specs.declared.Job.{Job}
use Rattle.search.specs.declared.Terms.{Terms}
use Rattle.search.proofs.Accepted.{load-facts, load-accepted}
use Rattle.search.proofs.ChangedLaws.{list_length, list-bit, list-spare}
use Rattle.search.proofs.Invariant.{Listing, Looked, entry_in, is_due}
use Rattle.search.proofs.MarkLaws.{entry-own}
use Rattle.search.proofs.SegmentLaws.{segment-stack}
use Rattle.search.proofs.Shapes.{segments-is, stacks-is}
use Rattle.search.proofs.Staging.{Searching, redirect, redirected}
use Rattle.search.proofs.Given.{Given, D, some}

pub load-spare : (job : Job) (b : ℕ) (segment : List ℕ) (i : ℕ) → stack_count_at job b ≤ i → i < 8 * list_bytes (stack_count_at job b)
    → bit_at (changed_of job b segment) i ≡ false
unfolding changed_of
load-spare job b segment = list-spare (stack_count_at job b) _

-- the world after segment b is loaded
unfoldable pub loaded_world : World → ℕ → World
loaded_world w b = redirect w b w.job.swept (changed_of w.job b (get_or w.segments b []))

pub load-world : (right : Lengths) (w : World) (b : ℕ) (list : List ℕ) → load_refusal w.job b (length (get_or w.segments b [])) (length list) ≡ 0
    → (outcome {right = right} w (do_load b own list)).world ≡ loaded_world w b
unfolding outcome lent loaded_world
load-world right w b list accepted =
    ap (λ (o : List ℕ × Answer). with_job o.1.job (with_changed (cond (eqb o.1.refusal 0) o.0 w.changed) w))
    (load-accepted w.job b (get_or w.segments b []) list accepted)

module _ {terms : Terms} (given : Given terms) {w : World} {d : ℕ} (search : Searching terms w d) where
  -- an entry is that of the level before exactly at these depths
  due-is : (v : ℕ) → v < N terms → is_parent d (entry_in terms.size w.segments v) ≡ is_due d (D terms v)
  unfolding is_parent is_due
  due-is v h =
      same_test (eqb entry ((d - 1) % 3)) (ltb (D terms v) d && eqb (D terms v % 3) ((d - 1) % 3))
      (λ t.
      let r = expanded-below search.searches.level v h (eqb-true entry ((d - 1) % 3) t) in
      and_both (ltb (D terms v) d) (eqb (D terms v % 3) ((d - 1) % 3)) (lt-ltb (D terms v) d r.0) (eq-eqb (D terms v % 3) ((d - 1) % 3) r.1))
      (λ t.
      eq-eqb entry ((d - 1) % 3)
      (search.searches.level.below v h (ltb-true (D terms v) d (and_left (ltb (D terms v) d) (eqb (D terms v % 3) ((d - 1) % 3)) t))
      ∙ eqb-true (D terms v % 3) ((d - 1) % 3) (and_right (ltb (D terms v) d) (eqb (D terms v % 3) ((d - 1) % 3)) t)))
    where
      entry : ℕ
      entry = entry_in terms.size w.segments v

  loaded-keeps : (b : ℕ) → b < G terms → Searching terms (loaded_world w b) d
  unfolding loaded_world directed passed_of swept_of is_swept Looked entry_in level_of changed_of
  loaded-keeps b low =
      redirected search b w.job.swept (changed_of w.job b segment) (inr low) search.shaped.swept-length search.shaped.swept-fits
      search.searches.level (λ r l. listing)
    where
      segment : List ℕ
      segment = get_or w.segments b []

      count : stack_count_at w.job b ≡ m terms b
      count = stacks-is search.shaped b

      place : (i : ℕ) → i < m terms b → entry_in terms.size w.segments (b * terms.size + i) ≡ entry_at segment i
      place = entry-own (N terms) terms.size (some given) w.segments b

      bit_is : (i : ℕ) → i < m terms b → bit_at (changed_of w.job b segment) i ≡ is_due d (D terms (b * terms.size + i))
      bit_is i l =
          list-bit (stack_count_at w.job b) (λ i. is_parent (level_of w.job.phase) (entry_at segment i)) i (rw count l)
          ∙ ap (λ (x : ℕ). is_parent x (entry_at segment i)) (ap level_of search.searches.phase_is)
          ∙ ap (is_parent d) (sym (place i l))
          ∙ due-is (b * terms.size + i) (segment-stack (N terms) terms.size (some given) b i l)

      listing : Listing terms (loaded_world w b) d
      listing =
          record {
            long = list_length (stack_count_at w.job b) (λ i. is_parent (level_of w.job.phase) (entry_at segment i)) ∙ ap list_bytes count;
            bits = bit_is;
          }

  pub load-keeps : (right : Lengths) (b : ℕ) (list : List ℕ) → load_refusal w.job b (length (get_or w.segments b [])) (length list) ≡ 0
      → Searching terms (outcome {right = right} w (do_load b own list)).world d
  load-keeps right b list accepted =
      subst (λ (x : World). Searching terms x d) (sym (load-world right w b list accepted))
      (loaded-keeps b (rw (segments-is search.shaped) at (load-facts w.job b (length (get_or w.segments b [])) (length list) accepted).called.inside))

-- The invariant holds when a build begins, and an accepted Blank keeps it.
use mathlib.Core.Path.{◌≡◌, refl, sym, ap, ◌∙◌, subst}
use mathlib.Core.Logic.{◌⊎◌, inl, inr}
use mathlib.Core.Bool.{Bool, true, false, cond}
use mathlib.Core.List.{List, []}
use Prim.Native.Nat.{ℕ, ◌/◌, ◌%◌, ◌<◌}
use native.Mathlib.Omega.{arith}
use lib.Dec.{eqb}
use lib.ListN.{length, get_or, set, length-set}
use lib.Seq.{get_or-set_same, get_or-set_other}
use Rattle.base.proofs.Lists.{replicate-zero}
use Rattle.base.proofs.Tests.{never, eq-or-ne}
use Rattle.search.specs.Begin.{begun}
use Rattle.search.specs.Blank.{blank_refusal, goal_of, blanked, blank_of}
use Rattle.search.specs.Build.{World, with_job, with_segment}
use Rattle.search.specs.Entries.{bytes_for, blank, set_entry}
use Rattle.search.specs.JobState.{count_places, is_blanking, stack_count_of, stack_count_at, passed_of, waiting_of, count_of, progressed, swept_of}
use Rattle.search.specs.Promise.{Buffers, start_of, right_bytes, right_words}
use Rattle.search.specs.Segments.{segment_limit}
use Rattle.search.specs.Terms.{G, m}
use Rattle.search.specs.Answers.{Answer}
use Rattle.search.specs.declared.Job.{Job}
use Rattle.search.specs.declared.Terms.{Terms}
use Rattle.search.proofs.Accepted.{BlankFacts, blank-facts, blank-accepted}
use Rattle.search.proofs.EntryLaws.{set-length, blank-length}
use Rattle.search.proofs.Invariant.{Shaped, Blanks, Invariant, InPhase, blanking, searching, ended}
use Rattle.search.proofs.PairLaws.{none-swept}
use Rattle.search.proofs.Shapes.{segments-is, stacks-is}
use Rattle.search.proofs.Given.{Given, few}

pub begun-invariant : (terms : Terms) (segments : List (List ℕ)) (log changed : List ℕ) → Buffers terms segments log
    → Invariant terms (start_of terms segments log changed)
unfolding begun passed_of waiting_of swept_of count_of right_bytes right_words
begun-invariant terms segments log changed buffers =
    record {
      shaped = record {
        terms_is = refl;
        passed_length = refl;
        waiting-length = refl;
        swept-length = refl;
        counts-length = refl;
        segments-length = buffers.some;
        segment-bytes = buffers.each;
        log_length = buffers.area;
        loaded-fits = inl refl;
        swept-fits = none-swept (begun terms) (G terms) (replicate-zero segment_limit);
      };
      phase = blanking (record {
        phase_is = refl;
        none-waits = replicate-zero segment_limit;
        none-counted = replicate-zero count_places;
        none-beyond = λ j h. replicate-zero segment_limit j;
        each = λ j h. inl (replicate-zero segment_limit j);
      });
    }

pub blanked-length : (job : Job) (j : ℕ) → length (blanked job j) ≡ bytes_for (stack_count_at job j)
unfolding blanked
blanked-length job j = go (eqb (goal_of job / job.terms.size) j)
  where
    go : (t : Bool) → length (cond t (set_entry (blank (stack_count_at job j)) (goal_of job % job.terms.size) 0) (blank (stack_count_at job j))) ≡ bytes_for (stack_count_at job j)
    go true = set-length (blank (stack_count_at job j)) (goal_of job % job.terms.size) 0 ∙ blank-length (stack_count_at job j)
    go false = blank-length (stack_count_at job j)

-- the world after segment j is blanked
unfoldable pub blanked_world : World → ℕ → World
blanked_world w j =
    with_job (progressed w.job w.job.phase (set w.job.passed j (stack_count_at w.job j)) w.job.waiting)
    (with_segment j (blanked w.job j) w)

pub blank-world : (w : World) (j : ℕ) → blank_refusal w.job j (length (get_or w.segments j [])) ≡ 0
    → (let out = blank_of w.job j (get_or w.segments j []) in
    ◌≡◌ {A = World} (with_job out.1.job (with_segment j out.0 w)) (blanked_world w j))
unfolding blanked_world
blank-world w j h =
    ap (λ (o : List ℕ × Answer). with_job o.1.job (with_segment j o.0 w))
    (blank-accepted w.job j (get_or w.segments j []) h)

module _ {terms : Terms} (given : Given terms) {w : World} (shaped : Shaped terms w)
    (j : ℕ) (inside : j < G terms) where
  blanked-shaped : Shaped terms (blanked_world w j)
  unfolding blanked_world progressed swept_of
  blanked-shaped =
      record {
        terms_is = shaped.terms_is;
        passed_length = length-set w.job.passed j (stack_count_at w.job j) ∙ shaped.passed_length;
        waiting-length = shaped.waiting-length;
        swept-length = shaped.swept-length;
        counts-length = shaped.counts-length;
        segments-length = length-set w.segments j (blanked w.job j) ∙ shaped.segments-length;
        segment-bytes = λ i h. go i h (eq-or-ne i j);
        log_length = shaped.log_length;
        loaded-fits = shaped.loaded-fits;
        swept-fits = shaped.swept-fits;
      }
    where
      go : (i : ℕ) → i < G terms → (i ≡ j) ⊎ (i ≡ j → ⊥)
          → length (get_or (set w.segments j (blanked w.job j)) i []) ≡ bytes_for (m terms i)
      go i h (inl e) =
          rw e
          (ap length (get_or-set_same w.segments j (blanked w.job j) [] (omega (arith, shaped.segments-length)))
          ∙ blanked-length w.job j
          ∙ ap bytes_for (stacks-is shaped j))
      go i h (inr e) = ap length (get_or-set_other w.segments j i (blanked w.job j) [] e) ∙ shaped.segment-bytes i h

  pub passed_here : passed_of (blanked_world w j).job j ≡ m terms j
  unfolding blanked_world progressed passed_of
  passed_here =
      get_or-set_same w.job.passed j (stack_count_at w.job j) 0
      (omega (arith, shaped.passed_length, few given))
      ∙ stacks-is shaped j

  pub passed-elsewhere : (i : ℕ) → (i ≡ j → ⊥) → passed_of (blanked_world w j).job i ≡ passed_of w.job i
  unfolding blanked_world progressed passed_of
  passed-elsewhere i ne = get_or-set_other w.job.passed j i (stack_count_at w.job j) 0 ne

  blanked-blanks : Blanks terms w → Blanks terms (blanked_world w j)
  unfolding blanked_world progressed waiting_of count_of blanked goal_of stack_count_at stack_count_of
  blanked-blanks blanks =
      record {
        phase_is = blanks.phase_is;
        none-waits = blanks.none-waits;
        none-counted = blanks.none-counted;
        none-beyond = λ i h. passed-elsewhere i (λ e. omega arith) ∙ blanks.none-beyond i h;
        each = λ i h. go i h (eq-or-ne i j) (blanks.each i h);
      }
    where
      go : (i : ℕ) → i < G terms → (i ≡ j) ⊎ (i ≡ j → ⊥)
          → (passed_of w.job i ≡ 0) ⊎ ((passed_of w.job i ≡ m terms i) × (get_or w.segments i [] ≡ blanked w.job i))
          → (passed_of (blanked_world w j).job i ≡ 0)
          ⊎ ((passed_of (blanked_world w j).job i ≡ m terms i)
          × (get_or (set w.segments j (blanked w.job j)) i [] ≡ blanked w.job i))
      go i h (inl e) was =
          subst (λ (x : ℕ). (passed_of (blanked_world w j).job x ≡ 0)
          ⊎ ((passed_of (blanked_world w j).job x ≡ m terms x)
          × (get_or (set w.segments j (blanked w.job j)) x [] ≡ blanked w.job x)))
          (sym e)
          (inr (passed_here, get_or-set_same w.segments j (blanked w.job j) [] (omega (arith, shaped.segments-length))))
      go i h (inr ne) (inl z) = inl (passed-elsewhere i ne ∙ z)
      go i h (inr ne) (inr z) =
          inr (passed-elsewhere i ne ∙ z.0, get_or-set_other w.segments j i (blanked w.job j) [] ne ∙ z.1)

pub blank-keeps : {terms : Terms} {w : World} → Given terms → Invariant terms w → (j : ℕ)
    → blank_refusal w.job j (length (get_or w.segments j [])) ≡ 0 → Invariant terms (blanked_world w j)
unfolding is_blanking
blank-keeps {terms} {w} given invariant j h = go invariant.phase
  where
    facts : BlankFacts w.job j (length (get_or w.segments j []))
    facts = blank-facts w.job j (length (get_or w.segments j [])) h

    inside : j < G terms
    inside = rw (segments-is invariant.shaped) at facts.called.inside

    go : InPhase terms w
        → Invariant terms (blanked_world w j)
    go (blanking blanks) =
        record {
          shaped = blanked-shaped given invariant.shaped j inside;
          phase = blanking (blanked-blanks given invariant.shaped j inside blanks);
        }
    go (searching d s) = never facts.called.in-phase (ap is_blanking s.phase_is)
    go (ended d s) = never facts.called.in-phase (ap is_blanking s.phase_is)

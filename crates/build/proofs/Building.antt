-- What Begin answers, and the loop that drives a build from its start to its end.
use mathlib.Core.Path.{◌≡◌, sym, ap, ◌∙◌, subst}
use mathlib.Core.Bool.{true, false, cond}
use mathlib.Core.List.{List}
use Prim.Native.Nat.{ℕ}
use lib.Dec.{eqb}
use lib.ListN.{length}
use borrow.Author.Tests.{ne_eqb}
use Rattle.std.specs.Prelude.{Ok, Err}
use Rattle.stacks.specs.Refusals.{number}
use Rattle.stacks.specs.declared.refusal.Refusal.{Refusal}
use Rattle.stacks.proofs.Numbers.{number-some}
use Rattle.search.specs.Begin.{begun, no_job, begin_of}
use Rattle.search.specs.Close.{close_refusal}
use Rattle.search.specs.JobState.{is_finished, last_level, level_of}
use Rattle.search.proofs.Advancing.{unfinished-ended, earlier-ended}
use Rattle.search.specs.Drive.{Store, has_ended, build_refusal, build_of, store_of}
use Rattle.search.specs.Results.{as_begun}
use Rattle.search.specs.Terms.{begin_refusal}
use Rattle.search.specs.Answers.{Answer}
use Rattle.search.specs.declared.Job.{Job}
use Rattle.search.specs.declared.Terms.{Terms}
use Rattle.search.proofs.WholeTable.{build-accepts, Driving, driving-begins, driving-ends}

-- Close answers 14 at the last level alone
pub last_alone : (job : Job) → is_finished job.phase ≡ false → (level_of job.phase ≡ last_level → ⊥) → eqb (close_refusal job) 14 ≡ false
last_alone job on earlier = unfinished-ended job on ∙ earlier-ended job on earlier

module _ (terms : Terms) where
  pub begin-refused : (r : Refusal) → as_begun (Err r) ≡ begin_of terms → number r ≡ begin_refusal terms
  unfolding begin_of
  begin-refused r e = ap (λ (a : Answer). a.refusal) e

  pub begin-accepted : (job : Job) → as_begun (Ok job) ≡ begin_of terms → (begin_refusal terms ≡ 0) × (job ≡ begun terms)
  unfolding begin_of
  begin-accepted job e =
      let none : 0 ≡ begin_refusal terms = ap (λ (a : Answer). a.refusal) e in
      (sym none, ap (λ (a : Answer). a.job) e ∙ ap (λ (r : ℕ). cond (eqb r 0) (begun terms) no_job) (sym none))

  -- Begin's refusals are those of the build
  pub begin-refuses : (bytes words listed : ℕ) (r : Refusal) → number r ≡ begin_refusal terms → number r ≡ build_refusal terms bytes words listed
  unfolding build_refusal
  begin-refuses bytes words listed r e = rw (← e, ne_eqb (number r) 0 (number-some r))

  module _ (table₀ log₀ list₀ : List ℕ) where
    pub build_begins : (job : Job) → job ≡ begun terms → 0 ≡ build_refusal terms (length table₀) (length log₀) (length list₀)
        → Driving terms table₀ log₀ list₀ (store_of job table₀ log₀ list₀)
    build_begins job e accepted =
        subst (λ (x : Job). Driving terms table₀ log₀ list₀ (store_of x table₀ log₀ list₀)) (sym e)
        (driving-begins (build-accepts terms (length table₀) (length log₀) (length list₀) (sym accepted)))

    pub build-refused : (r : Refusal) → number r ≡ build_refusal terms (length table₀) (length log₀) (length list₀)
        → (table₀, log₀, list₀, as_begun (Err r)) ≡ build_of terms table₀ log₀ list₀
    unfolding build_of
    build-refused r e = rw (← e, ne_eqb (number r) 0 (number-some r))

    pub build_ends : 0 ≡ build_refusal terms (length table₀) (length log₀) (length list₀)
        → {s : Store} → Driving terms table₀ log₀ list₀ s → has_ended s.job ≡ true
        → (s.table, s.log, s.list, as_begun (Ok s.job)) ≡ build_of terms table₀ log₀ list₀
    unfolding build_of
    build_ends accepted driving end = rw (← accepted, driving-ends driving end)

-- A call that tests its mirror for a phase and a way, and goes on with the job that it holds, answers for the job whose mirror it is, and one that
-- takes no mirror as the operation does; refused, both answer what stands beside the number.
use mathlib.Core.Path.{◌≡◌, refl, sym, ap, ◌∙◌}
use mathlib.Core.Bool.{Bool, true, false, cond}
use Prim.Native.Nat.{ℕ}
use Rattle.search.specs.PromiseCalls.{StandsAlone}
use Rattle.search.specs.declared.Job.{Job}
use Rattle.mirror.specs.Mirror.{is_job, cleared, job_of, mirror_of}
use Rattle.mirror.specs.declared.HokrundJob.{HokrundJob}
use Rattle.mirror.proofs.MirrorLaws.{job-mirror, mirror-is, mirror-job, cleared-is, cleared-job}
use Rattle.exports.specs.Mirrored.{Mirrored, Given}

-- what stands alone does so by any other name
renamed : {X : Type 0} (refusal : X → ℕ) (beside : ℕ → X) (out r : X) → r ≡ out → StandsAlone refusal beside out → StandsAlone refusal beside r
renamed refusal beside out r e keeps h = e ∙ keeps (λ z. h (ap refusal e ∙ z)) ∙ ap (λ x. beside (refusal x)) (sym e)

pub given : {X : Type 0} (done : X) (refusal : X → ℕ) (beside : ℕ → X) (r : X) → r ≡ done → StandsAlone refusal beside done
    → Given done refusal beside r
given done refusal beside r e keeps = record { same = e; refused = renamed refusal beside done r e keeps }

module _ {X : Type 0} (m : HokrundJob) (done : Job → X) (refusal : X → ℕ) (beside : ℕ → X) (r : X) (e : r ≡ cond (is_job m) (done (job_of m)) (beside 7)) where
  of_job : (job : Job) → cleared m ≡ mirror_of job → r ≡ done job
  of_job job h =
      let is : is_job m ≡ true = sym (cleared-is m) ∙ ap is_job h ∙ mirror-is job in
      let same : job_of m ≡ job = sym (cleared-job m) ∙ ap job_of h ∙ job-mirror job in
      e ∙ rw (is, same)

  of_none : (t : Bool) → is_job m ≡ t → ((job : Job) → cleared m ≡ mirror_of job → ⊥) → r ≡ beside 7
  of_none true h without = absurd (without (job_of m) (sym (mirror-job m h)))
  of_none false h without = e ∙ rw h

  pub mirrored : StandsAlone refusal beside (cond (is_job m) (done (job_of m)) (beside 7)) → Mirrored m done refusal beside r
  mirrored keeps = record { of_job = of_job; of_none = of_none (is_job m) refl; refused = renamed refusal beside _ r e keeps }

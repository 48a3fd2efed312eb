-- What a call promises. On a mirror m it answers what the operation gives for the job whose mirror it is, and is refused 7 where it is that of no
-- job; what is reserved in m plays no part. A refused outcome is what stands beside its number.
use Rattle.std.specs.Prelude.{◌≡◌, ℕ}
use Rattle.search.specs.declared.Job.{Job}
use Rattle.mirror.specs.Mirror.{cleared, mirror_of}
use Rattle.mirror.specs.declared.HokrundJob.{HokrundJob}

pub record Mirrored {X : Type 0} (m : HokrundJob) (done : Job → X) (refusal : X → ℕ) (beside : ℕ → X) (r : X) : Type 0 where
  pub of_job : (job : Job) → cleared m ≡ mirror_of job → r ≡ done job
  pub of_none : ((job : Job) → cleared m ≡ mirror_of job → ⊥) → r ≡ beside 7
  pub refused : (refusal r ≡ 0 → ⊥) → r ≡ beside (refusal r)

-- of a call that takes no mirror
pub record Given {X : Type 0} (done : X) (refusal : X → ℕ) (beside : ℕ → X) (r : X) : Type 0 where
  pub same : r ≡ done
  pub refused : (refusal r ≡ 0 → ⊥) → r ≡ beside (refusal r)

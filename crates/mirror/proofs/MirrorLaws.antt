-- The two conversions of the mirror undo each other: of every job, and of every mirror whose numbers are those of a phase and of a way, but for what
-- is reserved in it, which plays no part.
use mathlib.Core.Path.{◌≡◌, refl, sym}
use mathlib.Core.Bool.{true}
use Prim.Native.Nat.{ℕ, zero, suc}
use native.Mathlib.Omega.{arith}
use Rattle.search.specs.JobState.{level_of}
use Rattle.search.specs.declared.Job.{Job}
use Rattle.search.specs.declared.Phase.{Phase}
use Rattle.search.specs.declared.Phase.TheVariants.{Blanking, Level, Finished}
use Rattle.search.specs.declared.Way.{Way}
use Rattle.search.specs.declared.Way.TheVariants.{Forward, Reverse}
use borrow.Author.Tests.{eqb-true, le-ltb}
use Rattle.base.proofs.Tests.{and_left, and_right, and_both, never}
use Rattle.mirror.specs.Mirror.{phase_number, phase_of, is_phase, way_number, way_of, is_way, is_job, cleared, job_of, mirror_of}
use Rattle.mirror.specs.declared.HokrundJob.{HokrundJob}

phase-number : (p : Phase) → phase_of (phase_number p) (level_of p) ≡ p
unfolding phase_of phase_number level_of
phase-number Blanking = refl
phase-number (Level d) = refl
phase-number (Finished d) = refl

number-is-phase : (p : Phase) → is_phase (phase_number p) (level_of p) ≡ true
unfolding phase_number level_of is_phase
number-is-phase Blanking = refl
number-is-phase (Level d) = refl
number-is-phase (Finished d) = refl

number-phase : (number level : ℕ) → is_phase number level ≡ true → (phase_number (phase_of number level) ≡ number) × (level_of (phase_of number level) ≡ level)
unfolding phase_of phase_number level_of is_phase
number-phase zero level h = (refl, sym (eqb-true level 0 h))
number-phase (suc zero) level h = (refl, refl)
number-phase (suc (suc zero)) level h = (refl, refl)
number-phase (suc (suc (suc number))) level h = never h refl

way-number : (w : Way) → way_of (way_number w) ≡ w
unfolding way_of way_number
way-number Forward = refl
way-number Reverse = refl

number-is-way : (w : Way) → is_way (way_number w) ≡ true
unfolding is_way way_number
number-is-way Forward = refl
number-is-way Reverse = refl

number-way : (number : ℕ) → is_way number ≡ true → way_number (way_of number) ≡ number
unfolding is_way way_of way_number
number-way zero h = refl
number-way (suc zero) h = refl
number-way (suc (suc number)) h = never h (le-ltb (suc (suc number)) 2 (omega arith))

pub job-mirror : (job : Job) → job_of (mirror_of job) ≡ job
unfolding job_of mirror_of
job-mirror job = rw (phase-number job.phase) (rw (way-number job.way) refl)

-- every mirror of a job is one
pub mirror-is : (job : Job) → is_job (mirror_of job) ≡ true
unfolding is_job mirror_of
mirror-is job = and_both _ _ (number-is-phase job.phase) (number-is-way job.way)

-- what is reserved plays no part
pub cleared-is : (m : HokrundJob) → is_job (cleared m) ≡ is_job m
unfolding is_job cleared
cleared-is m = refl

pub cleared-job : (m : HokrundJob) → job_of (cleared m) ≡ job_of m
unfolding job_of cleared
cleared-job m = refl

pub mirror-job : (m : HokrundJob) → is_job m ≡ true → mirror_of (job_of m) ≡ cleared m
unfolding is_job cleared job_of mirror_of
mirror-job m h =
    let e = number-phase m.phase m.level (and_left (is_phase m.phase m.level) (is_way m.way) h) in
    let w = number-way m.way (and_right (is_phase m.phase m.level) (is_way m.way) h) in
    rw e.0 (rw e.1 (rw w refl))

-- `close::close::next_phase` meets its contract: a level is 1 or above, and one that brought stacks is below the last, so that the next fits a byte.
use mathlib.Core.Path.{◌≡◌, sym, ap, ◌∙◌}
use mathlib.Core.Logic.{inl, inr}
use mathlib.Core.Bool.{true, ◌&&◌}
use Prim.Native.Nat.{ℕ, ◌≤◌, ◌<◌}
use native.Mathlib.Omega.{arith}
use borrow.Author.Tests.{leb-true}
use lib.Dec.{leb}
use lib.ListN.{get_or}
use Rattle.base.proofs.Tests.{and_left, and_right, eq-or-ne}
use Rattle.search.specs.JobState.{last_level, level_of, phase_fits, count_of}
use Rattle.search.specs.declared.Phase.{Phase}
use Rattle.search.specs.declared.Phase.TheVariants.{Level}
use Rattle.search.proofs.Accepted.{past-facts}
use Rattle.close.proofs.close.next_phase.Goals as goal

-- the level of a phase that fits
range : (phase : Phase) (d : ℕ) → phase_fits phase ≡ true → phase ≡ Level d → (1 ≤ d) × (d ≤ last_level)
unfolding phase_fits
range phase d h e =
    let t : (leb 1 d && leb d last_level) ≡ true = sym (ap phase_fits e) ∙ h in
    (leb-true 1 d (and_left (leb 1 d) (leb d last_level) t), leb-true d last_level (and_right (leb 1 d) (leb d last_level) t))

pub overflow_sub-result : goal.overflow_sub-result
overflow_sub-result c = (range c.args.job.now.phase c.in-Level.d c.requires.0 c.in-Level.is).0

pub overflow_add-result : goal.overflow_add-result
unfolding count_of level_of
overflow_add-result c =
    let job = c.args.job.now in
    let d = c.in-Level-2.d in
    let phase = c.in-Level-2.is in
    let most = (range job.phase d c.requires.0 phase).1 in
    let below : d < last_level = elim (eq-or-ne d last_level) [
      | inl e ↦
          absurd
          (c.if-job-d-eq0.false
          (ap (λ (k : ℕ). get_or job.counts k 0) (sym (ap level_of c.in-Level.is) ∙ ap level_of phase ∙ e)
          ∙ past-facts job c.requires.1 (ap level_of phase ∙ e)))
      | inr ne ↦ omega arith
    ] in
    omega arith

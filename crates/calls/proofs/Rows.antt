-- The rows at the front of a call's, in the form that a check finds: where they refuse so does the call's row, and where not the rest decides.
use mathlib.Core.Path.{◌≡◌, refl, sym, ◌∙◌}
use mathlib.Core.Bool.{Bool, true}
use Prim.Native.Nat.{ℕ, ◌*◌, ◌<◌}
use lib.ListN.{get_or}
use Rattle.stacks.specs.Refusals.{number}
use Rattle.stacks.specs.declared.refusal.Refusal.{Refusal}
use Rattle.stacks.proofs.Numbers.{row-errs, row-oks}
use Rattle.search.specs.JobState.{is_coherent, stack_count_of, segment_count_of, stack_count_at, log_length, passed_of, waiting_of}
use Rattle.search.specs.Refusals.{call_refusal, segment_refusal, level_refusal}
use Rattle.search.specs.Segments.{segment_limit}
use Rattle.search.specs.Terms.{G, m, begin_refusal}
use Rattle.search.specs.declared.Job.{Job}
use Rattle.search.proofs.Accepted.{CallFacts, LevelFacts, call-row, segment-row, level-row}
use Rattle.job.proofs.Bounds.{coherent-begins, segment-below}
use Rattle.job.proofs.Refusing.{call-begins, segment-begins}

-- ---- the job's words, as the code has them

module _ (job : Job) where
  pub stacks_are : (j : ℕ) → stack_count_at job j ≡ m job.terms j
  unfolding stack_count_at stack_count_of
  stacks_are j = refl

  pub area_is : log_length job ≡ G job.terms * job.terms.room
  unfolding log_length segment_count_of stack_count_of
  area_is = refl

  pub passed_is : (j : ℕ) → passed_of job j ≡ get_or job.passed j 0
  unfolding passed_of
  passed_is j = refl

  pub waiting_is : (j : ℕ) → waiting_of job j ≡ get_or job.waiting j 0
  unfolding waiting_of
  waiting_is j = refl

-- ---- the row of every call

module _ (in_phase : Bool) (job : Job) (j : ℕ) where
  pub call_errs : (rest : ℕ) (r : Refusal) → number r ≡ call_refusal in_phase job j 0 → call_refusal in_phase job j rest ≡ number r
  call_errs rest r e = sym (row-errs (call-row in_phase job j) rest r e)

  pub call_oks : (rest n : ℕ) → 0 ≡ call_refusal in_phase job j 0 → n ≡ rest → n ≡ call_refusal in_phase job j rest
  call_oks rest n h e = e ∙ row-oks (call-row in_phase job j) rest h

-- ---- the row of a call on a segment

module _ (in_phase : Bool) (job : Job) (j bytes : ℕ) where
  pub segment_errs : (rest : ℕ) (r : Refusal) → number r ≡ segment_refusal in_phase job j bytes 0
      → segment_refusal in_phase job j bytes rest ≡ number r
  segment_errs rest r e = sym (row-errs (segment-row in_phase job j bytes) rest r e)

  pub segment_oks : (rest n : ℕ) → 0 ≡ segment_refusal in_phase job j bytes 0 → n ≡ rest → n ≡ segment_refusal in_phase job j bytes rest
  segment_oks rest n h e = e ∙ row-oks (segment-row in_phase job j bytes) rest h

  segment_facts : 0 ≡ segment_refusal in_phase job j bytes 0 → CallFacts in_phase job j
  segment_facts h = ((segment-row in_phase job j bytes).asks (sym h)).0

  pub segment_below : 0 ≡ segment_refusal in_phase job j bytes 0 → j < segment_limit
  segment_below h = let f = segment_facts h in segment-below job f.coherent j f.inside

-- ---- the row of a call of a forward level

module _ (job : Job) (j bytes words : ℕ) where
  pub level_errs : (rest : ℕ) (r : Refusal) → number r ≡ level_refusal job j bytes words 0 → level_refusal job j bytes words rest ≡ number r
  level_errs rest r e = sym (row-errs (level-row job j bytes words) rest r e)

  pub level_oks : (rest n : ℕ) → 0 ≡ level_refusal job j bytes words 0 → n ≡ rest → n ≡ level_refusal job j bytes words rest
  level_oks rest n h e = e ∙ row-oks (level-row job j bytes words) rest h

  module _ (h : 0 ≡ level_refusal job j bytes words 0) where
    level_facts : LevelFacts job j bytes words
    level_facts = (level-row job j bytes words).asks (sym h)

    pub level_coherent : is_coherent job ≡ true
    level_coherent = level_facts.called.coherent

    pub level_begins : begin_refusal job.terms ≡ 0
    level_begins = coherent-begins job level_coherent

    pub level_inside : j < segment_count_of job
    level_inside = level_facts.called.inside

    pub level_wide : words ≡ log_length job
    level_wide = level_facts.wide

pub ruleset call_rows = (area_is, call_errs, call_oks, call-begins)

pub ruleset segment_rows = (stacks_are, passed_is, segment_errs, segment_oks, segment-begins, segment_below)

pub ruleset level_rows = (stacks_are, level_errs, level_oks, level_coherent, level_begins, level_inside, level_wide)

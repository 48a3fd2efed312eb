-- The rows of refusals as the code goes through them: where a row's check answers an error it is the longer row's, and else what is behind it decides.
use mathlib.Core.Path.{◌≡◌, refl, sym, ◌∙◌}
use mathlib.Core.Bool.{Bool, true}
use Prim.Native.Nat.{ℕ, ◌*◌}
use lib.Dec.{eqb}
use Rattle.base.specs.Words.{unless}
use Rattle.base.proofs.Rows.{Row, check, ◌and_then◌}
use Rattle.stacks.specs.Operations.{kind_refusal, index_refusal}
use Rattle.stacks.specs.Refusals.{number}
use Rattle.stacks.specs.Stack.{is_kind, is_pane_count, is_stack}
use Rattle.stacks.specs.Turn.{is_group_set}
use Rattle.stacks.specs.declared.refusal.Refusal.{Refusal}
use Rattle.stacks.proofs.Numbers.{row-errs, row-oks}
use Rattle.stacks.proofs.Refusals.{stack-row}
use Rattle.search.specs.Entries.{bytes_for}
use Rattle.search.specs.JobState.{in_forward, log_length, segment_count_of, stack_count_at, stack_count_of}
use Rattle.search.specs.Refusals.{call_refusal, segment_refusal, level_refusal}
use Rattle.search.specs.Segments.{is_segment_size, is_log_room}
use Rattle.search.specs.Terms.{N, G, m, begin_refusal}
use Rattle.search.specs.declared.Job.{Job}
use Rattle.search.specs.declared.Terms.{Terms}
use Rattle.search.proofs.Accepted.{call-row, segment-row}
use Rattle.job.proofs.Bounds.{coherent-begins}

-- ---- Begin's, behind the wanted stack's, and behind the set's
set-row : (terms : Terms)
    → Row (λ rest. kind_refusal terms.kind terms.n (unless (is_stack terms.kind terms.n terms.wanted) 3 (unless (is_group_set terms.kind terms.n terms.groups) 21 rest)))
    ((((is_kind terms.kind ≡ true) × (is_pane_count terms.kind terms.n ≡ true)) × (is_stack terms.kind terms.n terms.wanted ≡ true))
    × (is_group_set terms.kind terms.n terms.groups ≡ true))
set-row terms = stack-row terms.kind terms.n terms.wanted and_then check (is_group_set terms.kind terms.n terms.groups) 21 refl

module _ (terms : Terms) where
  pub terms-err : (r : Refusal) → number r ≡ index_refusal terms.kind terms.n terms.wanted → number r ≡ begin_refusal terms
  unfolding begin_refusal index_refusal
  terms-err r e = row-errs (stack-row terms.kind terms.n terms.wanted) _ r e

  module _ (stack : 0 ≡ index_refusal terms.kind terms.n terms.wanted) where
    -- the set, where the wanted stack is one
    set : unless (is_group_set terms.kind terms.n terms.groups) 21 0
        ≡ kind_refusal terms.kind terms.n (unless (is_stack terms.kind terms.n terms.wanted) 3 (unless (is_group_set terms.kind terms.n terms.groups) 21 0))
    unfolding index_refusal
    set = row-oks (stack-row terms.kind terms.n terms.wanted) _ stack

    pub set-err : (r : Refusal) → number r ≡ unless (is_group_set terms.kind terms.n terms.groups) 21 0 → number r ≡ begin_refusal terms
    unfolding begin_refusal
    set-err r e = row-errs (set-row terms) _ r (e ∙ set)

    pub set-ok : 0 ≡ unless (is_group_set terms.kind terms.n terms.groups) 21 0
        → unless (is_segment_size (N terms) terms.size) 5 (unless (is_log_room terms.room) 6 0) ≡ begin_refusal terms
    unfolding begin_refusal
    set-ok e = row-oks (set-row terms) _ (e ∙ set)

pub ruleset terms_rows = (terms-err, set-err, set-ok)

-- ---- a segment's, behind the call's
module _ (in_phase : Bool) (job : Job) (j bytes : ℕ) where
  pub segment-err : (r : Refusal) → number r ≡ call_refusal in_phase job j 0 → number r ≡ segment_refusal in_phase job j bytes 0
  unfolding segment_refusal
  segment-err r e = row-errs (call-row in_phase job j) _ r e

  pub segment-ok : 0 ≡ call_refusal in_phase job j 0 → unless (eqb bytes (bytes_for (m job.terms j))) 10 0 ≡ segment_refusal in_phase job j bytes 0
  unfolding segment_refusal stack_count_at stack_count_of
  segment-ok e = row-oks (call-row in_phase job j) _ e

pub call-begins : (in_phase : Bool) (job : Job) (j : ℕ) → 0 ≡ call_refusal in_phase job j 0 → begin_refusal job.terms ≡ 0
call-begins in_phase job j e = coherent-begins job ((call-row in_phase job j).asks (sym e)).coherent

pub ruleset segment_rows = (segment-err, segment-ok, call-begins)

-- ---- a level's, behind the segment's
module _ (job : Job) (j bytes words : ℕ) where
  pub level-err : (r : Refusal) → number r ≡ segment_refusal (in_forward job) job j bytes 0 → number r ≡ level_refusal job j bytes words 0
  unfolding level_refusal
  level-err r e = row-errs (segment-row (in_forward job) job j bytes) _ r e

  pub level-ok : 0 ≡ segment_refusal (in_forward job) job j bytes 0 → unless (eqb words (G job.terms * job.terms.room)) 10 0 ≡ level_refusal job j bytes words 0
  unfolding level_refusal log_length segment_count_of stack_count_of
  level-ok e = row-oks (segment-row (in_forward job) job j bytes) _ e

pub segment-begins : (in_phase : Bool) (job : Job) (j bytes : ℕ) → 0 ≡ segment_refusal in_phase job j bytes 0 → begin_refusal job.terms ≡ 0
segment-begins in_phase job j bytes e = coherent-begins job ((segment-row in_phase job j bytes).asks (sym e)).0.coherent

pub ruleset level_rows = (level-err, level-ok, segment-begins)

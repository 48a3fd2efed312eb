-- Looking at a log, refused and accepted, and where its waiting part stands.
use mathlib.Core.Path.{◌≡◌, sym}
use mathlib.Core.Bool.{true}
use mathlib.Core.List.{List, []}
use Prim.Native.Nat.{ℕ, ◌<◌, ◌≤◌}
use borrow.Author.Tests.{ne_eqb}
use lib.ListN.{length}
use Rattle.stacks.specs.Refusals.{number}
use Rattle.stacks.specs.declared.refusal.Refusal.{Refusal}
use Rattle.stacks.proofs.Numbers.{number-some}
use Rattle.search.specs.JobState.{segment_count_of, log_length, is_coherent}
use Rattle.search.specs.Look.{look_refusal, look_of}
use Rattle.search.specs.Logs.{pending}
use Rattle.search.specs.Segments.{segment_limit}
use Rattle.search.specs.declared.Job.{Job}
use Rattle.search.proofs.Accepted.{CallFacts, look-facts}
use Rattle.job.proofs.Bounds.{coherent-bounds, area_small, part-within}
use Rattle.calls.proofs.Rows.{waiting_is}

pub few_segments : (job : Job) → is_coherent job ≡ true → segment_count_of job ≤ segment_limit
few_segments job coherent = (coherent-bounds job coherent).few

pub ruleset part_rows = (few_segments, area_small, part-within, waiting_is)

module _ (job : Job) (j : ℕ) (log : List ℕ) where
  pub look_errs : (r : Refusal) → number r ≡ look_refusal job j (length log) → look_of job j log ≡ ([], number r)
  unfolding look_of
  look_errs r e = rw (← e, ne_eqb (number r) 0 (number-some r))

  module _ (h : 0 ≡ look_refusal job j (length log)) where
    facts : CallFacts true job j × (length log ≡ log_length job)
    facts = look-facts job j (length log) (sym h)

    pub look_coherent : is_coherent job ≡ true
    look_coherent = facts.0.coherent

    pub look_inside : j < segment_count_of job
    look_inside = facts.0.inside

    pub look_wide : length log ≡ log_length job
    look_wide = facts.1

    pub look_oks : look_of job j log ≡ (pending job j log, 0)
    unfolding look_of
    look_oks = rw (← h)

pub ruleset look_rows = (look_errs, look_coherent, look_inside, look_wide, look_oks)

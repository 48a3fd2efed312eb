-- Look at a log: the waiting part of the log area itself, and the number that is set.
use Rattle.std.specs.Prelude.{true, cond, List, [], ℕ, eqb, length}
use Rattle.base.specs.Words.{unless}
use Rattle.search.specs.JobState.{log_length}
use Rattle.search.specs.Logs.{pending}
use Rattle.search.specs.Refusals.{call_refusal}
use Rattle.search.specs.declared.Job.{Job}

-- in any phase
unfoldable pub look_refusal : Job → ℕ → ℕ → ℕ
look_refusal job j words = call_refusal true job j (unless (eqb words (log_length job)) 10 0)

unfoldable pub look_of : Job → ℕ → List ℕ → List ℕ × ℕ
look_of job j log =
    let r = look_refusal job j (length log) in (cond (eqb r 0) (pending job j log) [], r)

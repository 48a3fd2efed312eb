-- What the definitions of the calls answer. refusal is the refusal's number, and 0 where the call did its work.
use Rattle.std.specs.Prelude.{Bool, ℕ}
use Rattle.search.specs.declared.Job.{Job}

-- of Begin, Blank, Settle, Load, Sweep and Close: the job after the call. Refused, the job as it was; of Begin, a job of zeros but for loaded, which is
-- none
pub record Answer : Type 0 where
  pub job : Job
  pub refusal : ℕ

-- of Expand: Passed where waits is false, else Waiting with segment on. Beside a refusal stand false and 0
pub record Expanded : Type 0 where
  pub job : Job
  pub refusal : ℕ
  pub waits : Bool
  pub on : ℕ

-- of Read an entry: 0 stands beside a refusal
pub record Entry : Type 0 where
  pub refusal : ℕ
  pub entry : ℕ

-- of Plan: how many turns stand at the front of the list, 0 beside a refusal
pub record Planned : Type 0 where
  pub refusal : ℕ
  pub turns : ℕ

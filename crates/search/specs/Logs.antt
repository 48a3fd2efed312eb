-- Logs (document 01, "Segments and entries"): the log of segment t has the C numbers of the log area from t × C on, and fills from the front.
--   Logs       the log area, and the entries waiting in each log
--   pending    the waiting part of a job's log
use Rattle.std.specs.Prelude.{Bool, not, ◌&&◌, List, map, ℕ, ◌+◌, ◌-◌, ◌*◌, ◌/◌, ltb, eqb, get_or, set, take, drop}
use Rattle.base.specs.Words.{tally}
use Rattle.search.specs.JobState.{waiting_of}
use Rattle.search.specs.declared.Job.{Job}

pub record Logs : Type 0 where
  pub log : List ℕ
  pub waiting : List ℕ

-- the first w entries of segment t's log
unfoldable pub log_part : ℕ → ℕ → ℕ → List ℕ → List ℕ
log_part C t w log = take w (drop (t * C) log)

-- the stacks, as indexes, that offsets of segment t stand for
unfoldable pub indexes_of : ℕ → ℕ → List ℕ → List ℕ
indexes_of S t offsets = map (λ i. t * S + i) offsets

unfoldable pub pending : Job → ℕ → List ℕ → List ℕ
pending job j log = log_part job.terms.room j (waiting_of job j) log

-- offset i is appended to the log of segment t
unfoldable pub log_one : ℕ → ℕ → ℕ → Logs → Logs
log_one C t i logs =
    let w = get_or logs.waiting t 0 in
    record { log = set logs.log (t * C + w) i; waiting = set logs.waiting t (w + 1) }

-- how many of the children, as indexes, fall in segment t
unfoldable pub falling_in : ℕ → ℕ → List ℕ → ℕ
falling_in S t children = tally (λ c. eqb (c / S) t) children

-- segment t, other than j, has fewer free log places than children that fall there
unfoldable pub lacks_room : ℕ → ℕ → ℕ → List ℕ → List ℕ → ℕ → Bool
lacks_room S C j waiting children t = not (eqb t j) && ltb (C - get_or waiting t 0) (falling_in S t children)

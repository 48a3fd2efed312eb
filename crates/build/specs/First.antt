-- What a search of the segments answers.
use Rattle.std.specs.Prelude.{true, false, ◌&&◌, ◌≡◌, ◌≤◌, ◌<◌, ℕ, Option, MatchOption, ltb}
use Rattle.search.specs.Drive.{first_pair}
use Rattle.search.specs.JobState.{is_loaded, segment_count_of}
use Rattle.search.specs.declared.Job.{Job}

-- the first of n that passes, or none where that is n
abbrev pub IsFirst : ℕ → ℕ → Option ℕ → Type 0
IsFirst first n r = MatchOption r (n ≤ first) (λ j. (j ≡ first) × (first < n))

-- the first that is left to sweep against the loaded segment, or none where no segment is loaded or none is left
abbrev pub IsPair : Job → Option ℕ → Type 0
IsPair job r =
    MatchOption r ((is_loaded job && ltb (first_pair job) (segment_count_of job)) ≡ false)
    (λ j. (is_loaded job ≡ true) × (j ≡ first_pair job) × (first_pair job < segment_count_of job))

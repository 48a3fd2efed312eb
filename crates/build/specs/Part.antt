-- A call on segment j of a job, made in the whole table; Load and Sweep have the front of the changed list.
use Rattle.std.specs.Prelude.{◌≡◌, ◌≤◌, ◌<◌, true, List, [], ◌++◌, ℕ, ◌+◌, ◌*◌, ◌/◌, length, get_or, set, take, drop}
use Rattle.search.specs.Blank.{blank_of}
use Rattle.search.specs.Drive.{cut, list_bytes_at}
use Rattle.search.specs.Entries.{bytes_for}
use Rattle.search.specs.Expand.{expand_of}
use Rattle.search.specs.JobState.{is_coherent, segment_count_of, stack_count_at, stack_count_of}
use Rattle.search.specs.Load.{load_of}
use Rattle.search.specs.Segments.{joined}
use Rattle.search.specs.Settle.{settle_of}
use Rattle.search.specs.Sweep.{sweep_of}
use Rattle.search.specs.Answers.{Answer}
use Rattle.search.specs.Answers.{Expanded}
use Rattle.search.specs.declared.Job.{Job}

-- segment j lies in the table from byte `start` to below byte `end`
pub record LiesAt (job : Job) (j start end : ℕ) : Type 0 where
  pub starts : start ≡ j * (job.terms.size / 4)
  pub ends : end ≡ j * (job.terms.size / 4) + bytes_for (stack_count_at job j)
  pub within : end ≤ bytes_for (stack_count_of job)

module _ (job : Job) (j : ℕ) (table : List ℕ) where
  -- what each asks of the job, the segment and the table
  pub record PartFits : Type 0 where
    pub coherent : is_coherent job ≡ true
    pub inside : j < segment_count_of job
    pub bytes : length table ≡ bytes_for (stack_count_of job)

  -- segment j, and the table with another one
  unfoldable pub part_of : List ℕ
  part_of = get_or (cut (stack_count_of job) job.terms.size table) j []

  unfoldable pub with_part : List ℕ → List ℕ
  with_part segment = joined (set (cut (stack_count_of job) job.terms.size table) j segment)

  -- the table after the call, and its answer; after Expand, the log area too
  unfoldable pub blanked_in : List ℕ × Answer
  blanked_in = let out = blank_of job j part_of in (with_part out.0, out.1)

  unfoldable pub settled_in : List ℕ → List ℕ × Answer
  settled_in log = let out = settle_of job j part_of log in (with_part out.0, out.1)

  unfoldable pub expanded_in : List ℕ → List ℕ × List ℕ × Expanded
  expanded_in log = let out = expand_of job j part_of log in (with_part out.0, out.1, out.2)

  -- after Load, the list, whose front is that of segment j; Sweep is lent that of the loaded segment
  unfoldable pub loaded_in : List ℕ → List ℕ × Answer
  loaded_in list =
      let out = load_of job j part_of (take (list_bytes_at job j) list) in
      (out.0 ++ drop (list_bytes_at job j) list, out.1)

  unfoldable pub swept_in : List ℕ → List ℕ × Answer
  swept_in list = let out = sweep_of job j part_of (take (list_bytes_at job job.loaded) list) in (with_part out.0, out.1)

-- One call of Expand as its functions speak of it.
--   scan_for     what a call on segment j copies, by its set, from what Begin was given and the level
--   ScanOf       it is that, of the job, and its set is the job's
--   scan_job     the job that a scan stands for
--   ScanFits     what holds of a scan
--   expansion_at what a call changes, as the definitions have it; running, of a call that does not wait
--   SameLent     what it is lent is still the caller's
--   LentFits     what holds of what is lent
--   HasRoom      the logs have places for children
--   first_full   which log first has not
--   ChildFits, ChildrenFit, RunFits   what placing one child, placing all and a run ask
--   PlacesChild, PlacesAll, Runs      what each leaves of what it was lent
use Rattle.std.specs.Prelude.{◌≡◌, true, List, [], ◌∷◌, ℕ, ◌+◌, ◌-◌, ◌*◌, ◌%◌, ◌^◌, ◌<◌, ◌≤◌, length, get_or, Option, None, is_some, unwrap_or}
use Rattle.base.specs.Words.{first_from}
use Rattle.stacks.specs.Turn.{turns_in}
use Rattle.search.specs.Entries.{bytes_for}
use Rattle.search.specs.Expand.{Expansion, place_child, place_all, expand_run}
use Rattle.search.specs.JobState.{count_limit, no_segment, level_of, stack_count_of, stack_count_at}
use Rattle.search.specs.Segments.{segment_limit, segment_count, is_segment_size, is_log_room}
use Rattle.search.specs.Logs.{falling_in, lacks_room}
use Rattle.search.specs.Terms.{G}
use Rattle.perm.specs.Moves.{most_moves}
use Rattle.perm.specs.Panes.{kind_of}
use Rattle.perm.specs.declared.groups.TurnSet.{TurnSet}
use Rattle.search.specs.declared.Job.{Job}
use Rattle.search.specs.declared.Phase.TheVariants.{Level}
use Rattle.search.specs.declared.Terms.{Terms}
use Rattle.search.specs.declared.Way.TheVariants.{Forward}
use Rattle.twobit.specs.Mark.{marks_of, AtMost}
use Rattle.expand.specs.declared.place.Running.{Running}
use Rattle.expand.specs.declared.run.Reached.{Reached}
use Rattle.expand.specs.declared.scan.Scan.{Scan}

-- the moves of a set, rising
abbrev pub moves_in : TurnSet → List ℕ
moves_in set = turns_in (kind_of set.panes) set.panes.n set.groups

unfoldable pub scan_for : TurnSet → Terms → ℕ → ℕ → Scan
scan_for set terms d j =
    record {
      set = set;
      size = terms.size;
      room = terms.room;
      segments = G terms;
      turns = length (moves_in set);
      j = j;
      level = d;
      from = (d - 1) % 3;
      mark = d % 3;
    }

-- a set is the one that Begin was given
abbrev pub SetOf : Terms → TurnSet → Type 0
SetOf terms set = (kind_of set.panes ≡ terms.kind) × (set.panes.n ≡ terms.n) × (set.groups ≡ terms.groups)

abbrev pub ScanOf : Job → ℕ → Scan → Type 0
ScanOf job j scan = (scan ≡ scan_for scan.set job.terms (level_of job.phase) j) × SetOf job.terms scan.set

-- its other fields do not matter
unfoldable pub scan_job : Scan → Job
scan_job scan =
    record {
      terms = record {
        kind = kind_of scan.set.panes;
        n = scan.set.panes.n;
        wanted = [];
        groups = scan.set.groups;
        size = scan.size;
        room = scan.room;
      };
      phase = Level scan.level;
      way = Forward;
      loaded = no_segment;
      passed = [];
      waiting = [];
      swept = [];
      counts = [];
    }

pub record ScanFits (scan : Scan) : Type 0 where
  pub size_fits : is_segment_size (stack_count_of (scan_job scan)) scan.size ≡ true
  pub room_fits : is_log_room scan.room ≡ true
  pub segments_are : scan.segments ≡ segment_count (stack_count_of (scan_job scan)) scan.size
  pub turns_are : scan.turns ≡ length (moves_in scan.set)
  pub inside : scan.j < scan.segments
  pub from_is : scan.from ≡ (scan.level - 1) % 3
  pub mark_is : scan.mark ≡ scan.level % 3

-- what a call changes, with the stack that it has come to, and whether and for what it waits there
abbrev pub expansion_at : Running → ℕ → Option ℕ → Expansion
expansion_at r at waits_for =
    record {
      at = at;
      waits = is_some waits_for;
      on = unwrap_or waits_for 0;
      marks = marks_of r.segment.now r.found;
      logs = record { log = r.log.now; waiting = r.waiting.now };
    }

abbrev pub running : Running → ℕ → Expansion
running r at = expansion_at r at None

-- the segment, the log area and the waiting numbers are still the caller's
abbrev pub SameLent : Running → Running → Type 0
SameLent before after =
    (after.segment.ghost_name ≡ before.segment.ghost_name)
    × (after.log.ghost_name ≡ before.log.ghost_name)
    × (after.waiting.ghost_name ≡ before.waiting.ghost_name)

-- no log is over full
abbrev pub WaitingFits : Scan → List ℕ → Type 0
WaitingFits scan waiting = (t : ℕ) → get_or waiting t 0 ≤ scan.room

-- every log but this segment's has a place for each child that falls in its segment
abbrev pub HasRoom : Scan → List ℕ → List ℕ → Type 0
HasRoom scan waiting children = (t : ℕ) → (t ≡ scan.j → ⊥) → get_or waiting t 0 + falling_in scan.size t children ≤ scan.room

-- the lowest segment that lacks room for children, or the count of segments where none does
abbrev pub first_full : Scan → List ℕ → List ℕ → ℕ
first_full scan waiting children = first_from (lacks_room scan.size scan.room scan.j waiting children) 0 scan.segments

-- what is lent has its right length
pub record LentFits (scan : Scan) (segment log waiting : List ℕ) : Type 0 where
  pub bytes : length segment ≡ bytes_for (stack_count_at (scan_job scan) scan.j)
  pub places : length log ≡ scan.segments * scan.room
  pub logs : length waiting ≡ segment_limit
  pub most : WaitingFits scan waiting

-- what the functions ask. The counts are bounded far below their type's end: each child adds at most one

pub record ChildFits (scan : Scan) (child : ℕ) (r : Running) : Type 0 where
  pub fit : ScanFits scan
  pub lent : LentFits scan r.segment.now r.log.now r.waiting.now
  pub below : child < stack_count_of (scan_job scan)
  pub room : HasRoom scan r.waiting.now (child ∷ [])
  pub few : AtMost r.found (2 ^ 62)

pub record ChildrenFit (scan : Scan) (children : List ℕ) (r : Running) : Type 0 where
  pub fit : ScanFits scan
  pub lent : LentFits scan r.segment.now r.log.now r.waiting.now
  pub below : (i : ℕ) → i < length children → get_or children i 0 < stack_count_of (scan_job scan)
  pub many : length children ≤ most_moves
  pub room : HasRoom scan r.waiting.now children
  pub few : AtMost r.found (2 ^ 61)

pub record RunFits (scan : Scan) (first stacks : ℕ) (r : Running) : Type 0 where
  pub fit : ScanFits scan
  pub lent : LentFits scan r.segment.now r.log.now r.waiting.now
  pub all : stacks ≡ stack_count_at (scan_job scan) scan.j
  pub within : first ≤ stacks
  pub few : AtMost r.found count_limit

-- what they leave, as a call before and after it. Placing is the same at whichever stack

abbrev pub PlacesChild : Scan → ℕ → Running → Running → Type 0
PlacesChild scan child before after = (at : ℕ) → running after at ≡ place_child (scan_job scan) scan.j child (running before at)

abbrev pub PlacesAll : Scan → List ℕ → Running → Running → Type 0
PlacesAll scan children before after = (at : ℕ) → running after at ≡ place_all (scan_job scan) scan.j children (running before at)

-- over the stacks from first on
abbrev pub Runs : Scan → ℕ → ℕ → Running → Running → Reached → Type 0
Runs scan first stacks before after reached =
    expansion_at after reached.at reached.waits_for ≡ expand_run (scan_job scan) scan.j (stacks - first) (running before first)

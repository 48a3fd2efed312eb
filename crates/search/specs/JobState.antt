-- The job: what its fields mean, and when it is coherent (document 01, "The job").
--   stack_count_at   m of segment j
--   moves_of        the moves that make children: the turns of its set, rising
--   swept_of        the segments that are swept against segment b, as bits
--   progressed     the job with another phase, passed and waiting
--   recounted      the job with other counts of its levels
--   directed       the job with another way, loaded segment and swept pairs
use Rattle.std.specs.Prelude.{Bool, true, false, not, ◌&&◌, ◌||◌, cond, List, ℕ, ◌^◌, ◌*◌, ◌/◌, ◌%◌, leb, ltb, eqb, get_or}
use Rattle.base.specs.Words.{all, from}
use Rattle.stacks.specs.Turn.{turns_in}
use Rattle.search.specs.Segments.{segment_limit, segment_count, stack_count_in}
use Rattle.search.specs.Terms.{N, begin_refusal}
use Rattle.search.specs.declared.Job.{Job}
use Rattle.search.specs.declared.Phase.{Phase}
use Rattle.search.specs.declared.Phase.TheVariants.{Blanking, Level, Finished}
use Rattle.search.specs.declared.Way.{Way}
use Rattle.search.specs.declared.Way.TheVariants.{Forward, Reverse}

-- the limits: the last level that is searched, the places that the counts of the levels take, and the most that a count may be in a
-- coherent job
abbrev pub last_level : ℕ
last_level = 255

abbrev pub count_places : ℕ
count_places = 256

unfoldable pub count_limit : ℕ
count_limit = 2 ^ 60

-- N, G and m of the job
unfoldable pub stack_count_of : Job → ℕ
stack_count_of job = N job.terms

unfoldable pub segment_count_of : Job → ℕ
segment_count_of job = segment_count (stack_count_of job) job.terms.size

unfoldable pub stack_count_at : Job → ℕ → ℕ
stack_count_at job j = stack_count_in (stack_count_of job) job.terms.size j

unfoldable pub log_length : Job → ℕ
log_length job = segment_count_of job * job.terms.room

abbrev pub moves_of : Job → List ℕ
moves_of job = turns_in job.terms.kind job.terms.n job.terms.groups

unfoldable pub passed_of : Job → ℕ → ℕ
passed_of job j = get_or job.passed j 0

unfoldable pub waiting_of : Job → ℕ → ℕ
waiting_of job j = get_or job.waiting j 0

unfoldable pub count_of : Job → ℕ → ℕ
count_of job d = get_or job.counts d 0

-- what stands for the loaded segment where none is loaded
abbrev pub no_segment : ℕ
no_segment = segment_limit

unfoldable pub is_loaded : Job → Bool
is_loaded job = not (eqb job.loaded no_segment)

unfoldable pub swept_of : Job → ℕ → ℕ
swept_of job b = get_or job.swept b 0

-- segment j is swept against segment b: bit j of b's number is set
unfoldable pub is_swept : Job → ℕ → ℕ → Bool
is_swept job b j = eqb (swept_of job b / 2 ^ j % 2) 1

unfoldable pub is_blanking : Phase → Bool
is_blanking Blanking = true
is_blanking (Level d) = false
is_blanking (Finished d) = false

unfoldable pub is_level : Phase → Bool
is_level Blanking = false
is_level (Level d) = true
is_level (Finished d) = false

unfoldable pub is_finished : Phase → Bool
is_finished Blanking = false
is_finished (Level d) = false
is_finished (Finished d) = true

unfoldable pub is_reverse : Way → Bool
is_reverse Forward = false
is_reverse Reverse = true

-- a level that is searched forward, and one that is searched reverse
unfoldable pub in_forward : Job → Bool
in_forward job = is_level job.phase && not (is_reverse job.way)

unfoldable pub in_reverse : Job → Bool
in_reverse job = is_level job.phase && is_reverse job.way

-- the level that a phase carries
unfoldable pub level_of : Phase → ℕ
level_of Blanking = 0
level_of (Level d) = d
level_of (Finished d) = d

-- d is 1 to 255, deepest 0 to 254
unfoldable pub phase_fits : Phase → Bool
phase_fits Blanking = true
phase_fits (Level d) = leb 1 d && leb d last_level
phase_fits (Finished d) = ltb d last_level

-- passed is at most m, waiting at most C, both 0 from segment G up; m is 0 there
unfoldable pub segment_fits : Job → ℕ → Bool
segment_fits job j = leb (passed_of job j) (stack_count_at job j) && leb (waiting_of job j) (cond (ltb j (segment_count_of job)) job.terms.room 0)

-- no pair is swept with a segment of G or above: b's number has only its lowest G bits, and none from segment G up
unfoldable pub swept_fits : Job → ℕ → Bool
swept_fits job b = ltb (swept_of job b) (cond (ltb b (segment_count_of job)) (2 ^ segment_count_of job) 1)

unfoldable pub loaded_fits : Job → Bool
loaded_fits job = not (is_loaded job) || ltb job.loaded (segment_count_of job)

unfoldable pub count_in_limit : ℕ → Bool
count_in_limit count = leb count count_limit

unfoldable pub counts_fit : Job → Bool
counts_fit job = all count_in_limit job.counts

unfoldable pub is_coherent : Job → Bool
is_coherent job =
    eqb (begin_refusal job.terms) 0
    && phase_fits job.phase
    && all (segment_fits job) (from 0 segment_limit)
    && counts_fit job
    && loaded_fits job
    && all (swept_fits job) (from 0 segment_limit)

unfoldable pub progressed : Job → Phase → List ℕ → List ℕ → Job
progressed job phase passed waiting =
    record {
      terms = job.terms;
      phase = phase;
      way = job.way;
      loaded = job.loaded;
      passed = passed;
      waiting = waiting;
      swept = job.swept;
      counts = job.counts;
    }

unfoldable pub recounted : Job → List ℕ → Job
recounted job counts =
    record {
      terms = job.terms;
      phase = job.phase;
      way = job.way;
      loaded = job.loaded;
      passed = job.passed;
      waiting = job.waiting;
      swept = job.swept;
      counts = counts;
    }

unfoldable pub directed : Job → Way → ℕ → List ℕ → Job
directed job way loaded swept =
    record {
      terms = job.terms;
      phase = job.phase;
      way = way;
      loaded = loaded;
      passed = job.passed;
      waiting = job.waiting;
      swept = swept;
      counts = job.counts;
    }

-- The mirror of the job, in which the phase is two numbers and the way one, and the answers in C's structs.
--   phase_number, level_of           the two numbers of a phase
--   phase_of                        the phase of two numbers that is_phase accepts
--   way_number, way_of               the number of a way, and the way of a number; Close takes any number
--   job_of, mirror_of                the two conversions of the job
--   cleared                        a mirror with its reserved bytes 0, as they are in all that go out
--   one_lent, two_lent, three_lent    an outcome, its answer converted
use Rattle.std.specs.Prelude.{Bool, true, false, ◌&&◌, cond, List, [], ◌∷◌, ℕ, zero, suc, ltb, eqb, length}
use Rattle.stacks.specs.Answers.{Indexed}
use Rattle.stacks.specs.Answers.{Stacked}
use Rattle.search.specs.JobState.{level_of}
use Rattle.search.specs.Terms.{terms_of}
use Rattle.search.specs.Answers.{Answer}
use Rattle.search.specs.Answers.{Entry}
use Rattle.search.specs.Answers.{Expanded}
use Rattle.search.specs.declared.Job.{Job}
use Rattle.search.specs.declared.Phase.{Phase}
use Rattle.search.specs.declared.Phase.TheVariants.{Blanking, Level, Finished}
use Rattle.search.specs.Answers.{Planned}
use Rattle.search.specs.declared.Way.{Way}
use Rattle.search.specs.declared.Way.TheVariants.{Forward, Reverse}
use Rattle.tariff.specs.Answers.{Priced}
use Rattle.mirror.specs.declared.HokrundAnswer.{HokrundAnswer}
use Rattle.mirror.specs.declared.HokrundEntry.{HokrundEntry}
use Rattle.mirror.specs.declared.HokrundExpanded.{HokrundExpanded}
use Rattle.mirror.specs.declared.HokrundIndexed.{HokrundIndexed}
use Rattle.mirror.specs.declared.HokrundJob.{HokrundJob}
use Rattle.mirror.specs.declared.HokrundLook.{HokrundLook}
use Rattle.mirror.specs.declared.HokrundPlanned.{HokrundPlanned}
use Rattle.mirror.specs.declared.HokrundPriced.{HokrundPriced}
use Rattle.mirror.specs.declared.HokrundStacked.{HokrundStacked}

unfoldable pub phase_number : Phase → ℕ
phase_number Blanking = 0
phase_number (Level d) = 1
phase_number (Finished d) = 2

unfoldable pub phase_of : ℕ → ℕ → Phase
phase_of zero level = Blanking
phase_of (suc zero) level = Level level
phase_of (suc (suc k)) level = Finished level

-- Blanking carries no level, so its second number is 0
unfoldable pub is_phase : ℕ → ℕ → Bool
is_phase zero level = eqb level 0
is_phase (suc zero) level = true
is_phase (suc (suc zero)) level = true
is_phase (suc (suc (suc k))) level = false

unfoldable pub way_number : Way → ℕ
way_number Forward = 0
way_number Reverse = 1

unfoldable pub way_of : ℕ → Way
way_of zero = Forward
way_of (suc k) = Reverse

unfoldable pub is_way : ℕ → Bool
is_way number = ltb number 2

-- whether a mirror's numbers are those of a phase and of a way
unfoldable pub is_job : HokrundJob → Bool
is_job m = is_phase m.phase m.level && is_way m.way

unfoldable pub cleared : HokrundJob → HokrundJob
cleared m =
    record {
      kind = m.kind;
      n = m.n;
      phase = m.phase;
      level = m.level;
      way = m.way;
      loaded = m.loaded;
      wanted = m.wanted;
      reserved = 0 ∷ 0 ∷ [];
      groups = m.groups;
      size = m.size;
      room = m.room;
      passed = m.passed;
      waiting = m.waiting;
      swept = m.swept;
      counts = m.counts;
    }

unfoldable pub job_of : HokrundJob → Job
job_of m =
    record {
      terms = terms_of m.kind m.n m.wanted.places m.groups m.size m.room;
      phase = phase_of m.phase m.level;
      way = way_of m.way;
      loaded = m.loaded;
      passed = m.passed;
      waiting = m.waiting;
      swept = m.swept;
      counts = m.counts;
    }

unfoldable pub mirror_of : Job → HokrundJob
mirror_of job =
    record {
      kind = job.terms.kind;
      n = job.terms.n;
      phase = phase_number job.phase;
      level = level_of job.phase;
      way = way_number job.way;
      loaded = job.loaded;
      wanted = record { places = job.terms.wanted };
      reserved = 0 ∷ 0 ∷ [];
      groups = job.terms.groups;
      size = job.terms.size;
      room = job.terms.room;
      passed = job.passed;
      waiting = job.waiting;
      swept = job.swept;
      counts = job.counts;
    }

-- the answers, field by field
unfoldable pub indexed_of : Indexed → HokrundIndexed
indexed_of a = record { refusal = a.refusal; index = a.index }

unfoldable pub stacked_of : Stacked → HokrundStacked
stacked_of a = record { refusal = a.refusal; stack = record { places = a.stack } }

unfoldable pub answer_of : Answer → HokrundAnswer
answer_of a = record { refusal = a.refusal; job = mirror_of a.job }

unfoldable pub expanded_of : Expanded → HokrundExpanded
expanded_of a = record { refusal = a.refusal; waits = a.waits; on = a.on; job = mirror_of a.job }

-- Look's part and number: where the part stands, from a start on; 0 and 0 beside a refusal
unfoldable pub looked_of : ℕ → List ℕ × ℕ → HokrundLook
looked_of start out = record { refusal = out.1; start = cond (eqb out.1 0) start 0; length = length out.0 }

abbrev pub looked_at : ℕ → List ℕ × ℕ → List ℕ × HokrundLook
looked_at start out = (out.0, looked_of start out)

unfoldable pub entry_read_of : Entry → HokrundEntry
entry_read_of a = record { refusal = a.refusal; entry = a.entry }

unfoldable pub planned_of : Planned → HokrundPlanned
planned_of a = record { refusal = a.refusal; turns = a.turns }

unfoldable pub priced_of : Priced → HokrundPriced
priced_of a = record { refusal = a.refusal; turns = a.turns; pennies = a.pennies }

-- what an operation leaves in one, two or three lent buffers, and its answer converted
abbrev pub one_lent : {A B C : Type 0} → (B → C) → A × B → A × C
one_lent f out = (out.0, f out.1)

abbrev pub two_lent : {A B C D : Type 0} → (C → D) → A × B × C → A × B × D
two_lent f out = (out.0, out.1, f out.2)

abbrev pub three_lent : {A B C D E : Type 0} → (D → E) → A × B × C × D → A × B × C × E
three_lent f out = (out.0, out.1, out.2, f out.3)

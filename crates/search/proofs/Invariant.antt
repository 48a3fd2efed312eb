-- The invariant of a build: what holds of job, segments and log area after any list of calls. It has one record for each phase.
--   Shaped      the job has the terms that Begin was given, and every array and buffer its right length
--   Blanks      in Blanking: each segment is untouched or blanked
--   Searches    in Level d: the level invariant of the search, with a log that holds what it says
--   Listing     in a reverse level: the changed list is that of the loaded segment
--   Ended       in Finished: every entry and count is right
use mathlib.Core.Path.{◌≡◌}
use mathlib.Core.Logic.{◌⊎◌}
use mathlib.Core.Bool.{Bool, true, ◌&&◌, cond}
use mathlib.Core.List.{List, []}
use Prim.Native.Nat.{ℕ, suc, ◌+◌, ◌-◌, ◌*◌, ◌/◌, ◌%◌, ◌^◌, ◌≤◌, ◌<◌}
use lib.Dec.{ltb, eqb}
use lib.ListN.{length, get_or}
use Rattle.graph.specs.Walks.{is_move}
use Rattle.graph.proofs.LevelCounts.{Counting, Counted}
use Rattle.graph.proofs.Levels as Levels
use Rattle.search.specs.Blank.{blanked}
use Rattle.search.specs.Build.{World}
use Rattle.search.specs.Changed.{list_bytes, bit_at}
use Rattle.search.specs.Entries.{entry_at, bytes_for}
use Rattle.search.specs.JobState.{passed_of, waiting_of, count_of, swept_of, is_swept, is_reverse, last_level, no_segment, count_places}
use Rattle.search.specs.Marks.{every_stack}
use Rattle.search.specs.Segments.{segment_limit}
use Rattle.search.specs.Terms.{N, G, m}
use Rattle.search.specs.declared.Job.{Job}
use Rattle.search.specs.declared.Phase.TheVariants.{Blanking, Level, Finished}
use Rattle.search.specs.declared.Terms.{Terms}
use Rattle.search.proofs.Given.{moves, step, beyond, D}

-- the entry of the stack at index v, in its own segment
unfoldable pub entry_in : ℕ → List (List ℕ) → ℕ → ℕ
entry_in S segments v = entry_at (get_or segments (v / S) []) (v % S)

-- in this level, stack u was passed, or its segment is swept by v's, and it has child v
unfoldable pub Looked : Terms → Job → ℕ → ℕ → Type 0
Looked terms job u v =
    ((u % terms.size < passed_of job (u / terms.size)) ⊎ (is_swept job (u / terms.size) (v / terms.size) ≡ true))
    × ((k : ℕ) × (is_move (moves terms) k ≡ true) × (step terms k u ≡ v))

-- a stack of this depth has the entry of the level before d
unfoldable pub is_due : ℕ → ℕ → Bool
is_due d depth = ltb depth d && eqb (depth % 3) ((d - 1) % 3)

-- stack v waits in the log of its segment
unfoldable pub Logged : Terms → World → ℕ → Type 0
Logged terms w v =
    (v < N terms)
    × ((i : ℕ) × (i < waiting_of w.job (v / terms.size)) × (get_or w.log (v / terms.size * terms.room + i) 0 ≡ v % terms.size))

module _ (terms : Terms) where
  pub record Shaped (w : World) : Type 0 where
    pub terms_is : w.job.terms ≡ terms
    pub passed_length : length w.job.passed ≡ segment_limit
    pub waiting-length : length w.job.waiting ≡ segment_limit
    pub swept-length : length w.job.swept ≡ segment_limit
    pub counts-length : length w.job.counts ≡ count_places
    pub segments-length : length w.segments ≡ G terms
    pub segment-bytes : (j : ℕ) → j < G terms → length (get_or w.segments j []) ≡ bytes_for (m terms j)
    pub log_length : length w.log ≡ G terms * terms.room
    -- nothing of G or above is loaded or swept
    pub loaded-fits : (w.job.loaded ≡ no_segment) ⊎ (w.job.loaded < G terms)
    pub swept-fits : (b : ℕ) → swept_of w.job b < cond (ltb b (G terms)) (2 ^ G terms) 1

  -- each byte of a segment is a byte, and the spare entries of its last one are 3
  pub record Spares (w : World) : Type 0 where
    pub byte : (j k : ℕ) → j < G terms → get_or (get_or w.segments j []) k 0 < 256
    pub spare : (j i : ℕ) → j < G terms → m terms j ≤ i → i < 4 * bytes_for (m terms j) → entry_at (get_or w.segments j []) i ≡ 3

  pub record Blanks (w : World) : Type 0 where
    pub phase_is : w.job.phase ≡ Blanking
    pub none-waits : (j : ℕ) → waiting_of w.job j ≡ 0
    pub none-counted : (d : ℕ) → count_of w.job d ≡ 0
    pub none-beyond : (j : ℕ) → G terms ≤ j → passed_of w.job j ≡ 0
    pub each : (j : ℕ) → j < G terms
        → (passed_of w.job j ≡ 0) ⊎ ((passed_of w.job j ≡ m terms j) × (get_or w.segments j [] ≡ blanked w.job j))

  pub record Listing (w : World) (d : ℕ) : Type 0 where
    pub long : length w.changed ≡ list_bytes (m terms w.job.loaded)
    pub bits : (i : ℕ) → i < m terms w.job.loaded → bit_at w.changed i ≡ is_due d (D terms (w.job.loaded * terms.size + i))

  pub record Searches (w : World) (d : ℕ) : Type 0 where
    pub phase_is : w.job.phase ≡ Level d
    pub last : d ≤ last_level
    -- the level before is not empty
    pub before : (v : ℕ) × (v < N terms) × (suc (D terms v) ≡ d)
    pub passed-fits : (j : ℕ) → passed_of w.job j ≤ m terms j
    pub waiting-fits : (j : ℕ) → waiting_of w.job j ≤ terms.room
    pub waiting-beyond : (j : ℕ) → G terms ≤ j → waiting_of w.job j ≡ 0
    -- what waits is an offset of its segment, so that Settle never says 12
    pub offsets : (t i : ℕ) → t < G terms → i < waiting_of w.job t → get_or w.log (t * terms.room + i) 0 < m terms t
    pub level : Levels.Level (N terms) (D terms) d (entry_in terms.size w.segments) (Looked terms w.job) (Logged terms w)
    pub spares : Spares w
    pub counts : Counting (every_stack terms) (N terms) (D terms) (count_of w.job) (entry_in terms.size w.segments) d
    -- in a reverse level nothing waits, and what is loaded is listed
    pub idle : is_reverse w.job.way ≡ true → (j : ℕ) → waiting_of w.job j ≡ 0
    pub listed : is_reverse w.job.way ≡ true → w.job.loaded < G terms → Listing w d

  pub record Ended (w : World) (d : ℕ) : Type 0 where
    pub phase_is : w.job.phase ≡ Finished d
    pub last : d < last_level
    pub none_passed : (j : ℕ) → passed_of w.job j ≡ 0
    pub none-waits : (j : ℕ) → waiting_of w.job j ≡ 0
    -- of each stack that has a road, and of each that has none
    pub entries : (v : ℕ) → v < N terms → D terms v < beyond → entry_in terms.size w.segments v ≡ D terms v % 3
    pub unreached : (v : ℕ) → v < N terms → D terms v ≡ beyond → entry_in terms.size w.segments v ≡ 3
    pub greatest : (v : ℕ) → v < N terms → D terms v < beyond → D terms v ≤ d
    pub spares : Spares w
    pub counts : Counted (every_stack terms) (N terms) (D terms) (count_of w.job) beyond d
    pub deepest : (v : ℕ) × (v < N terms) × (D terms v ≡ d)

  -- the phase that a build is in, with what holds there
  pub data InPhase (w : World) : Type 0 where
    blanking : Blanks w → InPhase w
    searching : (d : ℕ) → Searches w d → InPhase w
    ended : (d : ℕ) → Ended w d → InPhase w

  pub record Invariant (w : World) : Type 0 where
    pub shaped : Shaped w
    pub phase : InPhase w

-- What the whole-build theorem says of one list of calls: plain 3 for the ordered stack by all turns, S 4 and C 16, so that there are two segments.
--   start    Begin's job; a byte for each segment and 32 numbers for the log area, whatever they are
--   early    the calls to the middle of level 1. Some are refused: a segment that is not there, a buffer of a wrong length, a Close too soon
--   calls    those and the rest, to the end and past it
--   part     the world after the early calls
--   end      the world after them all
use Rattle.std.specs.Prelude.{◌≡◌, true, false, List, [], ◌∷◌, ◌++◌, ℕ, ◌+◌, ◌%◌, ◌≤◌, ◌<◌, ℤ, take}
use Rattle.base.specs.Words.{total}
use Rattle.stacks.specs.Counts.{CountsAt}
use Rattle.stacks.specs.Index.{rank_of}
use Rattle.stacks.specs.Stack.{is_stack, ordered}
use Rattle.stacks.specs.Turn.{all_groups, Road, Fewest}
use Rattle.search.specs.Begin.{begun, begin_of}
use Rattle.search.specs.Build.{World, Call, own, do_blank, do_expand, do_settle, do_look, do_close, outcome, after, is_lent_own, CarriesOn}
use Rattle.search.specs.Close.{close_of}
use Rattle.search.specs.Entries.{entry_at, seen_in}
use Rattle.search.specs.JobState.{count_of, is_finished}
use Rattle.search.specs.Plan.{plan_limit, plan_of}
use Rattle.search.specs.Promise.{right_lengths, FinishedByClose}
use Rattle.search.specs.Segments.{joined}
use Rattle.search.specs.Terms.{terms_of}
use Rattle.search.specs.declared.Phase.TheVariants.{Level, Finished}
use Rattle.search.specs.declared.Terms.{Terms}
use Rattle.search.specs.declared.Way.{Way}
use Rattle.search.specs.declared.Way.TheVariants.{Forward}
use Rattle.worked.specs.Cases.{plain, up, places, any_list, too_long, refusals, search_levels}

abbrev pub all : ℕ
all = all_groups plain 3

-- what Begin is given
abbrev pub terms : Terms
terms = terms_of plain 3 (ordered 3) all 4 16

abbrev pub Calls : Type 0
Calls = List (Call (right_lengths terms))

unfoldable pub early : Calls
early =
    do_blank 2 own  -- 9: the segments are 0 and 1
    ∷ do_blank 1 own
    ∷ do_close Forward  -- 13: segment 0 is not passed
    ∷ do_blank 0 too_long  -- 10
    ∷ do_expand 0 own own  -- 8: the phase is Blanking
    ∷ do_blank 0 own
    ∷ do_blank 0 own  -- 11: all its stacks are passed
    ∷ do_close Forward
    ∷ do_expand 1 own own
    ∷ do_expand 0 own too_long  -- 10
    ∷ do_expand 0 own own
    ∷ []

unfoldable pub calls : Calls
calls =
    early
    ++ (do_close Forward  -- 13: an entry waits in the log of segment 1
    ∷ do_look 1 own
    ∷ do_settle 1 too_long own  -- 10
    ∷ do_settle 1 own own
    ∷ do_close Forward
    ∷ (search_levels 2 3 ++ (do_close Forward ∷ do_expand 0 own own ∷ do_look 0 own ∷ [])))

-- sizes 2 and 3
-- plain 3 1 2
abbrev pub given : List ℤ
given = places (up 3 ∷ up 1 ∷ up 2 ∷ [])

-- plain 1 3 2
abbrev pub tied : List ℤ
tied = places (up 1 ∷ up 3 ∷ up 2 ∷ [])

abbrev pub table : List ℕ
table = 0x90 ∷ 0xf6 ∷ []

-- first, second and words are what the buffers held before
module _ (first second : ℕ) (words : ℕ → ℕ) where
  unfoldable pub start : World
  start =
      record {
        job = begun terms;
        segments = (first ∷ []) ∷ (second ∷ []) ∷ [];
        log = any_list words 32;
        changed = [];
      }

  abbrev pub part : World
  part = after start early

  abbrev pub end : World
  end = after start calls

  -- slots are what the turn list held before
  pub record PlainThree (slots : ℕ → ℕ) : Type 0 where
    pub begins : begin_of terms ≡ record { refusal = 0; job = begun terms }
    pub answers : refusals start early ≡ 9 ∷ 0 ∷ 13 ∷ 10 ∷ 8 ∷ 0 ∷ 11 ∷ 0 ∷ 0 ∷ 10 ∷ 0 ∷ []
    -- part of the list: no call has finished the build, so one carries it on; 31 levels suffice, and no Close says 14
    pub part_way : part.job.phase ≡ Level 1
    pub continues : (call : Call (right_lengths terms)) × (is_lent_own call ≡ true) × ((outcome part call).refusal ≡ 0)
        × CarriesOn part (outcome part call).world
    pub levels : (d : ℕ) → part.job.phase ≡ Level d → d ≤ 31
    pub closes : (way : Way) → (outcome {right = right_lengths terms} part (do_close way)).refusal ≡ 14 → ⊥
    pub ends : (more : Calls) × (is_finished (after start (early ++ more)).job.phase ≡ true)
    -- the whole list: a Close of it has finished the build, and whatever follows leaves it so
    pub finished : end.job.phase ≡ Finished 3
    pub by_close : (before : Calls) × (later : Calls) × (way : Way) × (calls ≡ before ++ (do_close way ∷ later)) × (is_finished (after start before).job.phase ≡ false)
        × ((close_of (after start before).job way).refusal ≡ 0) × (is_finished (close_of (after start before).job way).job.phase ≡ true)
    pub since_close : FinishedByClose start calls → is_finished end.job.phase ≡ true
    pub stays : (more : Calls) → is_finished (after start (calls ++ more)).job.phase ≡ true
    -- the table: each entry is the fewest turns modulo 3, the two spare ones are 3
    pub leaves : joined end.segments ≡ table
    pub entries : (s : List ℤ) → is_stack plain 3 s ≡ true → (d : ℕ) × Fewest plain 3 s (ordered 3) d × (entry_at table (rank_of plain 3 s) ≡ d % 3)
    pub spare_6 : entry_at table 6 ≡ 3
    pub spare_7 : entry_at table 7 ≡ 3
    -- the counts 1 2 2 1: as many stacks are at 0, 1, 2 and 3 turns, and none is at more; all 6 are counted
    pub counts : take 5 end.job.counts ≡ 1 ∷ 2 ∷ 2 ∷ 1 ∷ 0 ∷ []
    pub at_0 : CountsAt plain 3 (ordered 3) 0 1
    pub at_1 : CountsAt plain 3 (ordered 3) 1 2
    pub at_2 : CountsAt plain 3 (ordered 3) 2 2
    pub at_3 : CountsAt plain 3 (ordered 3) 3 1
    pub at_4 : CountsAt plain 3 (ordered 3) 4 0
    pub past : (d : ℕ) → 3 < d → count_of end.job d ≡ 0
    pub added : total end.job.counts ≡ seen_in table 6
    pub all_seen : seen_in table 6 ≡ 6
    -- the deepest level, 3, is reached, and no stack needs more
    pub deepest : (s : List ℤ) × (is_stack plain 3 s ≡ true) × Fewest plain 3 s (ordered 3) 3
    pub greatest : (s : List ℤ) (d : ℕ) → is_stack plain 3 s ≡ true → Fewest plain 3 s (ordered 3) d → d ≤ 3
    -- Plan gets what Begin was given
    pub same_terms : end.job.terms ≡ terms
    -- Plan takes 3 1 2 to the ordered stack by turns 3 and 2, and no road is shorter
    pub accepts : (plan_of plain 3 (ordered 3) given all table (any_list slots plan_limit)).1.refusal ≡ 0
    pub turns : (plan_of plain 3 (ordered 3) given all table (any_list slots plan_limit)).1.turns ≡ 2
    pub road : Road plain 3 (3 ∷ 2 ∷ []) given (ordered 3)
    pub fewest : Fewest plain 3 given (ordered 3) 2
    pub few : (plan_of plain 3 (ordered 3) given all table (any_list slots plan_limit)).1.turns ≤ 30
    -- back there are as many, and by a third stack never fewer
    pub back : Fewest plain 3 (ordered 3) given 2
    pub by_third : (s : List ℤ) (d e : ℕ) → is_stack plain 3 s ≡ true → Fewest plain 3 given s d → Fewest plain 3 s (ordered 3) e → 2 ≤ d + e
    -- two shortest roads lead from 1 3 2: Plan takes the one that lifts the larger group first
    pub smaller : Road plain 3 (2 ∷ 3 ∷ 2 ∷ []) tied (ordered 3)
    pub larger : Road plain 3 (3 ∷ 2 ∷ 3 ∷ []) tied (ordered 3)
    pub takes_larger : take 3 (plan_of plain 3 (ordered 3) tied all table (any_list slots plan_limit)).0 ≡ 3 ∷ 2 ∷ 3 ∷ []
    -- from a spoilt table, in which 3 1 2 has entry 1, the plan is longer, and arrives
    pub spoilt : (plan_of plain 3 (ordered 3) given all (0x90 ∷ 0xf5 ∷ []) (any_list slots plan_limit)).1 ≡ record { refusal = 0; turns = 4 }
    pub spoilt_road : Road plain 3 (2 ∷ 3 ∷ 2 ∷ 3 ∷ []) given (ordered 3)

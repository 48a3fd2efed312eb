-- Reverse levels (document 02, F-5), for the build of PlainThree: level 1 is reverse, level 2 forward, levels 3 and 4 are reverse.
--   mixed    the calls to level 2. Some are refused: a Sweep before a Load, a pair twice, a Close with a pair unswept, Expand in a reverse level
--   onward   the rest, to the end
--   forward  the calls of a build that is forward only, to level 2
--   searched, straight   the worlds of the two lists before their last Close, with level 1 searched whole
use Rattle.std.specs.Prelude.{◌≡◌, [], ◌∷◌, ◌++◌, ℕ, take}
use Rattle.search.specs.Build.{World, own, own_list, other_list, do_blank, do_expand, do_settle, do_load, do_sweep, do_close, outcome, after}
use Rattle.search.specs.JobState.{no_segment}
use Rattle.search.specs.Promise.{right_lengths}
use Rattle.search.specs.Segments.{joined}
use Rattle.search.specs.declared.Phase.TheVariants.{Level, Finished}
use Rattle.search.specs.declared.Way.{Way}
use Rattle.search.specs.declared.Way.TheVariants.{Forward, Reverse}
use Rattle.worked.specs.Cases.{too_long, refusals, blank_all, search_level, sweep_level}
use Rattle.worked.specs.PlainThree.{Calls, terms, start}

unfoldable pub mixed : Calls
mixed =
    do_blank 0 own
    ∷ do_load 0 own (0 ∷ [])  -- 8: the phase is Blanking
    ∷ do_blank 1 own
    ∷ do_close Reverse
    ∷ do_expand 0 own own  -- 8: the level is reverse
    ∷ do_settle 0 own own  -- 8
    ∷ do_sweep 0 own own_list  -- 22: none is loaded
    ∷ do_sweep 2 own own_list  -- 9 before 22
    ∷ do_sweep 0 too_long own_list  -- 22 before 10
    ∷ do_load 2 own (0 ∷ [])  -- 9
    ∷ do_load 0 too_long (0 ∷ [])  -- 10
    ∷ do_load 0 own []  -- 10
    ∷ do_load 0 own (255 ∷ [])
    ∷ do_sweep 1 own (other_list [])  -- 10
    ∷ do_sweep 1 own own_list
    ∷ do_sweep 1 own own_list  -- 11: this pair has been swept
    ∷ do_sweep 0 own own_list
    ∷ do_close Forward  -- 13: segment 1 has not been loaded
    ∷ do_load 1 own (0 ∷ [])
    ∷ do_sweep 1 own own_list
    ∷ do_close Forward  -- 13: segment 0 is not swept against 1
    ∷ do_sweep 0 own own_list
    ∷ do_close Forward
    ∷ []

unfoldable pub onward : Calls
onward =
    do_load 0 own (0 ∷ [])  -- 8: the level is forward
    ∷ do_expand 0 own own
    ∷ do_expand 1 own own
    ∷ do_settle 0 own own
    ∷ do_settle 1 own own
    ∷ do_close Reverse
    ∷ (sweep_level Reverse ++ sweep_level Reverse)

abbrev pub forward : Calls
forward = blank_all 2 ++ search_level 2

-- first, second and words are what the buffers held before
module _ (first second : ℕ) (words : ℕ → ℕ) where
  -- the world when segment 0 is loaded in level 1
  abbrev pub loaded : World
  loaded = after (start first second words) (take 13 mixed)

  abbrev pub half : World
  half = after (start first second words) mixed

  abbrev pub end : World
  end = after half onward

  abbrev pub searched : World
  searched = after (start first second words) (take 22 mixed)

  abbrev pub straight : World
  straight = after (start first second words) (take 7 forward)

  pub record Reversed : Type 0 where
    pub answers : refusals (start first second words) mixed
        ≡ 0 ∷ 8 ∷ 0 ∷ 0 ∷ 8 ∷ 8 ∷ 22 ∷ 9 ∷ 22 ∷ 9 ∷ 10 ∷ 10 ∷ 0 ∷ 10 ∷ 0 ∷ 11 ∷ 0 ∷ 13 ∷ 0 ∷ 0 ∷ 13 ∷ 0 ∷ 0 ∷ []
    -- the changed list of segment 0: stack 0 is the wanted one, and spare bits are 0
    pub changed : loaded.changed ≡ 1 ∷ []
    pub notes : loaded.job.loaded ≡ 0
    -- segment 1 is swept against segment 0: bit 1 of number 0
    pub pair : take 2 (after (start first second words) (take 15 mixed)).job.swept ≡ 2 ∷ 0 ∷ []
    -- each Close leaves nothing loaded and nothing swept
    pub level : half.job.phase ≡ Level 2
    pub unloaded : half.job.loaded ≡ no_segment
    pub unswept : take 2 half.job.swept ≡ 0 ∷ 0 ∷ []
    -- the same table and counts, and a finished job keeps the way that Close was told
    pub more : refusals half onward ≡ 8 ∷ 0 ∷ 0 ∷ 0 ∷ 0 ∷ 0 ∷ 0 ∷ 0 ∷ 0 ∷ 0 ∷ 0 ∷ 0 ∷ 0 ∷ 0 ∷ 0 ∷ 0 ∷ 0 ∷ 0 ∷ 0 ∷ 0 ∷ []
    pub finished : end.job.phase ≡ Finished 3
    pub leaves : joined end.segments ≡ 0x90 ∷ 0xf6 ∷ []
    pub counts : take 5 end.job.counts ≡ 1 ∷ 2 ∷ 2 ∷ 1 ∷ 0 ∷ []
    pub keeps : end.job.way ≡ Reverse
    -- what the theorem says of level 1, searched whole by either way: equal segments and counts, and Close does the same
    pub alike : searched.segments ≡ straight.segments
    pub counted : searched.job.counts ≡ straight.job.counts
    pub answered : (way way' : Way) → (outcome {right = right_lengths terms} searched (do_close way)).refusal
        ≡ (outcome {right = right_lengths terms} straight (do_close way')).refusal
    pub leads : (way way' : Way) → (outcome {right = right_lengths terms} searched (do_close way)).world.job.phase
        ≡ (outcome {right = right_lengths terms} straight (do_close way')).world.job.phase
    -- and when the two lists have just closed it
    pub closed : half.segments ≡ (after (start first second words) forward).segments
    pub closed_counts : half.job.counts ≡ (after (start first second words) forward).job.counts
    pub closed_phase : half.job.phase ≡ (after (start first second words) forward).job.phase

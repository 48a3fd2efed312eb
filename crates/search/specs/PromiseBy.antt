-- What we promise of a build by any set of group sizes: demands 2 and 3 as document 02 restates them, for every list of calls after an
-- accepted Begin. A stack may have no road to the wanted one by the turns of the set, and a stack may need 255 turns. What we promise by all
-- turns (Promise) follows from it.
--   RoadIn       turns of the set that take one stack to another; FewestIn and CountsIn, by these; RoadTo, FewestTo and CountsTo, to the wanted one
--   NoRoad       no list of these turns takes the stack to the wanted one
--   Needs        some stack needs exactly as many
--   EntryBy      what an entry says of its stack
--   FinishesBy   a finished build: its table, its counts, its deepest level and its plans
--   AtEnd        the other end of a build: the last level, searched whole, has stacks
--   PromiseBy    the claim, for one list of calls; WholeBuildBy, for every set and list
use Rattle.std.specs.Prelude.{◌≡◌, ◌⊎◌, true, false, List, ◌++◌, ℕ, ◌-◌, ◌*◌, ◌%◌, ◌≤◌, ◌<◌, ℤ, length, take}
use Rattle.base.specs.Words.{total}
use Rattle.graph.specs.Walks.{is_move}
use Rattle.stacks.specs.Counts.{CountsBy}
use Rattle.stacks.specs.Index.{rank_of}
use Rattle.stacks.specs.Turn.{turns_in, RoadBy, FewestBy}
use Rattle.search.specs.Build.{World, Lengths, Call, outcome, after, loaded_as, CarriesOn, do_close}
use Rattle.search.specs.Entries.{entry_at, seen_in}
use Rattle.search.specs.JobState.{segment_count_of, stack_count_at, passed_of, waiting_of, count_of, is_swept, is_finished, is_reverse, level_of, last_level}
use Rattle.search.specs.Plan.{plan_limit, plan_of}
use Rattle.search.specs.Promise.{right_lengths, plan_in, IsStack, Continues, FinishedByClose, Buffers, start_of}
use Rattle.search.specs.Segments.{joined}
use Rattle.search.specs.Terms.{N, begin_refusal}
use Rattle.search.specs.declared.Phase.TheVariants.{Level}
use Rattle.search.specs.declared.Terms.{Terms}
use Rattle.search.specs.declared.Way.{Way}

abbrev pub RoadIn : ℕ → ℕ → ℕ → List ℕ → List ℤ → List ℤ → Type 0
RoadIn kind n groups = RoadBy kind n (is_move (turns_in kind n groups))

abbrev pub FewestIn : ℕ → ℕ → ℕ → List ℤ → List ℤ → ℕ → Type 0
FewestIn kind n groups = FewestBy kind n (is_move (turns_in kind n groups))

abbrev pub CountsIn : ℕ → ℕ → ℕ → List ℤ → ℕ → ℕ → Type 0
CountsIn kind n groups = CountsBy kind n (is_move (turns_in kind n groups))

module _ (terms : Terms) where
  -- a road to the wanted stack, the fewest turns to it, and how many stacks need as many
  abbrev pub RoadTo : List ℕ → List ℤ → Type 0
  RoadTo ks s = RoadIn terms.kind terms.n terms.groups ks s terms.wanted

  abbrev pub FewestTo : List ℤ → ℕ → Type 0
  FewestTo s d = FewestIn terms.kind terms.n terms.groups s terms.wanted d

  abbrev pub CountsTo : ℕ → ℕ → Type 0
  CountsTo d count = CountsIn terms.kind terms.n terms.groups terms.wanted d count

  abbrev pub NoRoad : List ℤ → Type 0
  NoRoad s = (ks : List ℕ) → RoadTo ks s → ⊥

  -- the fewest turns modulo 3, or 3 where there is no road, and only there
  abbrev pub EntryBy : List ℤ → ℕ → Type 0
  EntryBy s entry = ((d : ℕ) × FewestTo s d × (entry ≡ d % 3)) ⊎ (NoRoad s × (entry ≡ 3))

  -- some stack needs exactly d turns
  abbrev pub Needs : ℕ → Type 0
  Needs d = (s : List ℤ) × IsStack terms s × FewestTo s d

  -- Plan accepts the stack, arrives, and no road is shorter
  pub record PlansBy (w : World) (given : List ℤ) (list : List ℕ) : Type 0 where
    pub accepts : (plan_in w given list).1.refusal ≡ 0
    pub arrives : RoadTo (take (plan_in w given list).1.turns (plan_in w given list).0) given
    pub shortest : FewestTo given (plan_in w given list).1.turns

  pub record FinishesBy (w : World) : Type 0 where
    pub entries : (s : List ℤ) → IsStack terms s → EntryBy s (entry_at (joined w.segments) (rank_of terms.kind terms.n s))
    pub spare : (i : ℕ) → N terms ≤ i → i < 4 * length (joined w.segments) → entry_at (joined w.segments) i ≡ 3
    -- each level count is the number of stacks at exactly that many turns, and 0 past the deepest
    pub counts : (d : ℕ) → d ≤ last_level → CountsTo d (count_of w.job d)
    pub past : (d : ℕ) → level_of w.job.phase < d → count_of w.job d ≡ 0
    -- the counts add up to the number of entries other than 3
    pub added : total w.job.counts ≡ seen_in (joined w.segments) (N terms)
    -- the deepest level is the greatest of all fewest turns, and below the last
    pub deepest : Needs (level_of w.job.phase)
    pub greatest : (s : List ℤ) (d : ℕ) → IsStack terms s → FewestTo s d → d ≤ level_of w.job.phase
    pub below : level_of w.job.phase < last_level
    -- Plan gets what Begin was given
    pub given_terms : w.job.terms ≡ terms
    -- a stack that has a road has its shortest plan, and one that has none is refused 20
    pub plans : (given : List ℤ) (list : List ℕ) → IsStack terms given → plan_limit ≤ length list
        → (ks : List ℕ) → RoadTo ks given → PlansBy w given list
    pub refuses : (given : List ℤ) (list : List ℕ) → IsStack terms given → plan_limit ≤ length list
        → NoRoad given → (plan_in w given list).1.refusal ≡ 20

  module _ (right : Lengths) where
    -- Level 255 with all passed and settled, or each pair swept: Close says 14, no call carries the build on or changes more than what is loaded,
    -- and some stack needs 255 turns
    pub record AtEnd (w : World) : Type 0 where
      pub level : w.job.phase ≡ Level last_level
      pub passed : is_reverse w.job.way ≡ false → (j : ℕ) → j < segment_count_of w.job → passed_of w.job j ≡ stack_count_at w.job j
      pub settled : (j : ℕ) → j < segment_count_of w.job → waiting_of w.job j ≡ 0
      pub swept : is_reverse w.job.way ≡ true → (b j : ℕ) → b < segment_count_of w.job → j < segment_count_of w.job → is_swept w.job b j ≡ true
      pub refused : (way : Way) → (outcome {right = right} w (do_close way)).refusal ≡ 14
      pub still : (call : Call right) → (outcome w call).world ≡ loaded_as (outcome w call).world w
      pub none_carries : (call : Call right) → CarriesOn w (outcome w call).world → ⊥
      pub deep : Needs last_level

    pub record PromiseBy (start : World) (calls : List (Call right)) : Type 0 where
      -- the job is in Finished exactly where a Close of the list has finished the build
      pub by_close : is_finished (after start calls).job.phase ≡ true → FinishedByClose start calls
      pub since_close : FinishedByClose start calls → is_finished (after start calls).job.phase ≡ true
      pub finishes : is_finished (after start calls).job.phase ≡ true → FinishesBy (after start calls)
      -- what has not finished can be carried on, or stands at the other end; a Close says 14 nowhere else
      pub continues : is_finished (after start calls).job.phase ≡ false → (Continues right (after start calls)) ⊎ (AtEnd (after start calls))
      pub closes : (way : Way) → (outcome {right = right} (after start calls) (do_close way)).refusal ≡ 14 → AtEnd (after start calls)
      -- a level is searched where the one before has stacks, and none past the last
      pub levels : (d : ℕ) → (after start calls).job.phase ≡ Level d → (1 ≤ d) × (d ≤ last_level) × Needs (d - 1)
      -- where no stack needs exactly 255 turns, every list can be continued to a finished build
      pub ends : (Needs last_level → ⊥)
          → (more : List (Call right)) × (is_finished (after start (calls ++ more)).job.phase ≡ true)
      -- where one does, no list finishes, and every list can be continued to the other end
      pub never_finished : Needs last_level → is_finished (after start calls).job.phase ≡ false
      pub stands : Needs last_level → (more : List (Call right)) × AtEnd (after start (calls ++ more))
      -- what has finished stays so, and the other end stays as it is but for what is loaded
      pub stays : (more : List (Call right)) → is_finished (after start calls).job.phase ≡ true
          → is_finished (after start (calls ++ more)).job.phase ≡ true
      pub stays_at_end : (more : List (Call right)) → AtEnd (after start calls)
          → AtEnd (after start (calls ++ more)) × (after start (calls ++ more) ≡ loaded_as (after start (calls ++ more)) (after start calls))

-- demands 2 and 3: whatever kind, n, wanted stack, set, S, C, buffers and list of calls, in any mixture of ways
unfoldable pub WholeBuildBy : Type 0
WholeBuildBy =
    (terms : Terms) (segments : List (List ℕ)) (log changed : List ℕ)
    → begin_refusal terms ≡ 0
    → Buffers terms segments log
    → (calls : List (Call (right_lengths terms)))
    → PromiseBy terms (right_lengths terms) (start_of terms segments log changed) calls

-- an accepted plan arrives, also from a spoilt table: as many turns from the front of the list as Plan answers, at most 254
unfoldable pub PlanArrives : Type 0
PlanArrives =
    (kind n : ℕ) (wanted given : List ℤ) (groups : ℕ) (table list : List ℕ)
    → (plan_of kind n wanted given groups table list).1.refusal ≡ 0
    → (let out = plan_of kind n wanted given groups table list in
    RoadIn kind n groups (take out.1.turns out.0) given wanted × (out.1.turns ≤ plan_limit))

-- What we promise of a build by all turns: demands 2 and 3, as one claim about every list of calls after a Begin that was given the full set.
-- PromiseBy has the claim for any set, from which this one follows.
-- It speaks of stacks, turns and roads; Fewest is that of the turning rules, with both ends as arguments.
use Rattle.std.specs.Prelude.{◌≡◌, true, false, List, [], ◌∷◌, ◌++◌, ℕ, suc, ◌*◌, ◌%◌, ◌≤◌, ◌<◌, ℤ, length, get_or, take}
use Rattle.base.specs.Words.{total}
use Rattle.stacks.specs.Counts.{CountsAt}
use Rattle.stacks.specs.Index.{rank_of}
use Rattle.stacks.specs.Stack.{is_stack}
use Rattle.stacks.specs.Turn.{UndoesItself, all_groups, Road, Fewest}
use Rattle.search.specs.Begin.{begun}
use Rattle.search.specs.Build.{World, Lengths, Call, outcome, after, is_lent_own, CarriesOn, do_close}
use Rattle.search.specs.Entries.{entry_at, seen_in, bytes_for}
use Rattle.search.specs.JobState.{count_of, is_finished, level_of, last_level}
use Rattle.search.specs.Plan.{plan_of, plan_limit}
use Rattle.search.specs.Segments.{joined}
use Rattle.search.specs.Terms.{N, G, m, begin_refusal}
use Rattle.search.specs.declared.Phase.TheVariants.{Level}
use Rattle.search.specs.Answers.{Planned}
use Rattle.search.specs.declared.Terms.{Terms}
use Rattle.search.specs.declared.Way.{Way}

-- the right lengths of segment j and of the log area
unfoldable pub right_bytes : Terms → ℕ → ℕ
right_bytes terms j = bytes_for (m terms j)

unfoldable pub right_words : Terms → ℕ
right_words terms = G terms * terms.room

abbrev pub right_lengths : Terms → Lengths
right_lengths terms = record { bytes = right_bytes terms; words = right_words terms }

-- Plan as a finished build is asked for it: the job's own kind, n, wanted stack and set, and its segments joined
abbrev pub plan_in : World → List ℤ → List ℕ → List ℕ × Planned
plan_in w given list =
    let terms = w.job.terms in plan_of terms.kind terms.n terms.wanted given terms.groups (joined w.segments) list

-- as many turns as any stack needs at most
abbrev pub most_turns : ℕ
most_turns = 30

-- a stack of the job's kind and n; a road from it to the wanted stack, and the fewest turns to that, by all turns
module _ (terms : Terms) where
  abbrev pub IsStack : List ℤ → Type 0
  IsStack s = is_stack terms.kind terms.n s ≡ true

  abbrev pub RoadAll : List ℕ → List ℤ → Type 0
  RoadAll ks s = Road terms.kind terms.n ks s terms.wanted

  abbrev pub FewestAll : List ℤ → ℕ → Type 0
  FewestAll s d = Fewest terms.kind terms.n s terms.wanted d

-- it refuses no stack, arrives, and no road is shorter
pub record Plans (w : World) (given : List ℤ) (list : List ℕ) : Type 0 where
  pub accepts : (plan_in w given list).1.refusal ≡ 0
  pub arrives : RoadAll w.job.terms (take (plan_in w given list).1.turns (plan_in w given list).0) given
  pub shortest : FewestAll w.job.terms given (plan_in w given list).1.turns
  pub few : (plan_in w given list).1.turns ≤ most_turns

-- a finished build of the table of a wanted stack
pub record Finishes (terms : Terms) (w : World) : Type 0 where
  -- each entry is the fewest turns modulo 3, and spare entries are 3
  pub entries : (s : List ℤ) → IsStack terms s
      → (d : ℕ) × FewestAll terms s d × (entry_at (joined w.segments) (rank_of terms.kind terms.n s) ≡ d % 3)
  pub spare : (i : ℕ) → N terms ≤ i → i < 4 * length (joined w.segments) → entry_at (joined w.segments) i ≡ 3
  -- each level count is the number of stacks at exactly that many turns, and 0 past the deepest
  pub counts : (d : ℕ) → d ≤ last_level → CountsAt terms.kind terms.n terms.wanted d (count_of w.job d)
  pub past : (d : ℕ) → level_of w.job.phase < d → count_of w.job d ≡ 0
  -- the counts add up to the number of entries other than 3, which is that of all stacks
  pub added : total w.job.counts ≡ seen_in (joined w.segments) (N terms)
  pub all_seen : seen_in (joined w.segments) (N terms) ≡ N terms
  -- the deepest level is the greatest of all fewest turns
  pub deepest : (s : List ℤ) × IsStack terms s × FewestAll terms s (level_of w.job.phase)
  pub greatest : (s : List ℤ) (d : ℕ) → IsStack terms s → FewestAll terms s d → d ≤ level_of w.job.phase
  -- Plan gets what Begin was given
  pub given_terms : w.job.terms ≡ terms
  pub plans : (given : List ℤ) (list : List ℕ) → IsStack terms given → plan_limit ≤ length list → Plans w given list

-- some call, lent what it should get, is not refused and carries the build on
pub record Continues (right : Lengths) (w : World) : Type 0 where
  pub call : Call right
  pub lent_own : is_lent_own call ≡ true
  pub accepted : (outcome w call).refusal ≡ 0
  pub carries : CarriesOn w (outcome w call).world

-- a Close of the list, accepted, has returned a job in Finished
pub record FinishedByClose {right : Lengths} (start : World) (calls : List (Call right)) : Type 0 where
  pub before : List (Call right)
  pub later : List (Call right)
  pub way : Way
  pub place : calls ≡ before ++ (do_close way ∷ later)
  pub unfinished : is_finished (after start before).job.phase ≡ false
  pub accepted : (outcome {right = right} (after start before) (do_close way)).refusal ≡ 0
  pub finished : is_finished (outcome {right = right} (after start before) (do_close way)).world.job.phase ≡ true

-- the claim, for one list of calls
pub record Promise (terms : Terms) (right : Lengths) (start : World) (calls : List (Call right)) : Type 0 where
  -- the job is in Finished exactly where a Close of the list has finished the build
  pub by_close : is_finished (after start calls).job.phase ≡ true → FinishedByClose start calls
  pub since_close : FinishedByClose start calls → is_finished (after start calls).job.phase ≡ true
  pub finishes : is_finished (after start calls).job.phase ≡ true → Finishes terms (after start calls)
  pub continues : is_finished (after start calls).job.phase ≡ false → Continues right (after start calls)
  -- no list brings the job past level 31, or has a Close refused 14
  pub levels : (d : ℕ) → (after start calls).job.phase ≡ Level d → d ≤ suc most_turns
  pub closes : (way : Way) → (outcome {right = right} (after start calls) (do_close way)).refusal ≡ 14 → ⊥
  -- every list can be continued to one that has finished; what has finished stays so
  pub ends : (more : List (Call right)) × (is_finished (after start (calls ++ more)).job.phase ≡ true)
  pub stays : (more : List (Call right)) → is_finished (after start calls).job.phase ≡ true
      → is_finished (after start (calls ++ more)).job.phase ≡ true

-- the buffers that a build starts with: right lengths, any contents
pub record Buffers (terms : Terms) (segments : List (List ℕ)) (log : List ℕ) : Type 0 where
  pub some : length segments ≡ G terms
  pub each : (j : ℕ) → j < G terms → length (get_or segments j []) ≡ right_bytes terms j
  pub area : length log ≡ right_words terms

-- a build as it starts: the job that Begin answers, in these buffers
abbrev pub start_of : Terms → List (List ℕ) → List ℕ → List ℕ → World
start_of terms segments log changed = record { job = begun terms; segments = segments; log = log; changed = changed }

-- demands 2 and 3: whatever kind whose turns undo themselves, n, wanted stack, S, C, buffers and list of calls, in any mixture of ways, where
-- all turns make children. Such turns lead from any stack to any other, in at most turn_bound
unfoldable pub WholeBuild : Type 0
WholeBuild =
    (terms : Terms) (segments : List (List ℕ)) (log changed : List ℕ)
    → begin_refusal terms ≡ 0
    → UndoesItself terms.kind
    → terms.groups ≡ all_groups terms.kind terms.n
    → Buffers terms segments log
    → (calls : List (Call (right_lengths terms)))
    → Promise terms (right_lengths terms) (start_of terms segments log changed) calls

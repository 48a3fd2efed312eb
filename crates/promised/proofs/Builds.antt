-- A build by any set of group sizes: each clause of `whole-build-by`, for every Begin that is accepted, every content of the buffers and every list
-- of calls. What a set leads to and what it does not is written by roads.
use mathlib.Core.Path.{◌≡◌}
use mathlib.Core.Logic.{◌⊎◌}
use mathlib.Core.Bool.{true, false}
use mathlib.Core.List.{List, [], ◌∷◌, ◌++◌}
use Prim.Native.Nat.{ℕ, ◌-◌, ◌*◌, ◌%◌, ◌≤◌, ◌<◌}
use lib.IntN.{ℤ}
use lib.ListN.{length, get_or, take}
use Rattle.base.specs.Words.{total}
use Rattle.stacks.specs.Index.{rank_of}
use Rattle.stacks.specs.Stack.{is_stack, stack_count}
use Rattle.search.specs.Begin.{begun}
use Rattle.search.specs.Build.{World, Lengths, Call, outcome, after, is_lent_own, loaded_as, CarriesOn, do_close}
use Rattle.search.specs.Entries.{bytes_for, entry_at, seen_in}
use Rattle.search.specs.JobState.{segment_count_of, stack_count_at, passed_of, waiting_of, count_of, is_swept, is_finished, is_reverse, level_of}
use Rattle.search.specs.Plan.{plan_of}
use Rattle.search.specs.Promise.{right_bytes, right_words, right_lengths, Continues, FinishedByClose, Buffers}
use Rattle.search.specs.PromiseBy.{RoadIn, FewestIn, CountsIn, PlansBy, FinishesBy, AtEnd, PromiseBy, WholeBuildBy, PlanArrives}
use Rattle.search.specs.Segments.{segment_count, stack_count_in, joined}
use Rattle.search.specs.Terms.{begin_refusal, terms_of}
use Rattle.search.specs.declared.Phase.TheVariants.{Level}
use Rattle.search.specs.Answers.{Planned}
use Rattle.search.specs.declared.Terms.{Terms}
use Rattle.search.specs.declared.Way.{Way}
use Rattle.search.proofs.Finishing
use Rattle.search.proofs.WholeBuild

-- buffers of the right lengths, whatever they hold
buffers-from : {kind n : ℕ} {wanted : List ℤ} {groups S C : ℕ} {segments : List (List ℕ)} {log : List ℕ}
    → length segments ≡ segment_count (stack_count kind n) S
    → ((j : ℕ) → j < segment_count (stack_count kind n) S → length (get_or segments j []) ≡ bytes_for (stack_count_in (stack_count kind n) S j))
    → length log ≡ segment_count (stack_count kind n) S * C
    → Buffers (terms_of kind n wanted groups S C) segments log
unfolding right_bytes right_words
buffers-from some each area = record { some = some; each = each; area = area }

-- a Close of a list has finished the build: where it stands, and that the job was not in Finished before it, that it is accepted, and that the
-- job is in Finished after it
module _ {right : Lengths} {start : World} {calls : List (Call right)} where
  by-close-is : FinishedByClose start calls
      → (before : List (Call right)) × (later : List (Call right)) × (way : Way)
      × (calls ≡ before ++ (do_close way ∷ later))
      × (is_finished (after start before).job.phase ≡ false)
      × ((outcome {right = right} (after start before) (do_close way)).refusal ≡ 0)
      × (is_finished (outcome {right = right} (after start before) (do_close way)).world.job.phase ≡ true)
  by-close-is close = (close.before, close.later, close.way, close.place, close.unfinished, close.accepted, close.finished)

  by-close-from : (before later : List (Call right)) (way : Way)
      → calls ≡ before ++ (do_close way ∷ later)
      → is_finished (after start before).job.phase ≡ false
      → (outcome {right = right} (after start before) (do_close way)).refusal ≡ 0
      → is_finished (outcome {right = right} (after start before) (do_close way)).world.job.phase ≡ true
      → FinishedByClose start calls
  by-close-from before later way place unfinished accepted finished =
      record { before = before; later = later; way = way; place = place; unfinished = unfinished; accepted = accepted; finished = finished }

-- some call, lent what it should get, is not refused and carries the build on
continues-is : {right : Lengths} {w : World} → Continues right w
    → (call : Call right) × (is_lent_own call ≡ true) × ((outcome w call).refusal ≡ 0) × CarriesOn w (outcome w call).world
continues-is c = (c.call, c.lent_own, c.accepted, c.carries)

module _ (kind n : ℕ) (wanted : List ℤ) (groups S C : ℕ) where
  -- what Begin is given
  abbrev given_terms : Terms
  given_terms = terms_of kind n wanted groups S C

  -- some stack needs exactly d turns of the set
  Deep : ℕ → Type 0
  Deep d = (s : List ℤ) × (is_stack kind n s ≡ true) × FewestIn kind n groups s wanted d

  -- ---- a finished build

  module _ (w : World) (f : FinishesBy given_terms w) where
    -- an entry is the fewest turns modulo 3, or 3 and there is no road
    entries : (s : List ℤ) → is_stack kind n s ≡ true
        → ((d : ℕ) × FewestIn kind n groups s wanted d × (entry_at (joined w.segments) (rank_of kind n s) ≡ d % 3))
        ⊎ (((ks : List ℕ) → RoadIn kind n groups ks s wanted → ⊥) × (entry_at (joined w.segments) (rank_of kind n s) ≡ 3))
    entries = f.entries

    spare : (i : ℕ) → stack_count kind n ≤ i → i < 4 * length (joined w.segments) → entry_at (joined w.segments) i ≡ 3
    spare = f.spare

    counts : (d : ℕ) → d ≤ 255 → CountsIn kind n groups wanted d (count_of w.job d)
    counts = f.counts

    past : (d : ℕ) → level_of w.job.phase < d → count_of w.job d ≡ 0
    past = f.past

    added : total w.job.counts ≡ seen_in (joined w.segments) (stack_count kind n)
    added = f.added

    deepest : (s : List ℤ) × (is_stack kind n s ≡ true) × FewestIn kind n groups s wanted (level_of w.job.phase)
    deepest = f.deepest

    greatest : (s : List ℤ) (d : ℕ) → is_stack kind n s ≡ true → FewestIn kind n groups s wanted d → d ≤ level_of w.job.phase
    greatest = f.greatest

    below : level_of w.job.phase < 255
    below = f.below

    same_terms : w.job.terms ≡ record { kind = kind; n = n; wanted = wanted; groups = groups; size = S; room = C }
    same_terms = f.given_terms

    -- Plan with the job's own kind, n, wanted stack and set, and its segments joined; any stack, and any turn list of 254 or more
    module _ (given : List ℤ) (list : List ℕ) (stack : is_stack kind n given ≡ true) (long : 254 ≤ length list) where
      planned : List ℕ × Planned
      planned = plan_of w.job.terms.kind w.job.terms.n w.job.terms.wanted given w.job.terms.groups (joined w.segments) list

      module _ (ks : List ℕ) (road : RoadIn kind n groups ks given wanted) where
        plans : PlansBy given_terms w given list
        plans = f.plans given list stack long ks road

        accepts : planned.1.refusal ≡ 0
        unfolding planned
        accepts = plans.accepts

        arrives : RoadIn kind n groups (take planned.1.turns planned.0) given wanted
        unfolding planned
        arrives = plans.arrives

        shortest : FewestIn kind n groups given wanted planned.1.turns
        unfolding planned
        shortest = plans.shortest

      refuses : ((ks : List ℕ) → RoadIn kind n groups ks given wanted → ⊥) → planned.1.refusal ≡ 20
      unfolding planned
      refuses = f.refuses given list stack long

  -- ---- the other end

  module _ (right : Lengths) (w : World) (e : AtEnd given_terms right w) where
    end-level : w.job.phase ≡ Level 255
    end-level = e.level

    end-passed : is_reverse w.job.way ≡ false → (j : ℕ) → j < segment_count_of w.job → passed_of w.job j ≡ stack_count_at w.job j
    end-passed = e.passed

    end-settled : (j : ℕ) → j < segment_count_of w.job → waiting_of w.job j ≡ 0
    end-settled = e.settled

    end-swept : is_reverse w.job.way ≡ true → (b j : ℕ) → b < segment_count_of w.job → j < segment_count_of w.job → is_swept w.job b j ≡ true
    end-swept = e.swept

    end_refused : (way : Way) → (outcome {right = right} w (do_close way)).refusal ≡ 14
    end_refused = e.refused

    end-still : (call : Call right) → (outcome w call).world ≡ loaded_as (outcome w call).world w
    end-still = e.still

    end-carries : (call : Call right) → CarriesOn w (outcome w call).world → ⊥
    end-carries = e.none_carries

    end-deep : (s : List ℤ) × (is_stack kind n s ≡ true) × FewestIn kind n groups s wanted 255
    end-deep = e.deep

-- ---- every list of calls

module _ (kind n : ℕ) (wanted : List ℤ) (groups S C : ℕ) (segments : List (List ℕ)) (log changed : List ℕ)
    (begins : begin_refusal (terms_of kind n wanted groups S C) ≡ 0) (buffers : Buffers (terms_of kind n wanted groups S C) segments log) where
  abbrev terms : Terms
  terms = terms_of kind n wanted groups S C

  start : World
  start = record { job = begun terms; segments = segments; log = log; changed = changed }

  module _ (calls : List (Call (right_lengths terms))) where
    promise : PromiseBy terms (right_lengths terms) start calls
    unfolding WholeBuildBy start
    promise = WholeBuild.whole-build-by terms segments log changed begins buffers calls

    by_close : is_finished (after start calls).job.phase ≡ true → FinishedByClose start calls
    by_close = promise.by_close

    since_close : FinishedByClose start calls → is_finished (after start calls).job.phase ≡ true
    since_close = promise.since_close

    finishes : is_finished (after start calls).job.phase ≡ true → FinishesBy terms (after start calls)
    finishes = promise.finishes

    continues : is_finished (after start calls).job.phase ≡ false
        → (Continues (right_lengths terms) (after start calls)) ⊎ (AtEnd terms (right_lengths terms) (after start calls))
    continues = promise.continues

    -- a Close says 14 at that end alone
    closes : (way : Way) → (outcome {right = right_lengths terms} (after start calls) (do_close way)).refusal ≡ 14
        → AtEnd terms (right_lengths terms) (after start calls)
    closes = promise.closes

    levels : (d : ℕ) → (after start calls).job.phase ≡ Level d → (1 ≤ d) × (d ≤ 255) × Deep kind n wanted groups S C (d - 1)
    unfolding Deep
    levels = promise.levels

    -- where no stack needs exactly 255 turns every list can be continued to a finished build; where one does none finishes, and every list can be
    -- continued to the other end
    ends : (((s : List ℤ) × (is_stack kind n s ≡ true) × FewestIn kind n groups s wanted 255) → ⊥)
        → (more : List (Call (right_lengths terms))) × (is_finished (after start (calls ++ more)).job.phase ≡ true)
    ends = promise.ends

    never_finished : (s : List ℤ) → is_stack kind n s ≡ true → FewestIn kind n groups s wanted 255 → is_finished (after start calls).job.phase ≡ false
    never_finished s stack fewest = promise.never_finished (s, stack, fewest)

    stands : (s : List ℤ) → is_stack kind n s ≡ true → FewestIn kind n groups s wanted 255
        → (more : List (Call (right_lengths terms))) × AtEnd terms (right_lengths terms) (after start (calls ++ more))
    stands s stack fewest = promise.stands (s, stack, fewest)

    stays : (more : List (Call (right_lengths terms))) → is_finished (after start calls).job.phase ≡ true
        → is_finished (after start (calls ++ more)).job.phase ≡ true
    stays = promise.stays

    stays_at_end : (more : List (Call (right_lengths terms))) → AtEnd terms (right_lengths terms) (after start calls)
        → AtEnd terms (right_lengths terms) (after start (calls ++ more))
        × (after start (calls ++ more) ≡ loaded_as (after start (calls ++ more)) (after start calls))
    stays_at_end = promise.stays_at_end

-- an accepted plan arrives, whatever the table holds, in at most 254 turns of the set
plan-arrives : (kind n : ℕ) (wanted given : List ℤ) (groups : ℕ) (table list : List ℕ)
    → (plan_of kind n wanted given groups table list).1.refusal ≡ 0
    → (let out = plan_of kind n wanted given groups table list in
    RoadIn kind n groups (take out.1.turns out.0) given wanted × (out.1.turns ≤ 254))
unfolding PlanArrives
plan-arrives = Finishing.plan-arrives

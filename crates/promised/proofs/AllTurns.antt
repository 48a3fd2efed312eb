-- A build by all turns: each clause of `whole-build`, for every Begin with the full set that is accepted, every content of the buffers and every
-- list of calls.
use mathlib.Core.Path.{◌≡◌, refl}
use mathlib.Core.Bool.{true, false}
use mathlib.Core.List.{List, ◌++◌}
use Prim.Native.Nat.{ℕ, ◌*◌, ◌%◌, ◌≤◌, ◌<◌}
use lib.IntN.{ℤ}
use lib.ListN.{length, take}
use Rattle.base.specs.Words.{total}
use Rattle.stacks.specs.Counts.{CountsAt}
use Rattle.stacks.specs.Index.{rank_of}
use Rattle.stacks.specs.Stack.{is_stack, stack_count}
use Rattle.stacks.specs.Turn.{all_groups, Road, Fewest}
use Rattle.stacks.proofs.KindLaws
use Rattle.stacks.proofs.MoveLaws
use Rattle.search.specs.Begin.{begun}
use Rattle.search.specs.Build.{World, Call, outcome, after, do_close}
use Rattle.search.specs.Entries.{entry_at, seen_in}
use Rattle.search.specs.JobState.{count_of, is_finished, level_of}
use Rattle.search.specs.Plan.{plan_of}
use Rattle.search.specs.Promise.{right_lengths, Continues, FinishedByClose, Buffers, Plans, Finishes, Promise, WholeBuild}
use Rattle.search.specs.Segments.{joined}
use Rattle.search.specs.Terms.{begin_refusal, terms_of}
use Rattle.search.specs.declared.Phase.TheVariants.{Level}
use Rattle.search.specs.Answers.{Planned}
use Rattle.search.specs.declared.Terms.{Terms}
use Rattle.search.specs.declared.Way.{Way}
use Rattle.search.proofs.AllTurns
use Rattle.search.proofs.Coherence

-- ---- a finished build

module _ (kind n : ℕ) (wanted : List ℤ) (S C : ℕ) (w : World) (f : Finishes (terms_of kind n wanted (all_groups kind n) S C) w) where
  -- each stack has a road, and its entry is the fewest turns modulo 3
  entries : (s : List ℤ) → is_stack kind n s ≡ true
      → (d : ℕ) × Fewest kind n s wanted d × (entry_at (joined w.segments) (rank_of kind n s) ≡ d % 3)
  entries = f.entries

  spare : (i : ℕ) → stack_count kind n ≤ i → i < 4 * length (joined w.segments) → entry_at (joined w.segments) i ≡ 3
  spare = f.spare

  counts : (d : ℕ) → d ≤ 255 → CountsAt kind n wanted d (count_of w.job d)
  counts = f.counts

  past : (d : ℕ) → level_of w.job.phase < d → count_of w.job d ≡ 0
  past = f.past

  added : total w.job.counts ≡ seen_in (joined w.segments) (stack_count kind n)
  added = f.added

  all_seen : seen_in (joined w.segments) (stack_count kind n) ≡ stack_count kind n
  all_seen = f.all_seen

  deepest : (s : List ℤ) × (is_stack kind n s ≡ true) × Fewest kind n s wanted (level_of w.job.phase)
  deepest = f.deepest

  greatest : (s : List ℤ) (d : ℕ) → is_stack kind n s ≡ true → Fewest kind n s wanted d → d ≤ level_of w.job.phase
  greatest = f.greatest

  same_terms : w.job.terms ≡ record { kind = kind; n = n; wanted = wanted; groups = all_groups kind n; size = S; room = C }
  same_terms = f.given_terms

  -- Plan refuses no stack, arrives, no road is shorter, and 30 turns suffice
  module _ (given : List ℤ) (list : List ℕ) (stack : is_stack kind n given ≡ true) (long : 254 ≤ length list) where
    planned : List ℕ × Planned
    planned = plan_of w.job.terms.kind w.job.terms.n w.job.terms.wanted given w.job.terms.groups (joined w.segments) list

    plans : Plans w given list
    plans = f.plans given list stack long

    accepts : planned.1.refusal ≡ 0
    unfolding planned
    accepts = plans.accepts

    arrives : Road w.job.terms.kind w.job.terms.n (take planned.1.turns planned.0) given w.job.terms.wanted
    unfolding planned
    arrives = plans.arrives

    shortest : Fewest w.job.terms.kind w.job.terms.n given w.job.terms.wanted planned.1.turns
    unfolding planned
    shortest = plans.shortest

    few : planned.1.turns ≤ 30
    unfolding planned
    few = plans.few

-- ---- every list of calls

-- the kinds whose turns undo themselves, plain and coated, are all that Begin accepts
begun-low : (terms : Terms) → begin_refusal terms ≡ 0 → terms.kind < 2
begun-low terms begins = KindLaws.kind-low terms.kind (Coherence.begin-given begins).is-kind

module _ (kind n : ℕ) (wanted : List ℤ) (S C : ℕ) (segments : List (List ℕ)) (log changed : List ℕ)
    (begins : begin_refusal (terms_of kind n wanted (all_groups kind n) S C) ≡ 0)
    (buffers : Buffers (terms_of kind n wanted (all_groups kind n) S C) segments log) where
  abbrev terms : Terms
  terms = terms_of kind n wanted (all_groups kind n) S C

  start : World
  start = record { job = begun terms; segments = segments; log = log; changed = changed }

  module _ (calls : List (Call (right_lengths terms))) where
    promise : Promise terms (right_lengths terms) start calls
    unfolding WholeBuild start
    promise = AllTurns.whole-build terms segments log changed begins (MoveLaws.undoes-itself kind (begun-low terms begins)) refl buffers calls

    by_close : is_finished (after start calls).job.phase ≡ true → FinishedByClose start calls
    by_close = promise.by_close

    since_close : FinishedByClose start calls → is_finished (after start calls).job.phase ≡ true
    since_close = promise.since_close

    finishes : is_finished (after start calls).job.phase ≡ true → Finishes terms (after start calls)
    finishes = promise.finishes

    continues : is_finished (after start calls).job.phase ≡ false → Continues (right_lengths terms) (after start calls)
    continues = promise.continues

    -- no list brings the job past level 31, or has a Close refused 14
    levels : (d : ℕ) → (after start calls).job.phase ≡ Level d → d ≤ 31
    levels = promise.levels

    closes : (way : Way) → (outcome {right = right_lengths terms} (after start calls) (do_close way)).refusal ≡ 14 → ⊥
    closes = promise.closes

    ends : (more : List (Call (right_lengths terms))) × (is_finished (after start (calls ++ more)).job.phase ≡ true)
    ends = promise.ends

    stays : (more : List (Call (right_lengths terms))) → is_finished (after start calls).job.phase ≡ true
        → is_finished (after start (calls ++ more)).job.phase ≡ true
    stays = promise.stays

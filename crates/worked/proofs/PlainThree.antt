-- What the whole-build theorem says of a build of plain 3, each clause drawn from it by its name: its premises, and the values, compute.
use mathlib.Core.Path.{◌≡◌, refl, sym, ap, subst, ◌∙◌}
use mathlib.Core.Bool.{true}
use mathlib.Core.List.{List, [], ◌∷◌}
use Prim.Native.Nat.{ℕ, zero, suc, ◌+◌, ◌*◌, ◌%◌, ◌≤◌, ◌<◌}
use native.Mathlib.Omega.{arith}
use lib.IntN.{ℤ}
use lib.ListN.{length, get_or, take}
use lib.Seq.{get_or-take}
use Rattle.base.specs.Words.{total}
use Rattle.stacks.specs.Counts.{CountsAt}
use Rattle.stacks.specs.Index.{rank_of}
use Rattle.stacks.specs.Stack.{is_stack, stack_count, ordered}
use Rattle.stacks.specs.Turn.{turns_in, Fewest}
use Rattle.stacks.proofs.MoveLaws.{undoes-itself}
use Rattle.search.specs.Build.{World}
use Rattle.search.specs.Entries.{entry_at, seen_in}
use Rattle.search.specs.JobState.{count_of, is_finished, level_of}
use Rattle.search.specs.Segments.{joined}
use Rattle.search.specs.declared.Phase.{Phase}
use Rattle.search.specs.declared.Phase.TheVariants.{Finished}
use Rattle.search.specs.Plan.{plan_limit}
use Rattle.search.specs.Promise.{right_bytes, right_lengths, Buffers, Promise, Continues, FinishedByClose, Plans, Finishes, WholeBuild}
use Rattle.search.specs.PromiseBy.{FewestIn, PlanArrives}
use Rattle.search.proofs.Finishing.{plan-arrives}
use Rattle.search.proofs.AllTurns.{full-road, full-fewest, fewest-full, whole-build}
use Rattle.search.proofs.Fewest.{fewest-back, fewest-third}
use Rattle.search.proofs.Turning.{Moves, set-turns}
use Rattle.worked.specs.Cases.{plain, any_list}
use Rattle.worked.specs.PlainThree.{Calls, start, part, end, early, calls, given, table, PlainThree, all, terms}
use Rattle.worked.proofs.Open.{all-open}

-- The theorem's clauses over any world of which the table, the level and the counts are known: no clause computes the calls anew.
module _ (w : World) (f : Finishes terms w) where
  module _ (bytes : joined w.segments ≡ table) where
    entries-of : (s : List ℤ) → is_stack plain 3 s ≡ true → (d : ℕ) × Fewest plain 3 s (ordered 3) d × (entry_at table (rank_of plain 3 s) ≡ d % 3)
    entries-of =
        subst
        (λ (t : List ℕ). (s : List ℤ) → is_stack plain 3 s ≡ true → (d : ℕ) × Fewest plain 3 s (ordered 3) d × (entry_at t (rank_of plain 3 s) ≡ d % 3))
        bytes
        f.entries

    spare_of : (i : ℕ) → 6 ≤ i → i < 8 → entry_at table i ≡ 3
    unfolding all-open
    spare_of = subst (λ (t : List ℕ). (i : ℕ) → stack_count plain 3 ≤ i → i < 4 * length t → entry_at t i ≡ 3) bytes f.spare

    added_of : total w.job.counts ≡ seen_in table 6
    unfolding all-open
    added_of = f.added ∙ ap (λ (t : List ℕ). seen_in t 6) bytes

    all-seen-of : seen_in table 6 ≡ 6
    unfolding all-open
    all-seen-of = sym (ap (λ (t : List ℕ). seen_in t 6) bytes) ∙ f.all_seen

  module _ (level : w.job.phase ≡ Finished 3) where
    past_of : (d : ℕ) → 3 < d → count_of w.job d ≡ 0
    unfolding all-open
    past_of = subst (λ (h : Phase). (d : ℕ) → level_of h < d → count_of w.job d ≡ 0) level f.past

    deepest-of : (s : List ℤ) × (is_stack plain 3 s ≡ true) × Fewest plain 3 s (ordered 3) 3
    unfolding all-open
    deepest-of = subst (λ (h : Phase). (s : List ℤ) × (is_stack plain 3 s ≡ true) × Fewest plain 3 s (ordered 3) (level_of h)) level f.deepest

    greatest-of : (s : List ℤ) (d : ℕ) → is_stack plain 3 s ≡ true → Fewest plain 3 s (ordered 3) d → d ≤ 3
    unfolding all-open
    greatest-of =
        subst (λ (h : Phase). (s : List ℤ) (d : ℕ) → is_stack plain 3 s ≡ true → Fewest plain 3 s (ordered 3) d → d ≤ level_of h) level f.greatest

  module _ (some : List ℕ) (counted : take 5 w.job.counts ≡ some) where
    counts_of : (d : ℕ) → d < 5 → CountsAt plain 3 (ordered 3) d (get_or some d 0)
    unfolding all-open
    counts_of d h =
        subst (λ (c : ℕ). CountsAt plain 3 (ordered 3) d c) (sym (get_or-take 5 w.job.counts d 0 h) ∙ ap (λ (l : List ℕ). get_or l d 0) counted)
        (f.counts d (omega arith))

module _ (first second : ℕ) (words : ℕ → ℕ) where
  pub buffers : Buffers terms (start first second words).segments (start first second words).log
  unfolding all-open
  buffers = record { some = refl; each = each; area = refl }
    where
      each : (j : ℕ) → j < 2 → length (get_or ((first ∷ []) ∷ (second ∷ []) ∷ []) j []) ≡ right_bytes terms j
      each zero h = refl
      each (suc zero) h = refl
      each (suc (suc j)) h = absurd (omega arith)

  promise : (list : Calls) → Promise terms (right_lengths terms) (start first second words) list
  unfolding all-open WholeBuild
  promise =
      whole-build terms (start first second words).segments (start first second words).log [] refl (undoes-itself plain (omega arith)) refl buffers

  pub finished : is_finished (end first second words).job.phase ≡ true
  unfolding all-open
  finished = refl

  finishes : Finishes terms (end first second words)
  finishes = (promise calls).finishes finished

  leaves : joined (end first second words).segments ≡ table
  unfolding all-open
  leaves = refl

  level : (end first second words).job.phase ≡ Finished 3
  unfolding all-open
  level = refl

  counted : take 5 (end first second words).job.counts ≡ 1 ∷ 2 ∷ 2 ∷ 1 ∷ 0 ∷ []
  unfolding all-open
  counted = refl

  at : (d : ℕ) → d < 5 → CountsAt plain 3 (ordered 3) d (get_or (1 ∷ 2 ∷ 2 ∷ 1 ∷ 0 ∷ []) d 0)
  at = counts_of (end first second words) finishes (1 ∷ 2 ∷ 2 ∷ 1 ∷ 0 ∷ []) counted

  close : FinishedByClose (start first second words) calls
  close = (promise calls).by_close finished

  next : Continues (right_lengths terms) (part first second words)
  unfolding all-open
  next = (promise early).continues refl

  module _ (slots : ℕ → ℕ) where
    plans : Plans (end first second words) given (any_list slots plan_limit)
    unfolding all-open
    plans = finishes.plans given (any_list slots plan_limit) refl (omega arith)

    -- the turns of the full set as the moves of a search, and the fewest of them
    moves : Moves plain 3 (turns_in plain 3 all)
    unfolding all-open
    moves = set-turns plain 3 refl all refl

    fewest : FewestIn plain 3 all given (ordered 3) 2
    unfolding all-open
    fewest = fewest-full plain 3 all refl refl plans.shortest

    back-of : Fewest plain 3 (ordered 3) given 2
    unfolding all-open
    back-of = full-fewest plain 3 all refl refl (fewest-back plain 3 refl moves given (ordered 3) refl refl fewest)

    third_of : (s : List ℤ) (d e : ℕ) → is_stack plain 3 s ≡ true → Fewest plain 3 given s d → Fewest plain 3 s (ordered 3) e → 2 ≤ d + e
    unfolding all-open
    third_of s d e h first second =
        fewest-third plain 3 refl moves given (ordered 3) refl refl fewest s h
        (fewest-full plain 3 all refl refl first) (fewest-full plain 3 all refl refl second)

    pub plain-three : PlainThree first second words slots
    unfolding all-open PlanArrives
    plain-three =
        record {
          begins = refl;
          answers = refl;
          part_way = refl;
          continues = (next.call, next.lent_own, next.accepted, next.carries);
          levels = (promise early).levels;
          closes = (promise early).closes;
          ends = (promise early).ends;
          finished = level;
          by_close = (close.before, close.later, close.way, close.place, close.unfinished, close.accepted, close.finished);
          since_close = (promise calls).since_close;
          stays = λ more. (promise calls).stays more finished;
          leaves = leaves;
          entries = entries-of (end first second words) finishes leaves;
          spare_6 = spare_of (end first second words) finishes leaves 6 (omega arith) (omega arith);
          spare_7 = spare_of (end first second words) finishes leaves 7 (omega arith) (omega arith);
          counts = counted;
          at_0 = at 0 (omega arith);
          at_1 = at 1 (omega arith);
          at_2 = at 2 (omega arith);
          at_3 = at 3 (omega arith);
          at_4 = at 4 (omega arith);
          past = past_of (end first second words) finishes level;
          added = added_of (end first second words) finishes leaves;
          all_seen = all-seen-of (end first second words) finishes leaves;
          deepest = deepest-of (end first second words) finishes level;
          greatest = greatest-of (end first second words) finishes level;
          same_terms = finishes.given_terms;
          accepts = plans.accepts;
          turns = refl;
          road = plans.arrives;
          fewest = plans.shortest;
          few = plans.few;
          back = back-of;
          by_third = third_of;
          smaller = record { turns = refl; arrives = refl };
          larger = record { turns = refl; arrives = refl };
          takes_larger = refl;
          spoilt = refl;
          spoilt_road = full-road plain 3 all refl refl (plan-arrives plain 3 (ordered 3) given all (0x90 ∷ 0xf5 ∷ []) (any_list slots plan_limit) refl).0;
        }

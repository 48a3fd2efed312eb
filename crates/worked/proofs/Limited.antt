-- A frame that lifts only some groups: each clause computes from the definitions, or is drawn from the theorem on the driver's end.
use mathlib.Core.Path.{◌≡◌, refl, ap}
use mathlib.Core.Logic.{inl, inr}
use mathlib.Core.Bool.{true}
use mathlib.Core.List.{List, [], ◌∷◌}
use Prim.Native.Nat.{ℕ, ◌≤◌}
use native.Mathlib.Nat.{mod-lt}
use native.Mathlib.Omega.{arith}
use lib.IntN.{ℤ}
use lib.ListN.{length, replicate}
use Rattle.stacks.specs.Stack.{is_stack, ordered}
use Rattle.stacks.specs.Index.{rank_of}
use Rattle.search.specs.Build.{World}
use Rattle.search.specs.Drive.{built, Builds}
use Rattle.search.specs.Entries.{entry_at}
use Rattle.search.specs.JobState.{level_of, last_level}
use Rattle.search.specs.Plan.{plan_limit, plan_of}
use Rattle.search.specs.PromiseBy.{FewestIn, CountsIn, NoRoad, EntryBy, Needs, FinishesBy}
use Rattle.search.specs.Segments.{joined}
use Rattle.search.proofs.WholeTable.{build_ends}
use Rattle.worked.specs.Cases.{plain, any_list}
use Rattle.worked.specs.Limited.{only_2, near, frame, Limited}
use Rattle.worked.specs.PlainThree.{given}
use Rattle.worked.proofs.Open.{all-open}

abbrev end : World
end = built (frame only_2) (0 ∷ 0 ∷ []) (replicate 16 0) (0 ∷ [])

builds : Builds (frame only_2) (0 ∷ 0 ∷ []) (replicate 16 0) (0 ∷ [])
unfolding all-open
builds = build_ends (frame only_2) (0 ∷ 0 ∷ []) (replicate 16 0) (0 ∷ []) refl

-- it ends in level 1, so that no stack needs 255 turns
none_deep : Needs (frame only_2) last_level → ⊥
unfolding all-open
none_deep s = omega (arith, ap level_of (builds.stands s).level)

finishes : FinishesBy (frame only_2) end
finishes = (builds.finishes none_deep).1

entry_of : (s : List ℤ) → is_stack plain 3 s ≡ true → EntryBy (frame only_2) s (entry_at (joined end.segments) (rank_of plain 3 s))
entry_of = finishes.entries

roadless : NoRoad (frame only_2) given
unfolding all-open
roadless = go (entry_of given refl)
  where
    go : EntryBy (frame only_2) given 3 → NoRoad (frame only_2) given
    go (inl r) = absurd (omega (arith, r.2, mod-lt r.0 {m = 3} (omega arith)))
    go (inr r) = r.0

one-turn : FewestIn plain 3 only_2 near (ordered 3) 1
unfolding all-open
one-turn =
    (finishes.plans near (any_list (λ i. 0) plan_limit) refl (omega arith) (2 ∷ []) (record { turns = refl; arrives = refl })).shortest

refused : (list : List ℕ) → 254 ≤ length list → (plan_of plain 3 (ordered 3) given only_2 (0xdc ∷ 0xff ∷ []) list).1.refusal ≡ 20
unfolding all-open
refused list long = finishes.refuses given list refl long roadless

counted : CountsIn plain 3 only_2 (ordered 3) 1 1
unfolding all-open
counted = finishes.counts 1 (omega arith)

greatest : (s : List ℤ) (d : ℕ) → is_stack plain 3 s ≡ true → FewestIn plain 3 only_2 s (ordered 3) d → d ≤ 1
unfolding all-open
greatest = finishes.greatest

pub limited : (slots : ℕ → ℕ) → Limited slots
unfolding all-open
limited slots =
    record {
      finished = refl;
      table = refl;
      counts = refl;
      kept = refl;
      plan = refl;
      front = refl;
      no_plan = refl;
      unseen = refl;
      road_first = refl;
      goal_spoilt = refl;
      outside = refl;
      size_1 = refl;
      size_4 = refl;
      size_32 = refl;
      empty = refl;
      plain_1 = refl;
      plain_1_size = refl;
      coated_1 = refl;
      coated_1_empty = refl;
      stack_first = refl;
      set_first = refl;
      set_first_in_plan = refl;
      no_road = roadless;
      fewest = one-turn;
      refused = refused;
      at_1 = counted;
      greatest = greatest;
    }

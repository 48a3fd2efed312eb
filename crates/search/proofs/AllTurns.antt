-- By the full set, where each turn undoes itself, every stack has a road, of at most 30 turns, so that demands 2 and 3 read as document 01 has
-- them: every stack is reached and planned, a build closes by level 31, and no Close is refused 14.
use mathlib.Core.Path.{◌≡◌, sym, ap, ◌∙◌, subst}
use mathlib.Core.Logic.{◌⊎◌, inl, inr}
use mathlib.Core.Bool.{Bool, true, not}
use mathlib.Core.List.{List}
use Prim.Native.Nat.{ℕ, ◌%◌, ◌≤◌}
use native.Mathlib.Nat.{mod-lt}
use native.Mathlib.Omega.{arith}
use lib.Dec.{eqb}
use lib.IntN.{ℤ}
use lib.ListN.{take}
use borrow.Author.Tests.{ne_eqb}
use Rattle.graph.specs.Walks.{is_move}
use Rattle.graph.proofs.Tally.{tally-all}
use Rattle.stacks.specs.Counts.{CountsBy, CountsAt}
use Rattle.stacks.specs.Index.{rank_of, stack_at}
use Rattle.stacks.specs.Stack.{is_pane_count}
use Rattle.stacks.specs.Turn.{is_turn, UndoesItself, turns_in, all_groups, RoadBy, Road, FewestBy, Fewest}
use Rattle.stacks.proofs.GroupLaws.{all-turns-in}
use Rattle.stacks.proofs.Numbering.{unrank-stack, rank-unrank}
use Rattle.stacks.proofs.TurnBound.{road-bound, turn-bound-30}
use Rattle.search.specs.Build.{World, Lengths, Call, after}
use Rattle.search.specs.Entries.{entry_at, unseen, seen_in}
use Rattle.search.specs.JobState.{last_level}
use Rattle.search.specs.Promise.{plan_in, most_turns, IsStack, RoadAll, FewestAll, Plans, Finishes, Continues, Promise, WholeBuild}
use Rattle.search.specs.PromiseBy.{RoadIn, FewestIn, CountsIn, RoadTo, FewestTo, EntryBy, Needs, PlansBy, FinishesBy, AtEnd, PromiseBy, WholeBuildBy}
use Rattle.search.specs.Segments.{joined}
use Rattle.search.specs.Terms.{N}
use Rattle.search.specs.declared.Terms.{Terms}
use Rattle.search.proofs.Coherence.{begin-given}
use Rattle.search.proofs.Given.{Given}
use Rattle.search.proofs.Turning.{turn-is-move}
use Rattle.search.proofs.WholeBuild.{whole-build-by}

module _ (kind n groups : ℕ) (in-range : is_pane_count kind n ≡ true) (full : groups ≡ all_groups kind n) where
  -- the turns of the full set are told by the test of a turn
  full-test : is_move (turns_in kind n groups) ≡ is_turn kind n
  full-test =
      ap (λ (g : ℕ). is_move (turns_in kind n g)) full ∙ ap is_move (all-turns-in kind n in-range) ∙ (λ i k. sym (turn-is-move kind n k) i)

  pub full-road : {ks : List ℕ} {s w : List ℤ} → RoadIn kind n groups ks s w → Road kind n ks s w
  full-road {ks} {s} {w} r = subst (λ (p : ℕ → Bool). RoadBy kind n p ks s w) full-test r

  road-full : {ks : List ℕ} {s w : List ℤ} → Road kind n ks s w → RoadIn kind n groups ks s w
  road-full {ks} {s} {w} r = subst (λ (p : ℕ → Bool). RoadBy kind n p ks s w) (sym full-test) r

  pub full-fewest : {s w : List ℤ} {d : ℕ} → FewestIn kind n groups s w d → Fewest kind n s w d
  full-fewest {s} {w} {d} f = subst (λ (p : ℕ → Bool). FewestBy kind n p s w d) full-test f

  pub fewest-full : {s w : List ℤ} {d : ℕ} → Fewest kind n s w d → FewestIn kind n groups s w d
  fewest-full {s} {w} {d} f = subst (λ (p : ℕ → Bool). FewestBy kind n p s w d) (sym full-test) f

  full-counts : {w : List ℤ} {d count : ℕ} → CountsIn kind n groups w d count → CountsAt kind n w d count
  full-counts {w} {d} {count} c = subst (λ (p : ℕ → Bool). CountsBy kind n p w d count) full-test c

-- no stack needs more than 30 turns
pub few-turns : {terms : Terms} → Given terms → UndoesItself terms.kind → (s : List ℤ) (d : ℕ) → IsStack terms s
    → FewestAll terms s d → d ≤ most_turns
few-turns {terms} given itself s d h f =
    let r = road-bound terms.kind terms.n given.in-range itself s terms.wanted h given.stack in
    omega (arith, f.least r.0 r.1, r.2, turn-bound-30 terms.kind terms.n given.in-range)

module _ {terms : Terms} (given : Given terms) (itself : UndoesItself terms.kind) (full : terms.groups ≡ all_groups terms.kind terms.n) where
  fewest-all : {s : List ℤ} {d : ℕ} → FewestTo terms s d → FewestAll terms s d
  fewest-all = full-fewest terms.kind terms.n terms.groups given.in-range full

  short-road : (s : List ℤ) → IsStack terms s → (ks : List ℕ) × RoadTo terms ks s
  short-road s h =
      let r = road-bound terms.kind terms.n given.in-range itself s terms.wanted h given.stack in
      (r.0, road-full terms.kind terms.n terms.groups given.in-range full r.1)

  needs-few : (d : ℕ) → Needs terms d → d ≤ most_turns
  needs-few d s = few-turns given itself s.0 d s.1 (fewest-all s.2)

  pub none_deep : Needs terms last_level → ⊥
  none_deep s = omega (arith, needs-few last_level s)

  module _ {w : World} (f : FinishesBy terms w) where
    entry-all : (s : List ℤ) → IsStack terms s
        → (d : ℕ) × FewestAll terms s d × (entry_at (joined w.segments) (rank_of terms.kind terms.n s) ≡ d % 3)
    entry-all s h = go (f.entries s h)
      where
        go : EntryBy terms s (entry_at (joined w.segments) (rank_of terms.kind terms.n s))
            → (d : ℕ) × FewestAll terms s d × (entry_at (joined w.segments) (rank_of terms.kind terms.n s) ≡ d % 3)
        go (inl r) = (r.0, fewest-all r.1, r.2)
        go (inr r) = let road = short-road s h in absurd (r.0 road.0 road.1)

    all_seen : seen_in (joined w.segments) (N terms) ≡ N terms
    unfolding seen_in unseen
    all_seen =
        tally-all (λ v. not (eqb (entry_at (joined w.segments) v) unseen)) (N terms)
        (λ v l.
        let e = entry-all (stack_at terms.kind terms.n v) (unrank-stack terms.kind terms.n v given.in-range l) in
        let place = ap (entry_at (joined w.segments)) (rank-unrank terms.kind terms.n v given.in-range l) in
        ap not (ne_eqb (entry_at (joined w.segments) v) unseen (λ q. omega (arith, q, e.2, place, mod-lt e.0 {m = 3} (omega arith)))))

    -- Plan gets what Begin was given
    plans-all : (start : List ℤ) (list : List ℕ) → IsStack terms start → PlansBy terms w start list → Plans w start list
    plans-all start list h p =
        let out = plan_in w start list in
        let shortest : FewestAll terms start out.1.turns = fewest-all p.shortest in
        let road : RoadAll terms (take out.1.turns out.0) start =
        full-road terms.kind terms.n terms.groups given.in-range full p.arrives in
        record {
          accepts = p.accepts;
          arrives = subst (λ (t : Terms). RoadAll t (take out.1.turns out.0) start) (sym f.given_terms) road;
          shortest = subst (λ (t : Terms). FewestAll t start out.1.turns) (sym f.given_terms) shortest;
          few = few-turns given itself start out.1.turns h shortest;
        }

    pub finishes-all : Finishes terms w
    finishes-all =
        record {
          entries = entry-all;
          spare = f.spare;
          counts = λ d l. full-counts terms.kind terms.n terms.groups given.in-range full (f.counts d l);
          past = f.past;
          added = f.added;
          all_seen = all_seen;
          deepest = let s = f.deepest in (s.0, s.1, fewest-all s.2);
          greatest = λ s d h g. f.greatest s d h (fewest-full terms.kind terms.n terms.groups given.in-range full g);
          given_terms = f.given_terms;
          plans = λ start list h l.
              let road = short-road start h in plans-all start list h (f.plans start list h l road.0 road.1);
        }

  promise-all : {right : Lengths} {start : World} {calls : List (Call right)} → PromiseBy terms right start calls → Promise terms right start calls
  promise-all {right} {start} {calls} p =
      record {
        by_close = p.by_close;
        since_close = p.since_close;
        finishes = λ h. finishes-all (p.finishes h);
        continues = λ h. go (p.continues h);
        levels = λ d h. let l = p.levels d h in omega (arith, l.0, needs-few _ l.2);
        closes = λ way h. none_deep (p.closes way h).deep;
        ends = p.ends none_deep;
        stays = p.stays;
      }
    where
      go : (Continues right (after start calls)) ⊎ (AtEnd terms right (after start calls)) → Continues right (after start calls)
      go (inl c) = c
      go (inr e) = absurd (none_deep e.deep)

pub whole-build : WholeBuild
unfolding WholeBuild WholeBuildBy
whole-build terms segments log changed accepted itself full buffers calls =
    promise-all (begin-given accepted) itself full (whole-build-by terms segments log changed accepted buffers calls)

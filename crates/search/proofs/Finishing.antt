-- A finished build is what we promise of one: its table, its counts, its deepest level, and every plan from it.
use mathlib.Core.Path.{◌≡◌, refl, sym, ap, ◌∙◌, subst}
use mathlib.Core.Logic.{◌⊎◌, inl, inr}
use mathlib.Core.Bool.{not}
use mathlib.Core.List.{List, ◌++◌, map}
use Prim.Native.Nat.{ℕ, suc, ◌+◌, ◌-◌, ◌*◌, ◌/◌, ◌≤◌, ◌<◌, min}
use native.Mathlib.Nat.{zero-add, mul_assoc, mod-lt}
use native.Mathlib.Omega.{arith}
use lib.Dec.{ltb, eqb}
use lib.IntN.{ℤ}
use lib.ListN.{length, take, drop}
use lib.Seq.{take-append_seam}
use borrow.Author.Tests.{lt-ltb, le-ltb, eq-eqb, ne_eqb}
use Rattle.base.specs.Words.{total, from}
use Rattle.base.proofs.Counting.{total-from}
use Rattle.base.proofs.Tests.{lt-or-ge}
use Rattle.graph.proofs.Depths.{between}
use Rattle.graph.proofs.Distance.{dist-cut}
use Rattle.graph.proofs.Tally.{tally-same, tally-values}
use Rattle.stacks.specs.Index.{rank_of, stack_at}
use Rattle.stacks.specs.Turn.{turns_in}
use Rattle.stacks.proofs.Numbering.{rank_lt, unrank-stack, rank-unrank}
use Rattle.stacks.proofs.KindLaws.{count-pos}
use Rattle.search.specs.Build.{World}
use Rattle.search.specs.Entries.{entry_at, unseen, seen_in, bytes_for}
use Rattle.search.specs.JobState.{count_of, level_of, last_level, count_places}
use Rattle.search.specs.Plan.{plan_limit, entry_of, route_from, plan_refusal, plan_of}
use Rattle.search.specs.Promise.{plan_in, IsStack}
use Rattle.search.specs.PromiseBy.{RoadIn, FewestIn, RoadTo, FewestTo, NoRoad, EntryBy, Needs, PlansBy, FinishesBy, PlanArrives}
use Rattle.search.specs.Segments.{joined}
use Rattle.search.specs.Terms.{N, G}
use Rattle.search.specs.Answers.{Planned}
use Rattle.search.specs.declared.Terms.{Terms}
use Rattle.search.proofs.Accepted.{names-refusal}
use Rattle.search.proofs.Fewest.{depth, move-depths, fewest-unique, depth-road, depth-fewest, counts-by}
use Rattle.search.proofs.Invariant.{Shaped, Ended, entry_in}
use Rattle.search.proofs.PlanLaws.{RowFacts, PlanFacts, plan-row, plan-unseen, RightTable, route-within, route-arrives, plan-seen, plan-there, plan-fewest}
use Rattle.search.proofs.Shapes.{shaped-segmented}
use Rattle.search.proofs.SegmentLaws.{Segmented, last-segment, segment-last, spare-offset, bytes-last, joined-entry, joined_length, joined-spare}
use Rattle.search.proofs.Given.{Given, moves, step, goal, beyond, D, level_count, laws, depths}
use Rattle.search.proofs.Turning.{set-turns}

-- ---- a plan over a right table

pub plan-accepted : (kind n : ℕ) (wanted given : List ℤ) (groups : ℕ) (table list : List ℕ) → plan_refusal kind n wanted given groups table (length list) 0 ≡ 0
    → (let turns = (route_from kind n table wanted (turns_in kind n groups) given).turns in
    plan_of kind n wanted given groups table list ≡ (turns ++ drop (length turns) list, record { refusal = 0; turns = length turns }))
unfolding plan_of
plan-accepted kind n wanted given groups table list h = rw (eq-eqb (plan_refusal kind n wanted given groups table (length list) 0) 0 h)

pub plan-refused : (kind n : ℕ) (wanted given : List ℤ) (groups : ℕ) (table list : List ℕ) → (plan_refusal kind n wanted given groups table (length list) 0 ≡ 0 → ⊥)
    → plan_of kind n wanted given groups table list ≡ (list, record { refusal = plan_refusal kind n wanted given groups table (length list) 0; turns = 0 })
unfolding plan_of
plan-refused kind n wanted given groups table list h = rw (ne_eqb (plan_refusal kind n wanted given groups table (length list) 0) 0 h)

pub plan-refusal-is : (kind n : ℕ) (wanted given : List ℤ) (groups : ℕ) (table list : List ℕ)
    → (plan_of kind n wanted given groups table list).1.refusal ≡ plan_refusal kind n wanted given groups table (length list) 0
plan-refusal-is kind n wanted given groups table list =
    names-refusal (λ o. o.1.refusal) (plan_refusal kind n wanted given groups table (length list) 0)
    (plan-accepted kind n wanted given groups table list) (plan-refused kind n wanted given groups table list) refl refl

-- an accepted plan is a road by turns of the set, and no longer than a plan may be
pub plan-arrives : PlanArrives
unfolding PlanArrives
plan-arrives kind n wanted given groups table list h =
    let accepts : plan_refusal kind n wanted given groups table (length list) 0 ≡ 0 = sym (plan-refusal-is kind n wanted given groups table list) ∙ h in
    let moves : List ℕ = turns_in kind n groups in
    let turns : List ℕ = (route_from kind n table wanted moves given).turns in
    let f : PlanFacts kind n wanted given groups table (length list) = (plan-row kind n wanted given groups table (length list)).asks accepts in
    let row = f.row in
    let road : RoadIn kind n groups turns given wanted =
    route-arrives kind n table wanted given row.of-panes
    (set-turns kind n row.of-panes groups row.of-set) row.goal row.start f.plan in
    subst (λ (out : List ℕ × Planned). RoadIn kind n groups (take out.1.turns out.0) given wanted × (out.1.turns ≤ plan_limit))
    (sym (plan-accepted kind n wanted given groups table list accepts)) (
      subst (λ (ks : List ℕ). RoadIn kind n groups ks given wanted) (sym (take-append_seam turns (drop (length turns) list))) road,
      (route-within kind n moves table wanted given).1,
    )

-- what we promise of a plan, as PlansBy says it of a world
record PlanIs (terms : Terms) (given : List ℤ) (out : List ℕ × Planned) : Type 0 where
  accepts : out.1.refusal ≡ 0
  arrives : RoadTo terms (take out.1.turns out.0) given
  shortest : FewestTo terms given out.1.turns

-- a plan fits in the levels that are searched
plans-fit : suc plan_limit < beyond
plans-fit = omega arith

module _ {terms : Terms} (begun : Given terms) where
  -- an index at a depth that is searched is that of a stack that needs as many moves
  pub depth-needs : (d : ℕ) → (v : ℕ) × (v < N terms) × (D terms v ≡ d) → d < beyond → Needs terms d
  depth-needs d v near =
      let s = stack_at terms.kind terms.n v.0 in
      let stack = unrank-stack terms.kind terms.n v.0 begun.in-range v.1 in
      let here : D terms (rank_of terms.kind terms.n s) ≡ d =
      ap (D terms) (rank-unrank terms.kind terms.n v.0 begun.in-range v.1) ∙ v.2 in (
        s,
        stack,
        subst (FewestTo terms s) here
            (depth-fewest terms.kind terms.n terms.wanted beyond begun.in-range begun.stack (laws begun) s stack (omega (arith, here))),
      )

  row_is : (table : List ℕ) → length table ≡ bytes_for (N terms) → (given : List ℤ) (list : List ℕ) → IsStack terms given
      → plan_limit ≤ length list → RowFacts terms.kind terms.n terms.wanted given terms.groups (length table) (length list)
  row_is table long given list h l =
      record { of-kind = begun.is-kind; of-panes = begun.in-range; goal = begun.stack; start = h; of-set = begun.of-set; long = long; wide = l }

  plan-is : (table : List ℕ) → RightTable terms.kind terms.n (moves terms) terms.wanted beyond table → length table ≡ bytes_for (N terms)
      → (given : List ℤ) (list : List ℕ) → IsStack terms given
      → D terms (rank_of terms.kind terms.n given) ≤ plan_limit → plan_limit ≤ length list
      → PlanIs terms given (plan_of terms.kind terms.n terms.wanted given terms.groups table list)
  unfolding PlanArrives
  plan-is table right long given list h near l =
      let kind = terms.kind in
      let n = terms.n in
      let wanted = terms.wanted in
      let groups = terms.groups in
      let accepts : plan_refusal kind n wanted given groups table (length list) 0 ≡ 0 =
      (plan-row kind n wanted given groups table (length list)).accepts
      (record {
        row = row_is table long given list h l;
        seen = plan-seen kind n wanted beyond table begun.in-range begun.stack (laws begun) plans-fit right given h near;
        plan = plan-there kind n wanted beyond table begun.in-range begun.stack (laws begun) plans-fit right given h near;
      }) in
      let none : (plan_of kind n wanted given groups table list).1.refusal ≡ 0 = plan-refusal-is kind n wanted given groups table list ∙ accepts in
      record {
        accepts = none;
        arrives = (plan-arrives kind n wanted given groups table list none).0;
        shortest = subst (λ (out : List ℕ × Planned). FewestIn kind n groups given wanted out.1.turns)
            (sym (plan-accepted kind n wanted given groups table list accepts))
            (plan-fewest kind n wanted beyond table begun.in-range begun.stack (laws begun) plans-fit right given h near);
      }

  module _ {w : World} (shaped : Shaped terms w) {d : ℕ} (ended : Ended terms w d) where
    whole : Segmented (N terms) terms.size w.segments
    whole = shaped-segmented shaped begun

    table-right : RightTable terms.kind terms.n (moves terms) terms.wanted beyond (joined w.segments)
    unfolding entry_in
    table-right s h near =
        let v = rank_of terms.kind terms.n s in
        let l = rank_lt terms.kind terms.n s begun.in-range h in
        joined-entry (N terms) terms.size w.segments whole v l ∙ ended.entries v l near

    level-is : level_of w.job.phase ≡ d
    unfolding level_of
    level-is = ap level_of ended.phase_is

    spare-is : (i : ℕ) → N terms ≤ i → i < 4 * length (joined w.segments) → entry_at (joined w.segments) i ≡ 3
    spare-is i h l =
        let g = G terms - 1 in
        let last : suc g ≡ G terms = last-segment (N terms) terms.size whole.some (count-pos terms.kind terms.n) in
        joined-spare (N terms) terms.size w.segments whole i (count-pos terms.kind terms.n) h
        ∙ ended.spares.spare g (i - g * terms.size) (omega arith) (spare-offset (N terms) terms.size whole.some i (count-pos terms.kind terms.n) h)
        (omega (
          arith,
          joined_length (N terms) terms.size w.segments whole,
          segment-last (N terms) terms.size whole.some g last,
          bytes-last (N terms) terms.size whole.some g whole.four last,
          mul_assoc g (terms.size / 4) 4,
          ap (λ (x : ℕ). g * x) (let q : terms.size ≡ terms.size / 4 * 4 = omega (arith, whole.four) in q),
        ))

    -- an index has a depth that is searched, or none
    near-or-far : (v : ℕ) → (D terms v < beyond) ⊎ (D terms v ≡ beyond)
    near-or-far v = go (lt-or-ge (D terms v) beyond)
      where
        go : (D terms v < beyond) ⊎ (beyond ≤ D terms v) → (D terms v < beyond) ⊎ (D terms v ≡ beyond)
        go (inl near) = inl near
        go (inr far) = inr (omega (arith, (depths begun).cut v))

    module _ (s : List ℤ) (h : IsStack terms s) where
      abbrev place : ℕ
      place = rank_of terms.kind terms.n s

      inside : place < N terms
      inside = rank_lt terms.kind terms.n s begun.in-range h

      fewest-is : D terms place < beyond → FewestTo terms s (D terms place)
      fewest-is = depth-fewest terms.kind terms.n terms.wanted beyond begun.in-range begun.stack (laws begun) s h

      -- a stack beyond the levels has no road, however long: from a road's stacks one would be at the last level, which is empty
      far-roadless : D terms place ≡ beyond → NoRoad terms s
      far-roadless far ks road =
          let b : ℕ = beyond + length ks in
          let near : depth terms.kind terms.n (moves terms) terms.wanted b place ≤ length ks =
          depth-road terms.kind terms.n terms.wanted b begun.in-range begun.stack (laws begun) s h ks road in
          let cut : (v : ℕ) → D terms v ≡ min beyond (depth terms.kind terms.n (moves terms) terms.wanted b v) =
          λ v. dist-cut (moves terms) (step terms) (goal terms) beyond b v (omega arith) in
          let u =
          between (move-depths terms.kind terms.n terms.wanted b begun.in-range begun.stack (laws begun) (omega arith))
          place last_level inside (omega (arith, cut place)) (omega arith) in
          omega (arith, ended.greatest u.0 u.1 (omega (arith, cut u.0, u.2)), cut u.0, u.2, ended.last)

      entry-is : EntryBy terms s (entry_at (joined w.segments) place)
      unfolding entry_in
      entry-is = go (near-or-far place)
        where
          go : (D terms place < beyond) ⊎ (D terms place ≡ beyond) → EntryBy terms s (entry_at (joined w.segments) place)
          go (inl near) = inl (D terms place, fewest-is near, table-right s h near)
          go (inr far) =
              inr (far-roadless far, joined-entry (N terms) terms.size w.segments whole place inside ∙ ended.unreached place inside far)

      road-near : (ks : List ℕ) → RoadTo terms ks s → D terms place < beyond
      road-near ks road = go (near-or-far place)
        where
          go : (D terms place < beyond) ⊎ (D terms place ≡ beyond) → D terms place < beyond
          go (inl near) = near
          go (inr far) = absurd (far-roadless far ks road)

      roadless-unseen : NoRoad terms s → entry_of terms.kind terms.n (joined w.segments) s ≡ unseen
      unfolding entry_of unseen
      roadless-unseen none = go entry-is
        where
          go : EntryBy terms s (entry_at (joined w.segments) place) → entry_at (joined w.segments) place ≡ 3
          go (inl r) = absurd (none r.1.road r.1.leads)
          go (inr r) = r.1

    long : length (joined w.segments) ≡ bytes_for (N terms)
    long = joined_length (N terms) terms.size w.segments whole

    plans-is : (given : List ℤ) (list : List ℕ) → IsStack terms given → plan_limit ≤ length list
        → (ks : List ℕ) → RoadTo terms ks given → PlansBy terms w given list
    plans-is given list h l ks road =
        let near = road-near given h ks road in
        let p =
        subst (λ (t : Terms). PlanIs terms given (plan_of t.kind t.n t.wanted given t.groups (joined w.segments) list))
        (sym shaped.terms_is)
        (plan-is (joined w.segments) table-right long given list h
        (omega (arith, ended.greatest (place given h) (inside given h) near, ended.last)) l) in
        record { accepts = p.accepts; arrives = p.arrives; shortest = p.shortest }

    refuses-is : (given : List ℤ) (list : List ℕ) → IsStack terms given → plan_limit ≤ length list
        → NoRoad terms given → (plan_in w given list).1.refusal ≡ 20
    refuses-is given list h l none =
        let table : List ℕ = joined w.segments in
        subst (λ (t : Terms). (plan_of t.kind t.n t.wanted given t.groups table list).1.refusal ≡ 20) (sym shaped.terms_is)
        (plan-refusal-is terms.kind terms.n terms.wanted given terms.groups table list
        ∙ plan-unseen terms.kind terms.n terms.wanted given terms.groups table (length list) (row_is table long given list h l) (roadless-unseen given h none) 0)

    -- the counts add up to the seen: an entry is other than 3 exactly where the depth is searched
    added_is : total w.job.counts ≡ seen_in (joined w.segments) (N terms)
    unfolding seen_in count_of entry_in unseen
    added_is =
        total-from w.job.counts (level_count terms) 0
        (λ i l. ended.counts.each i (omega (arith, shaped.counts-length)) ∙ ap (level_count terms) (sym (zero-add i)))
        ∙ ap (λ (m : ℕ). total (map (level_count terms) (from 0 m))) shaped.counts-length
        ∙ tally-values (D terms) (N terms) count_places
        ∙ tally-same (λ v. ltb (D terms v) count_places) (λ v. not (eqb (entry_at (joined w.segments) v) unseen)) (N terms) (λ v l. same v l (near-or-far v))
      where
        same : (v : ℕ) → v < N terms → (D terms v < beyond) ⊎ (D terms v ≡ beyond)
            → ltb (D terms v) count_places ≡ not (eqb (entry_at (joined w.segments) v) unseen)
        same v l (inl near) =
            lt-ltb (D terms v) count_places near
            ∙ sym (ap not (ne_eqb (entry_at (joined w.segments) v) unseen
            (λ e. omega (arith, joined-entry (N terms) terms.size w.segments whole v l, ended.entries v l near, mod-lt (D terms v) {m = 3} (omega arith)))))
        same v l (inr far) =
            le-ltb (D terms v) count_places (omega (arith, far))
            ∙ sym (ap not (eq-eqb (entry_at (joined w.segments) v) unseen
            (joined-entry (N terms) terms.size w.segments whole v l ∙ ended.unreached v l far)))

    pub ended-finishes : FinishesBy terms w
    unfolding count_of
    ended-finishes =
        record {
          entries = entry-is;
          spare = spare-is;
          counts = λ i l. counts-by terms.kind terms.n terms.wanted beyond begun.in-range begun.stack (laws begun) i (omega arith) (count_of w.job i)
              (ended.counts.each i (omega arith));
          past = λ i h. ended.counts.past i (omega (arith, level-is));
          added = added_is;
          deepest = subst (Needs terms) (sym level-is) (depth-needs d ended.deepest (omega (arith, ended.last)));
          greatest = greatest-is;
          below = omega (arith, level-is, ended.last);
          given_terms = shaped.terms_is;
          plans = plans-is;
          refuses = refuses-is;
        }
      where
        greatest-is : (s : List ℤ) (i : ℕ) → IsStack terms s → FewestTo terms s i
            → i ≤ level_of w.job.phase
        greatest-is s i h f =
            let near = road-near s h f.road f.leads in
            omega (arith, level-is, fewest-unique (fewest-is s h near) f, ended.greatest (place s h) (inside s h) near)

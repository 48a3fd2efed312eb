-- A run of Sweep, stack by stack: the marks that the stacks passed so far leave.
use mathlib.Core.Path.{◌≡◌, refl, sym, ap, ◌∙◌, subst}
use mathlib.Core.Bool.{Bool, true, false, cond}
use mathlib.Core.List.{List, [], ◌∷◌, ◌++◌}
use Prim.Native.Nat.{ℕ, ◌+◌, ◌*◌, ◌/◌, ◌%◌, ◌^◌, ◌<◌, ◌≤◌}
use native.Mathlib.Numerals.{add-one}
use native.Mathlib.Omega.{arith}
use lib.ListN.{length}
use Rattle.base.specs.Words.{filter, from}
use Rattle.base.proofs.Lists.{map-append, filter-append, from_more}
use Rattle.stacks.specs.Stack.{stack_count}
use Rattle.stacks.proofs.KindLaws.{count_fits}
use Rattle.search.specs.Entries.{entry_at}
use Rattle.search.specs.JobState.{count_limit}
use Rattle.search.specs.Logs.{indexes_of}
use Rattle.search.specs.Marks.{Marks, mark_one, mark_all}
use Rattle.search.specs.Segments.{stack_count_in}
use Rattle.search.specs.declared.Found.{Found}
use Rattle.search.specs.declared.Terms.{Terms}
use Rattle.search.proofs.EntryLaws.{byte_inside}
use Rattle.search.proofs.MarkLaws.{mark-seen, mark-length, marks-append}
use Rattle.search.proofs.SegmentLaws.{segment-stack, segment-stack-mod}
use Rattle.perm.specs.Panes.{kind_of}
use Rattle.twobit.specs.Mark.{AtMost, MarkFits, MarksStack, marks_of}
use Rattle.twobit.proofs.LeafMarks.{at_most, mark-at-most}
use Rattle.sweep.specs.Reach.{ReachFits, RunFits, pair_terms, reached_by, reached_to, Sweeps}
use Rattle.sweep.specs.declared.reach.Pair.{Pair}

-- ---- the marks after no stack, and after one more

sweeps-none : (pair : Pair) (list : List ℕ) (before : Marks) → Sweeps pair 0 list before before
unfolding mark_all indexes_of filter from
sweeps-none pair list before = refl

module _ (pair : Pair) (list : List ℕ) (at : ℕ) (before marks : Marks) where
  abbrev v : ℕ
  v = pair.j * pair.size + at

  abbrev is_reached : Bool
  is_reached = reached_by pair list v

  -- that stack is among the reached, or it is not
  reached-more : reached_to pair list (at + 1) ≡ reached_to pair list at ++ cond is_reached (at ∷ []) []
  unfolding filter
  reached-more =
      let p : ℕ → Bool = λ i. reached_by pair list (pair.j * pair.size + i) in
      ap (λ (m : ℕ). filter p (from 0 m)) (add-one at)
      ∙ ap (filter p) (from_more 0 at ∙ ap (λ (i : ℕ). from 0 at ++ (i ∷ [])) (let e : 0 + at ≡ at = omega arith in e))
      ∙ filter-append p (from 0 at) (at ∷ [])

  module _ (swept : Sweeps pair at list before marks) where
    sweeps-more : (after : Marks) → after ≡ cond is_reached (mark_one (pair_terms pair) pair.mark v marks) marks → Sweeps pair (at + 1) list before after
    unfolding mark_all indexes_of
    sweeps-more after e =
        let S = pair.size in
        let t : Terms = pair_terms pair in
        let sofar : List ℕ = reached_to pair list at in
        e
        ∙ go is_reached
        ∙ ap (λ (m : Marks). mark_all t pair.mark (indexes_of S pair.j (cond is_reached (at ∷ []) [])) m) swept
        ∙ sym (marks-append t pair.mark (indexes_of S pair.j sofar) (indexes_of S pair.j (cond is_reached (at ∷ []) [])) before)
        ∙ ap (λ (l : List ℕ). mark_all t pair.mark l before) (sym (map-append (λ i. pair.j * S + i) sofar (cond is_reached (at ∷ []) [])))
        ∙ ap (λ (l : List ℕ). mark_all t pair.mark (indexes_of S pair.j l) before) (sym reached-more)
      where
        go : (t : Bool) → cond t (mark_one (pair_terms pair) pair.mark v marks) marks ≡ mark_all (pair_terms pair) pair.mark (indexes_of pair.size pair.j (cond t (at ∷ []) [])) marks
        go true = refl
        go false = refl

    -- a reached stack is marked; one that is not reached, and one that is seen, is left
    sweeps-reached : is_reached ≡ true → (after : Marks) → after ≡ mark_one (pair_terms pair) pair.mark v marks → Sweeps pair (at + 1) list before after
    sweeps-reached t after e = sweeps-more after (e ∙ ap (λ (x : Bool). cond x (mark_one (pair_terms pair) pair.mark v marks) marks) (sym t))

    sweeps-unreached : is_reached ≡ false → Sweeps pair (at + 1) list before marks
    sweeps-unreached t = sweeps-more marks (ap (λ (x : Bool). cond x (mark_one (pair_terms pair) pair.mark v marks) marks) (sym t))

    sweeps-seen : v % pair.size ≡ at → (entry_at marks.segment at ≡ 3 → ⊥) → Sweeps pair (at + 1) list before marks
    sweeps-seen own seen = sweeps-more marks (go is_reached)
      where
        go : (t : Bool) → marks ≡ cond t (mark_one (pair_terms pair) pair.mark v marks) marks
        go true = sym (mark-seen (pair_terms pair) pair.mark v marks (λ e. seen (ap (entry_at marks.segment) (sym own) ∙ e)))
        go false = refl

-- ---- what a run is given, and how far it is

pub record SweptTo (pair : Pair) (stacks : ℕ) (segment₀ : List ℕ) (found₀ : Found) (list : List ℕ) (segment : List ℕ) (found : Found) (at : ℕ) : Type 0 where
  pub given : RunFits pair stacks found₀ segment₀ list
  pub within : at ≤ stacks
  pub long : length segment ≡ length segment₀
  pub few : AtMost found (count_limit + at)
  pub swept : Sweeps pair at list (marks_of segment₀ found₀) (marks_of segment found)

module _ {pair : Pair} {stacks : ℕ} {segment : List ℕ} {found : Found} {list : List ℕ} (given : RunFits pair stacks found segment list) where
  pub swept_none : SweptTo pair stacks segment found list segment found 0
  swept_none =
      record { given = given; within = omega arith; long = refl; few = at_most given.few (omega arith); swept = sweeps-none pair list (marks_of segment found) }

  -- the index of the segment's first stack
  pub base-fits : pair.j * pair.size < 2 ^ 32
  base-fits = omega (arith, given.starts, count_fits (kind_of pair.set.panes) pair.set.panes.n pair.set.panes.in_range)

module _ {pair : Pair} {stacks : ℕ} {segment₀ : List ℕ} {found₀ : Found} {list segment : List ℕ} {found : Found} {at : ℕ}
    (r : SweptTo pair stacks segment₀ found₀ list segment found at) where
  pub swept_same : {segment' : List ℕ} {found' : Found} → segment' ≡ segment → found' ≡ found → SweptTo pair stacks segment₀ found₀ list segment' found' at
  swept_same e f = rw (e, f) r

  pub swept-end : stacks ≤ at → Sweeps pair stacks list (marks_of segment₀ found₀) (marks_of segment found)
  swept-end h = subst (λ (m : ℕ). Sweeps pair m list (marks_of segment₀ found₀) (marks_of segment found)) (let e : at ≡ stacks = omega (arith, r.within) in e) r.swept

  -- a stack that is left
  module _ (more : at < stacks) where
    own : at < stack_count_in (stack_count (kind_of pair.set.panes) pair.set.panes.n) pair.size pair.j
    own = omega (arith, r.given.all)

    stack-below : pair.j * pair.size + at < stack_count (kind_of pair.set.panes) pair.set.panes.n
    stack-below = segment-stack (stack_count (kind_of pair.set.panes) pair.set.panes.n) pair.size r.given.some pair.j at own

    pub stack-fits : pair.j * pair.size + at < 2 ^ 32
    stack-fits = omega (arith, stack-below, count_fits (kind_of pair.set.panes) pair.set.panes.n pair.set.panes.in_range)

    stack-own : (pair.j * pair.size + at) % pair.size ≡ at
    stack-own = segment-stack-mod (stack_count (kind_of pair.set.panes) pair.set.panes.n) pair.size r.given.some pair.j at own

    pub stack-byte : at / 4 < length segment
    stack-byte = rw (r.long, r.given.bytes) (byte_inside at stacks more)

    pub reach-fits : ReachFits pair list (pair.j * pair.size + at)
    reach-fits =
        record {
          some = r.given.some;
          listed = r.given.listed;
          below = stack-below;
        }

    mark-few : AtMost found (2 ^ 62)
    unfolding count_limit
    mark-few = at_most r.few (omega (arith, stack-fits))

    pub mark-fits : MarkFits segment at pair.mark found
    mark-fits = record { below = r.given.label; inside = stack-byte; few = mark-few }

    -- one that is seen, one that is not reached, and one that is marked
    left : Sweeps pair (at + 1) list (marks_of segment₀ found₀) (marks_of segment found) → SweptTo pair stacks segment₀ found₀ list segment found (at + 1)
    left swept = record { given = r.given; within = omega arith; long = r.long; few = at_most r.few (omega arith); swept = swept }

    pub swept-seen : (entry_at segment at ≡ 3 → ⊥) → SweptTo pair stacks segment₀ found₀ list segment found (at + 1)
    swept-seen seen = left (sweeps-seen pair list at (marks_of segment₀ found₀) (marks_of segment found) r.swept stack-own seen)

    module _ {reached : Bool} (is : reached ≡ reached_by pair list (pair.j * pair.size + at)) where
      pub swept-unreached : reached ≡ false → SweptTo pair stacks segment₀ found₀ list segment found (at + 1)
      swept-unreached t = left (sweeps-unreached pair list at (marks_of segment₀ found₀) (marks_of segment found) r.swept (sym is ∙ t))

      pub swept-reached : reached ≡ true → {segment' : List ℕ} {found' : Found}
          → MarksStack segment (pair.j * pair.size + at) at pair.mark found segment' found'
          → SweptTo pair stacks segment₀ found₀ list segment' found' (at + 1)
      swept-reached t {segment'} {found'} marked =
          let S = pair.size in
          let v = pair.j * S + at in
          let marks = marks_of segment found in
          let e = marked (pair_terms pair) stack-own in
          record {
            given = r.given;
            within = omega arith;
            long = ap (λ (m : Marks). length m.segment) e ∙ mark-length (pair_terms pair) pair.mark v marks ∙ r.long;
            few = at_most (subst (λ (m : Marks). AtMost m.found (count_limit + at + 1)) (sym e) (mark-at-most (pair_terms pair) pair.mark v marks r.few)) (omega arith);
            swept = sweeps-reached pair list at (marks_of segment₀ found₀) marks r.swept (sym is ∙ t) (marks_of segment' found') e;
          }

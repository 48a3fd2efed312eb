-- A run over the stacks of a segment: the children of each as an array, room for them, and what each case of the code is to the definition.
use mathlib.Core.Path.{◌≡◌, refl, sym, ap, ◌∙◌, subst}
use mathlib.Core.Logic.{◌⊎◌, inl, inr}
use mathlib.Core.Bool.{true}
use mathlib.Core.List.{List, ◌++◌}
use Prim.Native.Nat.{ℕ, zero, suc, ◌+◌, ◌-◌, ◌*◌, ◌/◌, ◌%◌, ◌^◌, ◌<◌, ◌≤◌}
use native.Mathlib.Numerals.{add-one}
use native.Mathlib.Omega.{arith}
use lib.ListN.{length, get_or, take, replicate, length-append}
use lib.Seq.{take_at}
use borrow.Author.Tests.{lt-ltb, le-ltb, eq-eqb, ne_eqb}
use Rattle.base.proofs.Tests.{lt-or-ge}
use Rattle.std.specs.Prelude.{Some, None}
use Rattle.stacks.specs.Stack.{stack_count}
use Rattle.search.specs.Entries.{entry_at}
use Rattle.search.specs.Expand.{Expansion, is_parent, children_of, place_all, pass_one, wait_for, expand_stack, expand_next, expand_run}
use Rattle.search.specs.JobState.{count_limit, level_of, stack_count_of, segment_count_of, stack_count_at}
use Rattle.search.specs.Logs.{falling_in, lacks_room}
use Rattle.search.proofs.Children.{children-length, children-inside}
use Rattle.search.proofs.EntryLaws.{byte_inside}
use Rattle.search.proofs.ExpandCases.{first-before, room-enough}
use Rattle.search.proofs.SegmentLaws.{segment-stack, segment-starts, stack-segment, stack_count_in-le}
use Rattle.perm.specs.Moves.{most_moves}
use Rattle.perm.specs.Panes.{kind_of}
use Rattle.twobit.specs.Mark.{AtMost}
use Rattle.twobit.proofs.LeafMarks.{at_most}
use Rattle.expand.specs.Scan.{ScanFits, LentFits, HasRoom, WaitingFits, first_full, ChildrenFit, RunFits, PlacesAll, Runs, SameLent, expansion_at, running, scan_job, moves_in}
use Rattle.expand.specs.declared.place.Running.{Running}
use Rattle.expand.specs.declared.scan.Scan.{Scan}
use Rattle.expand.proofs.Fitting.{ScanFacts, scan-facts, scan-moves}
use Rattle.expand.proofs.Lowest.{falling-place}
use Rattle.expand.proofs.Placing.{Fits, all-fits, all_most}

-- the moves of a scan, the children that they make of the stack at an index, and of the stack at place `at` of this segment
abbrev pub moves_of : Scan → List ℕ
moves_of scan = moves_in scan.set

abbrev pub children_by : Scan → ℕ → List ℕ
children_by scan v = children_of (kind_of scan.set.panes) scan.set.panes.n (moves_of scan) v

abbrev pub children_at : Scan → ℕ → List ℕ
children_at scan at = children_by scan (scan.j * scan.size + at)

module _ (scan : Scan) (fit : ScanFits scan) where
  facts : ScanFacts scan
  facts = scan-facts scan fit

  segment-count-of : segment_count_of (scan_job scan) ≡ scan.segments
  unfolding segment_count_of stack_count_of scan_job
  segment-count-of = sym fit.segments_are

  -- the segment's first index fits, and so does each of its stacks'
  pub base-inside : scan.j * scan.size < stack_count_of (scan_job scan)
  base-inside = segment-starts (stack_count_of (scan_job scan)) scan.size facts.some scan.j (rw (← fit.segments_are) fit.inside)

  stack-inside : (at : ℕ) → at < stack_count_at (scan_job scan) scan.j → scan.j * scan.size + at < stack_count_of (scan_job scan)
  unfolding stack_count_at scan_job
  stack-inside at h = segment-stack (stack_count_of (scan_job scan)) scan.size facts.some scan.j at h

  -- children are stacks
  listed-inside : (v : ℕ) → v < stack_count_of (scan_job scan) → (i : ℕ) → i < length (children_by scan v)
      → get_or (children_by scan v) i 0 < stack_count_of (scan_job scan)
  unfolding stack_count_of scan_job
  listed-inside v h =
      children-inside (kind_of scan.set.panes) scan.set.panes.n (moves_of scan) v scan.set.panes.in_range (scan-moves scan) h

  -- the children of the stack at index v are the first of its array
  pub array-children : (v : ℕ) (array : List ℕ) → array ≡ children_by scan v ++ replicate (most_moves - length (moves_of scan)) 0
      → take scan.turns array ≡ children_by scan v
  array-children v array filled =
      ap (take scan.turns) filled
      ∙ take_at (children_by scan v) (replicate (most_moves - length (moves_of scan)) 0) scan.turns
      (children-length (kind_of scan.set.panes) scan.set.panes.n (moves_of scan) v ∙ sym fit.turns_are)

  pub array-long : (v : ℕ) (array : List ℕ) → array ≡ children_by scan v ++ replicate (most_moves - length (moves_of scan)) 0
      → scan.turns ≤ length array
  array-long v array filled =
      let zeros : List ℕ = replicate (most_moves - length (moves_of scan)) 0 in
      omega (arith, fit.turns_are, ap length filled, length-append (children_by scan v) zeros, children-length (kind_of scan.set.panes) scan.set.panes.n (moves_of scan) v)

  -- ---- room

  -- where no segment lacks room, each has it: a child falls in no segment from G up
  pub room-found : (waiting children : List ℕ) → WaitingFits scan waiting → ((i : ℕ) → i < length children → get_or children i 0 < stack_count_of (scan_job scan))
      → scan.segments ≤ first_full scan waiting children
      → HasRoom scan waiting children
  room-found waiting children most inside all t ne = go (lt-or-ge t scan.segments) (lt-or-ge 0 (falling_in scan.size t children))
    where
      go : (t < scan.segments) ⊎ (scan.segments ≤ t) → (0 < falling_in scan.size t children) ⊎ (falling_in scan.size t children ≤ 0)
          → get_or waiting t 0 + falling_in scan.size t children ≤ scan.room
      go (inl h) s =
          omega (
            arith,
            most t,
            room-enough scan.size scan.room scan.j waiting children t
                (first-before (lacks_room scan.size scan.room scan.j waiting children) 0 scan.segments t (omega arith) (omega arith))
                ne,
          )
      go (inr h) (inl l) =
          let q = falling-place scan.size t children l in
          let low = stack-segment (stack_count_of (scan_job scan)) scan.size facts.some (get_or children q.0 0) (inside q.0 q.1) in
          absurd (omega (arith, q.2, fit.segments_are))
      go (inr h) (inr l) = omega (arith, most t)

  -- ---- one stack
  module _ (at : ℕ) (r : Running) where
    pub next-skips : (entry_at r.segment.now at ≡ scan.from → ⊥)
        → expand_next (scan_job scan) scan.j (running r at) ≡ running r (suc at)
    unfolding is_parent expand_next pass_one scan_job level_of
    next-skips ne = rw (ne_eqb (entry_at r.segment.now at) ((scan.level - 1) % 3) (λ e. ne (e ∙ sym fit.from_is)))

    module _ (due : entry_at r.segment.now at ≡ scan.from) (full : ℕ)
        (lowest : full ≡ first_full scan r.waiting.now (children_at scan at)) where
      pub next-waits : full < scan.segments
          → expand_next (scan_job scan) scan.j (running r at)
          ≡ expansion_at r at (Some full)
      unfolding is_parent expand_next expand_stack wait_for scan_job level_of
      next-waits h =
          rw (
            eq-eqb (entry_at r.segment.now at) ((scan.level - 1) % 3) (due ∙ fit.from_is),
            segment-count-of,
            ← lowest,
            lt-ltb full scan.segments h,
          )

      pub next-places : (r' : Running) → scan.segments ≤ full
          → running r' at
          ≡ place_all (scan_job scan) scan.j (children_at scan at) (running r at)
          → expand_next (scan_job scan) scan.j (running r at) ≡ running r' (suc at)
      unfolding is_parent expand_next expand_stack pass_one scan_job level_of
      next-places r' h e =
          rw (
            eq-eqb (entry_at r.segment.now at) ((scan.level - 1) % 3) (due ∙ fit.from_is),
            segment-count-of,
            ← lowest,
            le-ltb full scan.segments h,
            ← e,
          )

  -- a call that waits goes no further
  run-stopped : (left : ℕ) (e : Expansion) → e.waits ≡ true → expand_run (scan_job scan) scan.j left e ≡ e
  unfolding expand_run expand_next
  run-stopped zero e h = refl
  run-stopped (suc left) e h = ap (expand_run (scan_job scan) scan.j left) (next e h) ∙ run-stopped left e h
    where
      next : (e : Expansion) → e.waits ≡ true → expand_next (scan_job scan) scan.j e ≡ e
      next e h = rw h

-- ---- the run

-- a call that has come to stack `at`, from what it was given
pub record RunTo (scan : Scan) (first stacks : ℕ) (r₀ r : Running) (at : ℕ) : Type 0 where
  pub given : RunFits scan first stacks r₀
  pub same : SameLent r₀ r
  pub within : at ≤ stacks
  pub fits : LentFits scan r.segment.now r.log.now r.waiting.now
  pub counted : AtMost r.found (count_limit + most_moves * at)
  pub run : expand_run (scan_job scan) scan.j (stacks - first) (running r₀ first) ≡ expand_run (scan_job scan) scan.j (stacks - at) (running r at)

module _ {scan : Scan} {first stacks : ℕ} {r₀ : Running} where
  pub run_none : RunFits scan first stacks r₀ → RunTo scan first stacks r₀ r₀ first
  run_none given =
      record { given = given; same = (refl, refl, refl); within = given.within; fits = given.lent; counted = at_most given.few (omega arith); run = refl }

  module _ {r : Running} {at : ℕ} (t : RunTo scan first stacks r₀ r at) where
    -- at the last stack it is through
    pub run_end : stacks ≤ at → Runs scan first stacks r₀ r (record { at = stacks; waits_for = None })
    unfolding expand_run
    run_end h =
        let last : at ≡ stacks = omega (arith, t.within) in
        sym
        (t.run
        ∙ ap (λ (n : ℕ). expand_run (scan_job scan) scan.j n (running r at)) (let e : stacks - at ≡ 0 = omega arith in e)
        ∙ ap (running r) last)

    -- there are few enough stacks that the count stays far below its type's end
    few : AtMost r.found (2 ^ 61)
    unfolding count_limit stack_count_at scan_job
    few =
        let facts : ScanFacts scan = scan-facts scan t.given.fit in
        at_most t.counted (omega (arith, t.within, t.given.all, stack_count_in-le (stack_count_of (scan_job scan)) scan.size facts.some scan.j))

    -- the same values by another name
    pub run-same : {r' : Running} → r' ≡ r → RunTo scan first stacks r₀ r' at
    run-same e = rw e t

    module _ (more : at < stacks) where
      pub run-byte : at / 4 < length r.segment.now
      run-byte = rw (t.fits.bytes, ← t.given.all) (byte_inside at stacks more)

      inside : scan.j * scan.size + at < stack_count_of (scan_job scan)
      inside = stack-inside scan t.given.fit at (rw (← t.given.all) more)

      pub run_inside : scan.j * scan.size + at < stack_count (kind_of scan.set.panes) scan.set.panes.n
      unfolding stack_count_of scan_job
      run_inside = inside

      run-next : expand_run (scan_job scan) scan.j (stacks - first) (running r₀ first)
          ≡ expand_run (scan_job scan) scan.j (stacks - suc at) (expand_next (scan_job scan) scan.j (running r at))
      unfolding expand_run
      run-next =
          t.run
          ∙ ap (λ (n : ℕ). expand_run (scan_job scan) scan.j n (running r at))
          (let e : stacks - at ≡ suc (stacks - suc at) = omega arith in e)

      run_more : {r' : Running} → SameLent r r' → LentFits scan r'.segment.now r'.log.now r'.waiting.now
          → AtMost r'.found (count_limit + most_moves * at + most_moves)
          → expand_next (scan_job scan) scan.j (running r at) ≡ running r' (suc at)
          → RunTo scan first stacks r₀ r' (at + 1)
      run_more same fits counted step =
          record {
            given = t.given;
            same = (same.0 ∙ t.same.0, same.1 ∙ t.same.1, same.2 ∙ t.same.2);
            within = omega arith;
            fits = fits;
            counted = at_most counted (omega arith);
            run = rw (add-one at) (run-next ∙ ap (expand_run (scan_job scan) scan.j (stacks - suc at)) step);
          }

      run-waits : (full : ℕ) → expand_next (scan_job scan) scan.j (running r at) ≡ expansion_at r at (Some full)
          → Runs scan first stacks r₀ r (record { at = at; waits_for = Some full })
      run-waits full step =
          sym
          (run-next
          ∙ ap (expand_run (scan_job scan) scan.j (stacks - suc at)) step
          ∙ run-stopped scan t.given.fit (stacks - suc at) (expansion_at r at (Some full)) refl)

      -- a stack that is due, with its children
      module _ {children : List ℕ} (due : entry_at r.segment.now at ≡ scan.from) (are : children ≡ children_at scan at) where
        pub run-blocked : {full : ℕ} → (full ≡ first_full scan r.waiting.now children) × (full < scan.segments)
            → Runs scan first stacks r₀ r (record { at = at; waits_for = Some full })
        run-blocked {full} h =
            run-waits full (next-waits scan t.given.fit at r due full (h.0 ∙ ap (first_full scan r.waiting.now) are) h.1)

        module _ (enough : scan.segments ≤ first_full scan r.waiting.now children) where
          room : HasRoom scan r.waiting.now children
          room =
              rw are
              (room-found scan t.given.fit r.waiting.now (children_at scan at) t.fits.most
              (listed-inside scan t.given.fit (scan.j * scan.size + at) inside)
              (rw are at enough))

          few-children : length children ≤ most_moves
          few-children =
              let facts : ScanFacts scan = scan-facts scan t.given.fit in
              omega (arith, ap length are, children-length (kind_of scan.set.panes) scan.set.panes.n (moves_of scan) (scan.j * scan.size + at), t.given.fit.turns_are, facts.turns-few)

          pub run-children : ChildrenFit scan children r
          run-children =
              record {
                fit = t.given.fit;
                lent = t.fits;
                below = rw are (listed-inside scan t.given.fit (scan.j * scan.size + at) inside);
                many = few-children;
                room = room;
                few = few;
              }

          pub run-placed : {r' : Running} → SameLent r r' → PlacesAll scan children r r' → RunTo scan first stacks r₀ r' (at + 1)
          run-placed {r'} same step =
              let before = running r at in
              run_more same
              (subst (Fits scan) (sym (step at)) (all-fits scan children before t.fits room))
              (subst (λ (e : Expansion). AtMost e.marks.found (count_limit + most_moves * at + most_moves)) (sym (step at))
              (at_most (all_most scan children before t.counted) (omega (arith, few-children))))
              (next-places scan t.given.fit at r due (first_full scan r.waiting.now children) (ap (first_full scan r.waiting.now) are) r' enough
              (step at ∙ ap (λ (cs : List ℕ). place_all (scan_job scan) scan.j cs before) are))

      pub run-skipped : (entry_at r.segment.now at ≡ scan.from → ⊥) → RunTo scan first stacks r₀ r (at + 1)
      run-skipped ne =
          run_more (refl, refl, refl) t.fits (at_most t.counted (omega arith)) (next-skips scan t.given.fit at r ne)

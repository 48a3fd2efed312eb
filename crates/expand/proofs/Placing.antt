-- A child placed, and then all: what the code's steps are to the definition, and that what is lent keeps its lengths and its room.
use mathlib.Core.Path.{◌≡◌, refl, sym, ap, ◌∙◌, subst}
use mathlib.Core.Logic.{◌⊎◌, inl, inr}
use mathlib.Core.Bool.{false}
use mathlib.Core.List.{List, [], ◌∷◌}
use Prim.Native.Nat.{ℕ, ◌+◌, ◌-◌, ◌*◌, ◌/◌, ◌%◌, ◌^◌, ◌<◌, ◌≤◌}
use native.Mathlib.Nat.{suc-mul, mul-le-mul_right, mul-le-mul}
use native.Mathlib.Numerals.{add-one}
use native.Mathlib.Omega.{arith}
use borrow.Rule.Slice.PartMut.{mid_of, put_mid, set_mid_at}
use lib.ListN.{length, get_or, set, drop, length-set, length-take, length-drop, drop_of_length-le}
use lib.Seq.{get_or-set_same, get_or-set_other, set_out, drop-cons}
use Rattle.base.proofs.Tests.{lt-or-ge, eq-or-ne}
use Rattle.search.specs.Expand.{Expansion, place_child, place_all}
use Rattle.search.specs.JobState.{level_of, stack_count_of, stack_count_at}
use Rattle.search.specs.Segments.{segment_limit, most_room, stack_count_in}
use Rattle.search.specs.Marks.{Marks, mark_one}
use Rattle.search.specs.Logs.{log_one, falling_in}
use Rattle.search.proofs.EntryLaws.{byte_inside}
use Rattle.search.proofs.ExpandCases.{falling-here, falling-elsewhere, falling-le, place_here, place-elsewhere}
use Rattle.search.proofs.MarkLaws.{mark-length}
use Rattle.search.proofs.SegmentLaws.{stack-segment, stack-offset}
use Rattle.twobit.specs.Mark.{marks_of, AtMost, MarkFits}
use Rattle.search.specs.declared.Found.{Found}
use Rattle.twobit.proofs.LeafMarks.{at_most, mark-at-most, mark-level}
use Rattle.expand.specs.Scan.{LentFits, HasRoom, ChildFits, ChildrenFit, PlacesChild, PlacesAll, SameLent, running, scan_job}
use Rattle.expand.specs.declared.place.Running.{Running}
use Rattle.expand.specs.declared.scan.Scan.{Scan}
use Rattle.expand.proofs.Fitting.{ScanFacts, scan-facts}

-- where a child's log and its next place stand, and that the numbers are small
pub record LogPlace (scan : Scan) (child : ℕ) (log waiting : List ℕ) : Type 0 where
  pub listed : child / scan.size < segment_limit
  pub start_small : child / scan.size * scan.room ≤ segment_limit * most_room
  pub start-within : child / scan.size * scan.room ≤ length log
  pub free : get_or waiting (child / scan.size) 0 < scan.room
  pub place-within : get_or waiting (child / scan.size) 0 < length log - child / scan.size * scan.room

-- a call's state at a stack, by what it consists of
abbrev pub state : List ℕ → Found → List ℕ → List ℕ → ℕ → Expansion
state segment found log waiting at =
    record { at = at; waits = false; on = 0; marks = marks_of segment found; logs = record { log = log; waiting = waiting } }

module _ {scan : Scan} {child : ℕ} {r : Running} (g : ChildFits scan child r) where
  facts : ScanFacts scan
  facts = scan-facts scan g.fit

  child-segment : child / scan.size < scan.segments
  child-segment = rw g.fit.segments_are (stack-segment (stack_count_of (scan_job scan)) scan.size facts.some child g.below)

  -- a child of this segment has its entry in the segment's bytes
  child-byte : child / scan.size ≡ scan.j → child % scan.size / 4 < length r.segment.now
  unfolding stack_count_of stack_count_at scan_job
  child-byte e =
      rw (g.lent.bytes, ← e)
      (byte_inside (child % scan.size) (stack_count_in (stack_count_of (scan_job scan)) scan.size (child / scan.size))
      (stack-offset (stack_count_of (scan_job scan)) scan.size facts.some child g.below))

  pub child-marks : child / scan.size ≡ scan.j → MarkFits r.segment.now (child % scan.size) scan.mark r.found
  child-marks e =
      record {
        below = omega (arith, g.fit.mark_is);
        inside = child-byte e;
        few = g.few;
      }

  pub log-place : (child / scan.size ≡ scan.j → ⊥) → LogPlace scan child r.log.now r.waiting.now
  log-place ne =
      let t = child / scan.size in
      let here = falling-here scan.size t child [] refl in
      let most = mul-le-mul_right scan.room child-segment in
      let more = suc-mul t scan.room in
      let free : get_or r.waiting.now t 0 < scan.room = omega (arith, g.room t ne) in
      record {
        listed = omega (arith, child-segment, facts);
        start_small = omega (arith, mul-le-mul {n₂ = segment_limit} {m₂ = most_room} (let l : t ≤ segment_limit = omega (arith, child-segment, facts) in l) facts.room_most);
        start-within = omega (arith, g.lent.places);
        free = free;
        place-within = omega (arith, g.lent.places);
      }

  -- the leaf that marks and counts
  pub placed-here : {after : List ℕ} {next : Found} → child / scan.size ≡ scan.j
      → marks_of after next ≡ mark_one (scan_job scan).terms scan.mark child (marks_of r.segment.now r.found)
      → (at : ℕ) → state after next r.log.now r.waiting.now at ≡ place_child (scan_job scan) scan.j child (running r at)
  unfolding scan_job level_of
  placed-here e m at =
      ap (λ (marks : Marks). record { at = at; waits = false; on = 0; marks = marks; logs = record { log = r.log.now; waiting = r.waiting.now } })
      (m ∙ rw g.fit.mark_is (mark-level (scan_job scan).terms scan.level child (marks_of r.segment.now r.found)))
      ∙ sym (place_here (scan_job scan) scan.j child (running r at) e)

  -- a place of the log's own stretch, and one more waits
  pub placed-elsewhere : {after : List ℕ} (ne : child / scan.size ≡ scan.j → ⊥)
      → (let t = child / scan.size in
      let start = t * scan.room in
      let k = length r.log.now - start in
      after ≡ set (mid_of start k r.log.now) (get_or r.waiting.now t 0) (child % scan.size)
      → (at : ℕ) → state r.segment.now r.found (put_mid start k r.log.now after) (set r.waiting.now t (get_or r.waiting.now t 0 + 1)) at
      ≡ place_child (scan_job scan) scan.j child (running r at))
  unfolding scan_job log_one
  placed-elsewhere ne e at =
      let t = child / scan.size in
      let start = t * scan.room in
      let k = length r.log.now - start in
      let w = get_or r.waiting.now t 0 in
      let p = log-place ne in
      ap (λ (xs : List ℕ). state r.segment.now r.found xs (set r.waiting.now t (w + 1)) at)
      (ap (put_mid start k r.log.now) e
      ∙ set_mid_at start k w r.log.now (child % scan.size) (simp (length-take, length-drop) (omega arith)))
      ∙ sym (place-elsewhere (scan_job scan) scan.j child (running r at) ne)

set-most : (xs : List ℕ) (i v : ℕ) → get_or xs i 0 ≤ v → get_or (set xs i v) i 0 ≤ v
set-most xs i v h = go (lt-or-ge i (length xs))
  where
    go : (i < length xs) ⊎ (length xs ≤ i) → get_or (set xs i v) i 0 ≤ v
    go (inl l) = rw (get_or-set_same xs i v 0 l) (omega arith)
    go (inr l) = rw (set_out xs i v l) h

-- what is lent, in the midst of a call
abbrev pub Fits : Scan → Expansion → Type 0
Fits scan e = LentFits scan e.marks.segment e.logs.log e.logs.waiting

module _ (scan : Scan) (child : ℕ) (rest : List ℕ) (e : Expansion) (lent : Fits scan e)
    (room : HasRoom scan e.logs.waiting (child ∷ rest)) where
  abbrev Leaves : Expansion → Type 0
  Leaves x = Fits scan x × HasRoom scan x.logs.waiting rest

  -- a child leaves the lengths, and room for the children after it
  pub place-fits : Leaves (place_child (scan_job scan) scan.j child e)
  unfolding scan_job level_of log_one
  place-fits = go (eq-or-ne (child / scan.size) scan.j)
    where
      t : ℕ
      t = child / scan.size

      w : ℕ
      w = get_or e.logs.waiting t 0

      elsewhere : (u : ℕ) → (t ≡ u → ⊥) → (u ≡ scan.j → ⊥) → get_or e.logs.waiting u 0 + falling_in scan.size u rest ≤ scan.room
      elsewhere u ne nj = omega (arith, falling-elsewhere scan.size u child rest ne, room u nj)

      free : (t ≡ scan.j → ⊥) → w + 1 + falling_in scan.size t rest ≤ scan.room
      free ne = omega (arith, falling-here scan.size t child rest refl, room t ne)

      -- what waits after the child was logged
      logged : (u : ℕ) → (t ≡ u) ⊎ (t ≡ u → ⊥) → (t ≡ scan.j → ⊥)
          → (get_or (set e.logs.waiting t (w + 1)) u 0 ≤ scan.room)
          × ((u ≡ scan.j → ⊥) → get_or (set e.logs.waiting t (w + 1)) u 0 + falling_in scan.size u rest ≤ scan.room)
      logged u (inl same) ne =
          let most : get_or (set e.logs.waiting t (w + 1)) t 0 ≤ w + 1 = set-most e.logs.waiting t (w + 1) (omega arith) in
          rw (← same) (omega (arith, free ne), λ nj. omega (arith, free ne))
      logged u (inr other) ne =
          rw (get_or-set_other e.logs.waiting t u (w + 1) 0 (λ q. other (sym q))) (lent.most u, elsewhere u other)

      go : (t ≡ scan.j) ⊎ (t ≡ scan.j → ⊥) → Leaves (place_child (scan_job scan) scan.j child e)
      go (inl here) =
          subst Leaves (sym (place_here (scan_job scan) scan.j child e here)) (
            record {
              bytes = mark-length (scan_job scan).terms scan.level child e.marks ∙ lent.bytes;
              places = lent.places;
              logs = lent.logs;
              most = lent.most;
            },
            λ u nj. elsewhere u (λ q. nj (sym q ∙ here)) nj,
          )
      go (inr ne) =
          subst Leaves (sym (place-elsewhere (scan_job scan) scan.j child e ne)) (
            record {
              bytes = lent.bytes;
              places = length-set e.logs.log (t * scan.room + w) (child % scan.size) ∙ lent.places;
              logs = length-set e.logs.waiting t (w + 1) ∙ lent.logs;
              most = λ u. (logged u (eq-or-ne t u) ne).0;
            },
            λ u. (logged u (eq-or-ne t u) ne).1,
          )

-- at most one more is counted
pub place-most : (scan : Scan) (child : ℕ) (e : Expansion) {most : ℕ} → AtMost e.marks.found most
    → AtMost (place_child (scan_job scan) scan.j child e).marks.found (most + 1)
unfolding scan_job level_of
place-most scan child e {most} few = go (eq-or-ne (child / scan.size) scan.j)
  where
    go : (child / scan.size ≡ scan.j) ⊎ (child / scan.size ≡ scan.j → ⊥)
        → AtMost (place_child (scan_job scan) scan.j child e).marks.found (most + 1)
    go (inl h) = rw (place_here (scan_job scan) scan.j child e h) (mark-at-most (scan_job scan).terms scan.level child e.marks few)
    go (inr h) = rw (place-elsewhere (scan_job scan) scan.j child e h) (at_most few (omega arith))

module _ (scan : Scan) where
  pub all-fits : (children : List ℕ) (e : Expansion) → Fits scan e → HasRoom scan e.logs.waiting children
      → Fits scan (place_all (scan_job scan) scan.j children e)
  unfolding place_all
  all-fits [] e lent room = lent
  all-fits (c ∷ children) e lent room =
      let next = place-fits scan c children e lent room in
      all-fits children (place_child (scan_job scan) scan.j c e) next.0 next.1

  pub all_most : (children : List ℕ) (e : Expansion) {most : ℕ} → AtMost e.marks.found most
      → AtMost (place_all (scan_job scan) scan.j children e).marks.found (most + length children)
  unfolding place_all
  all_most [] e few = at_most few (omega arith)
  all_most (c ∷ children) e few =
      at_most (all_most children (place_child (scan_job scan) scan.j c e) (place-most scan c e few)) (omega arith)

-- ---- a stack's children, one after the other

-- a call that has placed the first i children, from what it was given
pub record PlacedTo (scan : Scan) (children : List ℕ) (r₀ r : Running) (i : ℕ) : Type 0 where
  pub given : ChildrenFit scan children r₀
  pub same : SameLent r₀ r
  pub fits : LentFits scan r.segment.now r.log.now r.waiting.now
  pub room : HasRoom scan r.waiting.now (drop i children)
  pub few : AtMost r.found (2 ^ 61 + i)
  pub placed : (at : ℕ) → place_all (scan_job scan) scan.j children (running r₀ at) ≡ place_all (scan_job scan) scan.j (drop i children) (running r at)

module _ {scan : Scan} {children : List ℕ} {r₀ : Running} where
  pub placed-none : ChildrenFit scan children r₀ → PlacedTo scan children r₀ r₀ 0
  placed-none given =
      record {
        given = given;
        same = (refl, refl, refl);
        fits = given.lent;
        room = given.room;
        few = at_most given.few (omega arith);
        placed = λ at. refl;
      }

  module _ {r : Running} {i : ℕ} (p : PlacedTo scan children r₀ r i) where
    pub placed_end : length children ≤ i → PlacesAll scan children r₀ r
    unfolding place_all
    placed_end h at =
        sym
        (p.placed at
        ∙ ap (λ (xs : List ℕ). place_all (scan_job scan) scan.j xs (running r at)) (drop_of_length-le children h))

    module _ (inside : i < length children) where
      left : drop i children ≡ get_or children i 0 ∷ drop (i + 1) children
      left = rw (add-one i) (drop-cons children i 0 inside)

      room-left : HasRoom scan r.waiting.now (get_or children i 0 ∷ drop (i + 1) children)
      room-left = rw left at p.room

      room_next : HasRoom scan r.waiting.now (get_or children i 0 ∷ [])
      room_next t ne = go (eq-or-ne (get_or children i 0 / scan.size) t)
        where
          go : (get_or children i 0 / scan.size ≡ t) ⊎ (get_or children i 0 / scan.size ≡ t → ⊥)
              → get_or r.waiting.now t 0 + falling_in scan.size t (get_or children i 0 ∷ []) ≤ scan.room
          go (inl e) =
              omega (
                arith,
                falling-here scan.size t (get_or children i 0) [] e,
                falling-here scan.size t (get_or children i 0) (drop (i + 1) children) e,
                falling-le scan.size t [],
                room-left t ne,
              )
          go (inr e) =
              omega (arith, falling-elsewhere scan.size t (get_or children i 0) [] e, falling-le scan.size t [], room-left t ne)

      pub placed-child : ChildFits scan (get_or children i 0) r
      placed-child =
          record {
            fit = p.given.fit;
            lent = p.fits;
            below = p.given.below i inside;
            room = room_next;
            few = at_most p.few (omega (arith, p.given.many));
          }

      pub placed-more : {r' : Running} → SameLent r r' → PlacesChild scan (get_or children i 0) r r' → PlacedTo scan children r₀ r' (i + 1)
      unfolding place_all
      placed-more same step =
          let before = running r 0 in
          let rest = drop (i + 1) children in
          let next = place-fits scan (get_or children i 0) rest before p.fits room-left in
          record {
            given = p.given;
            same = (same.0 ∙ p.same.0, same.1 ∙ p.same.1, same.2 ∙ p.same.2);
            fits = subst (Fits scan) (sym (step 0)) next.0;
            room = subst (λ (e : Expansion). HasRoom scan e.logs.waiting rest) (sym (step 0)) next.1;
            few = at_most (subst (λ (e : Expansion). AtMost e.marks.found (2 ^ 61 + i + 1)) (sym (step 0)) (place-most scan (get_or children i 0) before p.few)) (omega arith);
            placed = λ at. p.placed at
                ∙ ap (λ (xs : List ℕ). place_all (scan_job scan) scan.j xs (running r at)) left
                ∙ ap (place_all (scan_job scan) scan.j rest) (sym (step at));
          }

-- Laws of segments and logs: which segment and place a stack has, how the segments' bytes make the whole table, and that a log's
-- stretch is its own.
use mathlib.Core.Path.{◌≡◌, refl, sym, ap, ◌∙◌}
use mathlib.Core.Bool.{true, ◌&&◌}
use mathlib.Core.Logic.{◌⊎◌, inl, inr}
use mathlib.Core.List.{List, [], ◌∷◌, ◌++◌, append-nil}
use Prim.Native.Nat.{ℕ, zero, suc, ◌+◌, ◌-◌, ◌*◌, ◌/◌, ◌%◌, ◌<◌, ◌≤◌, min}
use native.Mathlib.Nat.{eq-zero-or-pos, mod-lt, div-add-mod', suc-mul, mul_assoc, mul-le-mul_right, le-mul_of_pos_right, not-suc-le-zero}
use native.Mathlib.Omega.{arith}
use lib.Arith.{digits_div, digits_mod}
use lib.Dec.{leb, eqb}
use lib.ListN.{length, get_or, take, drop, length-append, length-take, length-drop, get_or-append}
use lib.Seq.{take-take, get_or-take, get_or-drop, get_or-append-add}
use borrow.Author.Tests.{leb-true, eqb-true}
use Rattle.base.proofs.Tests.{and_left, and_right, lt-or-ge}
use Rattle.search.specs.Entries.{entry_at, bytes_for, digit}
use Rattle.search.specs.Segments.{segment_limit, least_size, most_size, least_room, most_room, segment_count, stack_count_in, is_segment_size, is_log_room, joined}
use Rattle.search.specs.Logs.{log_part}

-- what the tests of S and C say
pub record SegmentSizeFacts (N S : ℕ) : Type 0 where
  pub four : S % 4 ≡ 0
  pub least : least_size ≤ S
  pub most : S ≤ most_size
  pub few : segment_count N S ≤ segment_limit

pub segment-size-facts : (N S : ℕ) → is_segment_size N S ≡ true → SegmentSizeFacts N S
unfolding is_segment_size
segment-size-facts N S h =
    let a = eqb (S % 4) 0 in
    let b = leb least_size S in
    let c = leb S most_size in
    let d = leb (segment_count N S) segment_limit in
    let three = and_left (a && b && c) d h in
    let two = and_left (a && b) c three in
    record {
      four = eqb-true (S % 4) 0 (and_left a b two);
      least = leb-true least_size S (and_right a b two);
      most = leb-true S most_size (and_right (a && b) c three);
      few = leb-true (segment_count N S) segment_limit (and_right (a && b && c) d h);
    }

pub record LogRoomFacts (C : ℕ) : Type 0 where
  pub least : least_room ≤ C
  pub most : C ≤ most_room

pub log-room-facts : (C : ℕ) → is_log_room C ≡ true → LogRoomFacts C
unfolding is_log_room
log-room-facts C h =
    record {
      least = leb-true least_room C (and_left (leb least_room C) (leb C most_room) h);
      most = leb-true C most_room (and_right (leb least_room C) (leb C most_room) h);
    }

pub four-mul : (j S : ℕ) → S % 4 ≡ 0 → j * S ≡ j * (S / 4) * 4
four-mul j S four = ap (λ (w : ℕ). j * w) (let q : S ≡ S / 4 * 4 = omega arith in q) ∙ sym (mul_assoc j (S / 4) 4)

module _ (N S : ℕ) (some : 0 < S) where
  -- segment j starts below N just when there is a segment j
  pub segment-starts : (j : ℕ) → j < segment_count N S → j * S < N
  unfolding segment_count
  segment-starts j h =
      omega (
        arith,
        div-add-mod' (N + (S - 1)) S,
        mod-lt (N + (S - 1)) some,
        suc-mul j S,
        mul-le-mul_right S h,
      )

  pub starts-segment : (j : ℕ) → j * S < N → j < segment_count N S
  unfolding segment_count
  starts-segment j h = go (lt-or-ge j ((N + (S - 1)) / S))
    where
      go : (j < (N + (S - 1)) / S) ⊎ ((N + (S - 1)) / S ≤ j) → j < (N + (S - 1)) / S
      go (inl l) = l
      go (inr l) =
          omega (arith, div-add-mod' (N + (S - 1)) S, mod-lt (N + (S - 1)) some, mul-le-mul_right S l)

  pub segment_count-le : segment_count N S ≤ N
  segment_count-le = go (lt-or-ge 0 (segment_count N S))
    where
      go : (0 < segment_count N S) ⊎ (segment_count N S ≤ 0) → segment_count N S ≤ N
      go (inl h) =
          let g = segment_count N S - 1 in
          omega (arith, segment-starts g (omega arith), le-mul_of_pos_right g some)
      go (inr h) = omega arith

  pub stack_count_in-le : (j : ℕ) → stack_count_in N S j ≤ S
  unfolding stack_count_in
  stack_count_in-le j = omega arith

  pub stack-segment : (v : ℕ) → v < N → v / S < segment_count N S
  stack-segment v h = starts-segment (v / S) (omega (arith, div-add-mod' v S))

  pub stack-offset : (v : ℕ) → v < N → v % S < stack_count_in N S (v / S)
  unfolding stack_count_in
  stack-offset v h = omega (arith, div-add-mod' v S, mod-lt v some)

  pub segment-stack : (j i : ℕ) → i < stack_count_in N S j → j * S + i < N
  unfolding stack_count_in
  segment-stack j i h = omega arith

  pub segment-stack-div : (j i : ℕ) → i < stack_count_in N S j → (j * S + i) / S ≡ j
  segment-stack-div j i h = digits_div j (let l : i < S = omega (arith, stack_count_in-le j) in l)

  pub segment-stack-mod : (j i : ℕ) → i < stack_count_in N S j → (j * S + i) % S ≡ i
  segment-stack-mod j i h = digits_mod j (let l : i < S = omega (arith, stack_count_in-le j) in l)

  pub segment-some : (j : ℕ) → j < segment_count N S → 0 < stack_count_in N S j
  unfolding stack_count_in
  segment-some j h = omega (arith, segment-starts j h)

  pub segment-none : (j : ℕ) → segment_count N S ≤ j → stack_count_in N S j ≡ 0
  unfolding stack_count_in
  segment-none j h = go (lt-or-ge (j * S) N)
    where
      go : (j * S < N) ⊎ (N ≤ j * S) → min S (N - j * S) ≡ 0
      go (inl l) = omega (arith, starts-segment j l)
      go (inr l) = omega arith

  pub segment-full : (j : ℕ) → suc j < segment_count N S → stack_count_in N S j ≡ S
  unfolding stack_count_in
  segment-full j h = omega (arith, segment-starts (suc j) h, suc-mul j S)

  -- the last segment ends at N
  pub segment-last : (j : ℕ) → suc j ≡ segment_count N S → j * S + stack_count_in N S j ≡ N
  unfolding stack_count_in
  segment-last j e = go (lt-or-ge (suc j * S) N)
    where
      go : (suc j * S < N) ⊎ (N ≤ suc j * S) → j * S + min S (N - j * S) ≡ N
      go (inl l) = omega (arith, starts-segment (suc j) l)
      go (inr l) = omega (arith, suc-mul j S, segment-starts j (omega arith))

  pub segments-none : N ≡ 0 → segment_count N S ≡ 0
  segments-none e = go (lt-or-ge 0 (segment_count N S))
    where
      go : (0 < segment_count N S) ⊎ (segment_count N S ≤ 0) → segment_count N S ≡ 0
      go (inl h) = omega (arith, segment-starts 0 h)
      go (inr h) = omega arith

  pub last-segment : 0 < N → suc (segment_count N S - 1) ≡ segment_count N S
  last-segment h = omega (arith, starts-segment 0 (omega arith))

  -- a spare entry of the table is a spare entry of the last segment
  pub spare-offset : (i : ℕ) → 0 < N → N ≤ i → stack_count_in N S (segment_count N S - 1) ≤ i - (segment_count N S - 1) * S
  spare-offset i h l = omega (arith, segment-last (segment_count N S - 1) (last-segment h))

  -- bytes of the segments before the last, and of the last
  pub bytes-last : (j : ℕ) → S % 4 ≡ 0 → suc j ≡ segment_count N S → bytes_for N ≡ j * (S / 4) + bytes_for (stack_count_in N S j)
  unfolding bytes_for
  bytes-last j four e = omega (arith, segment-last j e, four-mul j S four)

-- lists of one length B, but for the last: what stands at a place of the whole, and how long it is
joined_at : (B : ℕ) (segs : List (List ℕ)) (j k : ℕ) → ((i : ℕ) → suc i < length segs → length (get_or segs i []) ≡ B)
    → j < length segs → (suc j < length segs → k < B) → get_or (joined segs) (j * B + k) 0 ≡ get_or (get_or segs j []) k 0
unfolding joined
joined_at B [] j k f h l = absurd (not-suc-le-zero h)
joined_at B (x ∷ []) zero k f h l = rw (append-nil x) (ap (λ (a : ℕ). get_or x a 0) (let e : 0 * B + k ≡ k = omega arith in e))
joined_at B (x ∷ (y ∷ ys)) zero k f h l =
    ap (λ (a : ℕ). get_or (x ++ (y ++ joined ys)) a 0) (let e : 0 * B + k ≡ k = omega arith in e)
    ∙ get_or-append x (y ++ joined ys) 0 k (rw (f 0 (omega arith)) (l (omega arith)))
joined_at B (x ∷ xs) (suc j) k f h l =
    ap (λ (a : ℕ). get_or (x ++ joined xs) a 0)
    (let e : suc j * B + k ≡ length x + (j * B + k) = omega (arith, suc-mul j B, f 0 (omega arith)) in e)
    ∙ get_or-append-add x (joined xs) (j * B + k) 0
    ∙ joined_at B xs j k (λ i m. f (suc i) (omega arith)) (omega arith) (λ m. l (omega arith))

joined-length-of : (B : ℕ) (segs : List (List ℕ)) (j : ℕ) → ((i : ℕ) → suc i < length segs → length (get_or segs i []) ≡ B)
    → length segs ≡ suc j → length (joined segs) ≡ j * B + length (get_or segs j [])
unfolding joined
joined-length-of B [] j f e = omega arith
joined-length-of B (x ∷ []) zero f e = rw (append-nil x) (omega arith)
joined-length-of B (x ∷ (y ∷ ys)) zero f e = omega arith
joined-length-of B (x ∷ xs) (suc j) f e =
    rw (length-append x (joined xs))
    (omega (
      arith,
      suc-mul j B,
      f 0 (omega arith),
      joined-length-of B xs j (λ i m. f (suc i) (omega arith)) (omega arith),
    ))

joined-none : (segs : List (List ℕ)) → length segs ≡ 0 → length (joined segs) ≡ 0
unfolding joined
joined-none [] h = refl
joined-none (x ∷ xs) h = omega arith

-- the bytes of every segment, in segment order
pub record Segmented (N S : ℕ) (segs : List (List ℕ)) : Type 0 where
  pub some : 0 < S
  pub four : S % 4 ≡ 0
  pub count : length segs ≡ segment_count N S
  pub sizes : (j : ℕ) → j < segment_count N S → length (get_or segs j []) ≡ bytes_for (stack_count_in N S j)

module _ (N S : ℕ) (segs : List (List ℕ)) (whole : Segmented N S segs) where
  -- every segment but the last fills its bytes
  pub full-length : (j : ℕ) → suc j < length segs → length (get_or segs j []) ≡ S / 4
  unfolding bytes_for
  full-length j h =
      let l : suc j < segment_count N S = omega arith in
      whole.sizes j (omega arith)
      ∙ ap bytes_for (segment-full N S whole.some j l)
      ∙ omega arith

  -- place i of segment j is place j × S + i of the table, in the last segment past its stacks too
  pub joined-place : (j i : ℕ) → j < segment_count N S → (suc j < segment_count N S → i < S)
      → entry_at (joined segs) (j * S + i) ≡ entry_at (get_or segs j []) i
  unfolding entry_at
  joined-place j i h l =
      let e = four-mul j S whole.four in
      ap (λ (x : ℕ). digit (get_or (joined segs) x 0) ((j * S + i) % 4)) (let q : (j * S + i) / 4 ≡ j * (S / 4) + i / 4 = omega arith in q)
      ∙ ap (λ (x : ℕ). digit (get_or (joined segs) (j * (S / 4) + i / 4) 0) x) (let q : (j * S + i) % 4 ≡ i % 4 = omega arith in q)
      ∙ ap (λ (b : ℕ). digit b (i % 4))
      (joined_at (S / 4) segs j (i / 4) full-length (omega arith) (λ m. let t = l (omega arith) in omega (arith, whole.four)))

  pub joined-entry : (v : ℕ) → v < N → entry_at (joined segs) v ≡ entry_at (get_or segs (v / S) []) (v % S)
  joined-entry v h =
      ap (λ (x : ℕ). entry_at (joined segs) x) (sym (div-add-mod' v S))
      ∙ joined-place (v / S) (v % S) (stack-segment N S whole.some v h) (λ m. mod-lt v whole.some)

  pub joined_length : length (joined segs) ≡ bytes_for N
  unfolding bytes_for
  joined_length = go (eq-zero-or-pos N)
    where
      go : (N ≡ 0) ⊎ (0 < N) → length (joined segs) ≡ bytes_for N
      go (inl e) = joined-none segs (whole.count ∙ segments-none N S whole.some e) ∙ omega arith
      go (inr h) =
          let g = segment_count N S - 1 in
          let e : suc g ≡ segment_count N S = last-segment N S whole.some h in
          joined-length-of (S / 4) segs g full-length (whole.count ∙ sym e)
          ∙ ap (λ (w : ℕ). g * (S / 4) + w) (whole.sizes g (omega arith))
          ∙ sym (bytes-last N S whole.some g whole.four e)

  -- a spare entry of the last byte
  pub joined-spare : (i : ℕ) → 0 < N → N ≤ i
      → entry_at (joined segs) i ≡ entry_at (get_or segs (segment_count N S - 1) []) (i - (segment_count N S - 1) * S)
  joined-spare i h l =
      let g = segment_count N S - 1 in
      let e : suc g ≡ segment_count N S = last-segment N S whole.some h in
      ap (λ (x : ℕ). entry_at (joined segs) x)
      (let q : i ≡ g * S + (i - g * S) = omega (arith, segment-last N S whole.some g e) in q)
      ∙ joined-place g (i - g * S) (omega arith) (λ m. absurd (omega arith))

pub log_length : (C t w : ℕ) (log : List ℕ) → t * C + w ≤ length log → length (log_part C t w log) ≡ w
unfolding log_part
log_length C t w log h = simp (length-take, length-drop) (omega arith)

pub log-at : (C t w : ℕ) (log : List ℕ) (k : ℕ) → k < w → get_or (log_part C t w log) k 0 ≡ get_or log (t * C + k) 0
unfolding log_part
log-at C t w log k h = get_or-take w (drop (t * C) log) k 0 h ∙ get_or-drop (t * C) log k 0

-- only a segment's own stretch matters
pub log-same : (C t w : ℕ) (a b : List ℕ) → w ≤ C → take C (drop (t * C) a) ≡ take C (drop (t * C) b)
    → log_part C t w a ≡ log_part C t w b
unfolding log_part
log-same C t w a b h e =
    sym (take-take w C (drop (t * C) a) h) ∙ ap (λ (x : List ℕ). take w x) e ∙ take-take w C (drop (t * C) b) h

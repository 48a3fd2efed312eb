-- Laws of a whole table that is cut into segments: cutting and joining undo each other, and to replace a segment is to replace its
-- stretch of the table.
use mathlib.Core.Path.{◌≡◌, sym, ap, ◌∙◌}
use mathlib.Core.Logic.{◌⊎◌, inl, inr}
use mathlib.Core.List.{List, [], ◌∷◌, ◌++◌, map, append_assoc}
use Prim.Native.Nat.{ℕ, zero, suc, ◌+◌, ◌*◌, ◌/◌, ◌%◌, ◌≤◌, ◌<◌}
use native.Mathlib.Nat.{zero-add, zero-mul, suc-mul, not-suc-le-zero}
use native.Mathlib.Omega.{arith}
use lib.ListN.{length, get_or, set, take, drop, take-append-drop, length-take, length-drop, length-map, drop_of_length-le}
use lib.Seq.{take-append-add, drop-append_seam, drop-append-add, take_at, drop-drop, ext_get_or}
use Rattle.base.specs.Words.{from}
use Rattle.base.proofs.Lists.{from-length}
use Rattle.base.proofs.Tests.{lt-or-ge}
use Rattle.search.specs.Drive.{cut}
use Rattle.search.specs.Entries.{bytes_for}
use Rattle.search.specs.Segments.{segment_count, stack_count_in, joined}
use Rattle.search.proofs.SegmentLaws.{Segmented, full-length, four-mul, segment-starts, starts-segment, segment-full, stack_count_in-le, bytes-last}

-- ---- lists of one length B, but for the last

module _ (B : ℕ) where
  -- from the start of list j on
  joined-from : (segs : List (List ℕ)) (j : ℕ) → ((i : ℕ) → suc i < length segs → length (get_or segs i []) ≡ B)
      → j < length segs → drop (j * B) (joined segs) ≡ get_or segs j [] ++ joined (drop (suc j) segs)
  unfolding joined
  joined-from [] j f h = absurd (not-suc-le-zero h)
  joined-from (x ∷ xs) zero f h = rw zero-mul
  joined-from (x ∷ xs) (suc j) f h =
      ap (λ (a : ℕ). drop a (x ++ joined xs)) (let e : suc j * B ≡ length x + j * B = omega (arith, suc-mul j B, f 0 (omega arith)) in e)
      ∙ drop-append-add x (joined xs) (j * B)
      ∙ joined-from xs j (λ i m. f (suc i) (omega arith)) (omega arith)

  -- with another list for list j
  joined-set : (segs : List (List ℕ)) (j : ℕ) (new : List ℕ) → ((i : ℕ) → suc i < length segs → length (get_or segs i []) ≡ B)
      → j < length segs
      → joined (set segs j new) ≡ take (j * B) (joined segs) ++ (new ++ drop (j * B + length (get_or segs j [])) (joined segs))
  unfolding joined
  joined-set [] j new f h = absurd (not-suc-le-zero h)
  joined-set (x ∷ xs) zero new f h =
      rw zero-mul
      (ap (λ (l : List ℕ). new ++ l)
      (sym (ap (λ (a : ℕ). drop a (x ++ joined xs)) (let e : 0 + length x ≡ length x = omega arith in e) ∙ drop-append_seam x (joined xs))))
  joined-set (x ∷ xs) (suc j) new f h =
      let here : length x ≡ B = f 0 (omega arith) in
      let at : suc j * B ≡ length x + j * B = omega (arith, suc-mul j B) in
      let k = length (get_or xs j []) in
      ap (λ (l : List ℕ). x ++ l) (joined-set xs j new (λ i m. f (suc i) (omega arith)) (omega arith))
      ∙ sym (append_assoc x (take (j * B) (joined xs)) (new ++ drop (j * B + k) (joined xs)))
      ∙ ap (λ (l : List ℕ). l ++ (new ++ drop (j * B + k) (joined xs)))
      (sym (ap (λ (a : ℕ). take a (x ++ joined xs)) at ∙ take-append-add x (joined xs) (j * B)))
      ∙ ap (λ (l : List ℕ). take (suc j * B) (x ++ joined xs) ++ (new ++ l))
      (sym (ap (λ (a : ℕ). drop a (x ++ joined xs)) (let e : suc j * B + k ≡ length x + (j * B + k) = omega arith in e)
      ∙ drop-append-add x (joined xs) (j * B + k)))

-- stretches of a table, each of which ends where the next starts or past the table's end
joined-parts : (table : List ℕ) (B : ℕ) (m : ℕ → ℕ) (a n b : ℕ) → a + n ≡ b
    → ((i : ℕ) → i < b → drop (i * B + m i) table ≡ drop (suc i * B) table) → length table ≤ b * B
    → joined (map (λ j. take (m j) (drop (j * B) table)) (from a n)) ≡ drop (a * B) table
unfolding joined from
joined-parts table B m a zero b e f h =
    sym (drop_of_length-le table {i = a * B} (omega (arith, ap (λ (x : ℕ). x * B) (let q : a ≡ b = omega arith in q))))
joined-parts table B m a (suc n) b e f h =
    ap (λ (l : List ℕ). take (m a) (drop (a * B) table) ++ l)
    (joined-parts table B m (suc a) n b (omega arith) f h ∙ sym (f a (omega arith)) ∙ sym (drop-drop (m a) (a * B) table))
    ∙ take-append-drop (m a) (drop (a * B) table)

map-from-at : {A : Type 0} (f : ℕ → A) (a n i : ℕ) (d : A) → i < n → get_or (map f (from a n)) i d ≡ f (a + i)
unfolding from
map-from-at f a zero i d h = absurd (not-suc-le-zero h)
map-from-at f a (suc n) zero d h = ap f (let e : a ≡ a + 0 = omega arith in e)
map-from-at f a (suc n) (suc i) d h = map-from-at f (suc a) n i d (omega arith) ∙ ap f (let e : suc a + i ≡ a + suc i = omega arith in e)

-- ---- segments

module _ (N S : ℕ) (some : 0 < S) (four : S % 4 ≡ 0) where
  -- the bytes of segment j end where segment j + 1 starts, or at the end of the table
  segment-ends : (j : ℕ) → j < segment_count N S
      → (j * (S / 4) + bytes_for (stack_count_in N S j) ≡ suc j * (S / 4))
      ⊎ ((j * (S / 4) + bytes_for (stack_count_in N S j) ≡ bytes_for N) × (bytes_for N ≤ suc j * (S / 4)))
  unfolding bytes_for
  segment-ends j h = go (lt-or-ge (suc j) (segment_count N S))
    where
      go : (suc j < segment_count N S) ⊎ (segment_count N S ≤ suc j)
          → (j * (S / 4) + bytes_for (stack_count_in N S j) ≡ suc j * (S / 4))
          ⊎ ((j * (S / 4) + bytes_for (stack_count_in N S j) ≡ bytes_for N) × (bytes_for N ≤ suc j * (S / 4)))
      go (inl l) = inl (omega (arith, suc-mul j (S / 4), segment-full N S some j l))
      go (inr l) =
          inr (
            sym (bytes-last N S some j four (omega arith)),
            omega (arith, suc-mul j (S / 4), bytes-last N S some j four (omega arith), stack_count_in-le N S some j),
          )

  -- so they lie in the table, which ends with the last
  pub segment-within : (j : ℕ) → j < segment_count N S → j * (S / 4) + bytes_for (stack_count_in N S j) ≤ bytes_for N
  unfolding bytes_for stack_count_in
  segment-within j h = omega (arith, segment-starts N S some j h, four-mul j S four)

  table-ends : bytes_for N ≤ segment_count N S * (S / 4)
  unfolding bytes_for
  table-ends = go (lt-or-ge (segment_count N S * S) N)
    where
      go : (segment_count N S * S < N) ⊎ (N ≤ segment_count N S * S) → bytes_for N ≤ segment_count N S * (S / 4)
      go (inl l) = omega (arith, starts-segment N S some (segment_count N S) l)
      go (inr l) = omega (arith, four-mul (segment_count N S) S four)

  module _ (table : List ℕ) where
    pub cut_at : (j : ℕ) → j < segment_count N S → get_or (cut N S table) j [] ≡ take (bytes_for (stack_count_in N S j)) (drop (j * (S / 4)) table)
    unfolding cut
    cut_at j h =
        map-from-at (λ i. take (bytes_for (stack_count_in N S i)) (drop (i * (S / 4)) table)) 0 (segment_count N S) j [] h
        ∙ ap (λ (i : ℕ). take (bytes_for (stack_count_in N S i)) (drop (i * (S / 4)) table)) (zero-add j)

    pub cut-count : length (cut N S table) ≡ segment_count N S
    unfolding cut
    cut-count = length-map (from 0 (segment_count N S)) (λ j. take (bytes_for (stack_count_in N S j)) (drop (j * (S / 4)) table)) ∙ from-length 0 (segment_count N S)

  module _ (table : List ℕ) (long : length table ≡ bytes_for N) where
    pub cut-segmented : Segmented N S (cut N S table)
    cut-segmented =
        record {
          some = some;
          four = four;
          count = cut-count table;
          sizes = λ j h. ap length (cut_at table j h) ∙ simp (length-take, length-drop) (omega (arith, segment-within j h));
        }

    pub joined-cut : joined (cut N S table) ≡ table
    unfolding cut
    joined-cut =
        joined-parts table (S / 4) (λ j. bytes_for (stack_count_in N S j)) 0 (segment_count N S) (segment_count N S) (zero-add (segment_count N S))
        (λ j h. same j (segment-ends j h))
        (omega (arith, table-ends))
        ∙ ap (λ (a : ℕ). drop a table) (zero-mul (S / 4))
      where
        same : (j : ℕ) → (j * (S / 4) + bytes_for (stack_count_in N S j) ≡ suc j * (S / 4))
            ⊎ ((j * (S / 4) + bytes_for (stack_count_in N S j) ≡ bytes_for N) × (bytes_for N ≤ suc j * (S / 4)))
            → drop (j * (S / 4) + bytes_for (stack_count_in N S j)) table ≡ drop (suc j * (S / 4)) table
        same j (inl e) = ap (λ (a : ℕ). drop a table) e
        same j (inr e) =
            drop_of_length-le table {i = j * (S / 4) + bytes_for (stack_count_in N S j)} (omega arith)
            ∙ sym (drop_of_length-le table {i = suc j * (S / 4)} (omega arith))

    -- segment j replaced
    pub joined-replaced : (j : ℕ) (new : List ℕ) → j < segment_count N S
        → joined (set (cut N S table) j new)
        ≡ take (j * (S / 4)) table ++ (new ++ drop (j * (S / 4) + bytes_for (stack_count_in N S j)) table)
    joined-replaced j new h =
        joined-set (S / 4) (cut N S table) j new (full-length N S (cut N S table) cut-segmented) (omega (arith, cut-count table))
        ∙ ap (λ (l : List ℕ). take (j * (S / 4)) l ++ (new ++ drop (j * (S / 4) + length (get_or (cut N S table) j [])) l)) joined-cut
        ∙ ap (λ (k : ℕ). take (j * (S / 4)) table ++ (new ++ drop (j * (S / 4) + k) table)) (cut-segmented.sizes j h)

  -- what was cut before it was joined
  pub cut-joined : (segs : List (List ℕ)) → Segmented N S segs → cut N S (joined segs) ≡ segs
  cut-joined segs whole =
      ext_get_or [] (cut N S (joined segs)) segs (cut-count (joined segs) ∙ sym whole.count)
      (λ j l. let h : j < segment_count N S = omega (arith, cut-count (joined segs)) in
      cut_at (joined segs) j h
      ∙ ap (λ (l : List ℕ). take (bytes_for (stack_count_in N S j)) l) (joined-from (S / 4) segs j (full-length N S segs whole) (omega (arith, whole.count)))
      ∙ take_at (get_or segs j []) (joined (drop (suc j) segs)) (bytes_for (stack_count_in N S j)) (whole.sizes j h))

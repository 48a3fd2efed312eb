-- Rows of a frame's refusals as code goes through them, over the bytes of the line's characters; and what holds where nothing is refused.
use mathlib.Core.Path.{◌≡◌, refl, sym, ap, ap₂, ◌∙◌}
use mathlib.Core.Bool.{Bool, true, false}
use mathlib.Core.List.{List, [], map}
use Prim.Native.Nat.{ℕ, ◌+◌, ◌-◌, ◌≤◌, ◌<◌}
use native.Mathlib.Omega.{arith}
use lib.IntN.{ℤ, pos}
use lib.ListN.{length, take, drop, replicate, length-append, length-drop, length-map, length-replicate}
use lib.Seq.{take_all}
use borrow.Author.Tests.{le-leb, lt-leb, eq-eqb, ne_eqb}
use Rattle.base.specs.Words.{unless}
use Rattle.base.proofs.Rows.{check, equal, at_most, ◌and_then◌}
use Rattle.stacks.specs.Operations.{kind_refusal, stacked}
use Rattle.stacks.specs.Stack.{stack_places, is_kind, is_pane_count, is_stack, stack_count}
use Rattle.stacks.specs.Refusals.{number}
use Rattle.stacks.specs.declared.refusal.Refusal.{Refusal}
use Rattle.stacks.proofs.Numbers.{number-some}
use Rattle.stacks.proofs.Refusals.{kind_row}
use Rattle.search.specs.Segments.{is_segment_size}
use Rattle.text.specs.Frame.{frame_limit, stack_limit, is_frame, pane_of, places_of, kind_in, panes_in, wanted_in, size_in, fields_refusal, bytes_refusal, first_refusal, first_with, first_of, as_first, later_refusal, later_of}
use Rattle.text.specs.Hex.{bytes_of, number_of}
use Rattle.std.specs.Prelude.{Ok, Err}
use Rattle.text.specs.Kept.{text_of}
use Rattle.text.proofs.FrameLaws.{overlong-none}
use Rattle.text.proofs.LineLaws.{kept_of, kept-says}

-- ---- the fields of the first frame

module _ (kind n : ℕ) (bs : List ℕ) where
  pub fields-length : (length bs ≡ n + 6 → ⊥) → 16 ≡ fields_refusal kind n bs
  unfolding fields_refusal
  fields-length h = rw (ne_eqb (length bs) (n + 6) h)

  module _ (e : length bs ≡ n + 6) where
    pub fields-limit : stack_limit < stack_count kind n → 16 ≡ fields_refusal kind n bs
    unfolding fields_refusal
    fields-limit h = rw (eq-eqb (length bs) (n + 6) e, lt-leb (stack_count kind n) stack_limit h)

    -- the stack's and the size's tests decide
    pub fields-rest : stack_count kind n ≤ stack_limit → (s t : Bool) → s ≡ is_stack kind n (wanted_in n bs) → t ≡ is_segment_size (stack_count kind n) (size_in n bs)
        → unless s 3 (unless t 5 0) ≡ fields_refusal kind n bs
    unfolding fields_refusal
    fields-rest h s t p q = rw (eq-eqb (length bs) (n + 6) e, le-leb (stack_count kind n) stack_limit h, p, q)

    -- S is the last four of its bytes
    pub size-is : number_of (take 4 (drop (n + 2) bs)) ≡ size_in n bs
    unfolding size_in
    size-is = ap number_of (take_all 4 (drop (n + 2) bs) (omega (arith, length-drop (n + 2) bs)))

-- ---- the first frame

pub first-none : (cs : List ℕ) → is_frame cs ≡ false → 16 ≡ first_refusal cs
unfolding first_refusal
first-none cs h = rw h

module _ (cs : List ℕ) (f : is_frame cs ≡ true) where
  first-bytes : bytes_refusal (bytes_of cs) ≡ first_refusal cs
  unfolding first_refusal
  first-bytes = rw f

  pub first-few : length (bytes_of cs) < 2 → 16 ≡ first_refusal cs
  unfolding bytes_refusal
  first-few h = rw (← first-bytes, lt-leb 2 (length (bytes_of cs)) h)

  -- with two bytes, the kind and n decide first
  pub first-row : 2 ≤ length (bytes_of cs) → (let bs = bytes_of cs in
      kind_refusal (kind_in bs) (panes_in bs) (fields_refusal (kind_in bs) (panes_in bs) bs) ≡ first_refusal cs)
  unfolding bytes_refusal
  first-row h = rw (← first-bytes, le-leb 2 (length (bytes_of cs)) h)

-- what an accepted first frame has
pub record FirstPasses (cs : List ℕ) : Type 0 where
  pub frame : is_frame cs ≡ true
  pub two : 2 ≤ length (bytes_of cs)
  pub in-range : is_pane_count (kind_in (bytes_of cs)) (panes_in (bytes_of cs)) ≡ true
  pub long : length (bytes_of cs) ≡ panes_in (bytes_of cs) + 6
  pub is-kind : is_kind (kind_in (bytes_of cs)) ≡ true
  pub few : stack_count (kind_in (bytes_of cs)) (panes_in (bytes_of cs)) ≤ stack_limit
  pub stack : is_stack (kind_in (bytes_of cs)) (panes_in (bytes_of cs)) (wanted_in (panes_in (bytes_of cs)) (bytes_of cs)) ≡ true
  pub segments : is_segment_size (stack_count (kind_in (bytes_of cs)) (panes_in (bytes_of cs))) (size_in (panes_in (bytes_of cs)) (bytes_of cs)) ≡ true

pub first_passes : (cs : List ℕ) → first_refusal cs ≡ 0 → FirstPasses cs
unfolding first_refusal bytes_refusal fields_refusal
first_passes cs h =
    let bs = bytes_of cs in
    let kind = kind_in bs in
    let n = panes_in bs in
    let N = stack_count kind n in
    let f = (check (is_frame cs) 16 refl
    and_then at_most 2 (length bs) 16 refl
    and_then kind_row kind n
    and_then equal (length bs) (n + 6) 16 refl
    and_then at_most N stack_limit 16 refl
    and_then check (is_stack kind n (wanted_in n bs)) 3 refl
    and_then check (is_segment_size N (size_in n bs)) 5 refl).asks h in
    let fields = f.1.1.1 in
    record {
      frame = f.0;
      two = f.1.0;
      in-range = f.1.1.0.1;
      long = fields.0;
      is-kind = f.1.1.0.0;
      few = fields.1.0;
      stack = fields.1.1.0;
      segments = fields.1.1.1;
    }

-- the results that say so
module _ (q : ℕ) (bs : List ℕ) where
  pub no-first : (r : Refusal) → number r ≡ q → as_first (Err r) ≡ first_with q bs
  no-first r e = rw (← e, ne_eqb (number r) 0 (number-some r))

  pub a_first : 0 ≡ q → (k m : ℕ) (s : List ℤ) (z : ℕ) → k ≡ kind_in bs → m ≡ panes_in bs → s ≡ wanted_in (panes_in bs) bs → z ≡ size_in (panes_in bs) bs
      → as_first (Ok (record { kind = k; n = m; wanted = s; size = z })) ≡ first_with q bs
  a_first e k m s z f g i j = rw (← e, f, g, i, j)

-- ---- a later frame

pub later-none : (kind n : ℕ) (cs : List ℕ) → is_frame cs ≡ false → 16 ≡ later_refusal kind n cs
unfolding later_refusal
later-none kind n cs h = rw h

places-length : (bs : List ℕ) → length (places_of bs) ≡ length bs + (stack_places - length bs)
unfolding places_of
places-length bs =
    length-append (map pane_of bs) (replicate (stack_places - length bs) (pos 0))
    ∙ ap₂ (λ (a b : ℕ). a + b) (length-map bs pane_of) (length-replicate (stack_places - length bs) (pos 0))

module _ (kind n : ℕ) (cs : List ℕ) (f : is_frame cs ≡ true) where
  pub later-length-wrong : (length (bytes_of cs) ≡ n → ⊥) → 16 ≡ later_refusal kind n cs
  unfolding later_refusal
  later-length-wrong h = rw (f, ne_eqb (length (bytes_of cs)) n h)

  module _ (e : length (bytes_of cs) ≡ n) where
    pub later-many : stack_places < n → 3 ≡ later_refusal kind n cs
    unfolding later_refusal is_stack
    later-many h =
        let bs = bytes_of cs in
        rw (f, eq-eqb (length bs) n e, ne_eqb (length (places_of bs)) stack_places (omega (arith, places-length bs)))

    -- the stack's test decides
    pub later-rest : unless (is_stack kind n (places_of (bytes_of cs))) 3 0 ≡ later_refusal kind n cs
    unfolding later_refusal
    later-rest = rw (f, eq-eqb (length (bytes_of cs)) n e)

-- what an accepted later frame has
pub later-facts : (kind n : ℕ) (cs : List ℕ) → later_refusal kind n cs ≡ 0
    → (is_frame cs ≡ true) × ((length (bytes_of cs) ≡ n) × (is_stack kind n (places_of (bytes_of cs)) ≡ true))
unfolding later_refusal
later-facts kind n cs =
    (check (is_frame cs) 16 refl and_then equal (length (bytes_of cs)) n 16 refl and_then check (is_stack kind n (places_of (bytes_of cs))) 3 refl).asks

-- ---- an overlong line is refused, and so what is kept of any line is answered as the whole line is

overlong-first : (cs : List ℕ) → frame_limit < length cs → first_refusal cs ≡ 16
overlong-first cs h = sym (first-none cs (overlong-none cs h))

overlong-later : (kind n : ℕ) (cs : List ℕ) → frame_limit < length cs → later_refusal kind n cs ≡ 16
overlong-later kind n cs h = sym (later-none kind n cs (overlong-none cs h))

pub kept-first : (cs : List ℕ) → first_of (text_of (kept_of cs)) ≡ first_of cs
unfolding first_of
kept-first = kept-says first_of (first_with 16 []) (λ ds h. rw (overlong-first ds h))

pub kept-later : (kind n : ℕ) (cs : List ℕ) → later_of kind n (text_of (kept_of cs)) ≡ later_of kind n cs
unfolding later_of
kept-later kind n = kept-says (later_of kind n) (stacked 16 []) (λ ds h. rw (overlong-later kind n ds h))

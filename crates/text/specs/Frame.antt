-- Frames (document 01, "The report"): what a line of characters asks for, and its refusals in document 01's order.
--   is_frame cs          at most 64 characters, pairs of digits
--   pane_of b            the pane that a byte says: its number, with 80 hexadecimal added for coat down; 80 itself is no pane
--   places_of bs         the places of the panes from the top
--   first_of cs          the first frame: its refusal, or its kind, n, wanted stack and S; zeros stand beside a refusal
--   later_of kind n cs   a later frame: its refusal, or the stack to plan; zeros stand beside a refusal
-- There is no first frame where there is no line: that is the refusal of an empty one.
use Rattle.std.specs.Prelude.{Bool, ◌&&◌, cond, List, ◌++◌, map, ℕ, ◌+◌, ◌-◌, ◌/◌, ◌%◌, leb, eqb, ℤ, pos, length, get_or, take, drop, replicate, Result, Ok, Err}
use Rattle.base.specs.Words.{unless}
use Rattle.stacks.specs.Index.{pane_with}
use Rattle.stacks.specs.Operations.{kind_refusal, stacked}
use Rattle.stacks.specs.Refusals.{number}
use Rattle.stacks.specs.declared.refusal.Refusal.{Refusal}
use Rattle.stacks.specs.Stack.{stack_places, is_stack, stack_count}
use Rattle.stacks.specs.Answers.{Stacked}
use Rattle.search.specs.Segments.{is_segment_size}
use Rattle.text.specs.Hex.{is_pairs, bytes_of, number_of}
use Rattle.text.specs.declared.FirstFrame.{FirstFrame}

-- the limits, named once: the characters of a frame and its bytes, the most stacks that a report is made of, the bytes of their table, and C
abbrev pub frame_limit : ℕ
frame_limit = 64

abbrev pub frame_bytes : ℕ
frame_bytes = 32

abbrev pub stack_limit : ℕ
stack_limit = 46080

abbrev pub table_limit : ℕ
table_limit = 11520

abbrev pub report_room : ℕ
report_room = 16

unfoldable pub is_frame : List ℕ → Bool
is_frame cs = leb (length cs) frame_limit && is_pairs cs

unfoldable pub pane_of : ℕ → ℤ
pane_of b = pane_with (b % 128) (b / 128)

unfoldable pub places_of : List ℕ → List ℤ
places_of bs = map pane_of bs ++ replicate (stack_places - length bs) (pos 0)

-- the fields of the first frame's bytes: kind, n, n panes, S
unfoldable pub kind_in : List ℕ → ℕ
kind_in bs = get_or bs 0 0

unfoldable pub panes_in : List ℕ → ℕ
panes_in bs = get_or bs 1 0

unfoldable pub wanted_in : ℕ → List ℕ → List ℤ
wanted_in n bs = places_of (take n (drop 2 bs))

unfoldable pub size_in : ℕ → List ℕ → ℕ
size_in n bs = number_of (drop (n + 2) bs)

-- what follows 1 and 2
unfoldable pub fields_refusal : ℕ → ℕ → List ℕ → ℕ
fields_refusal kind n bs =
    unless (eqb (length bs) (n + 6)) 16
    (unless (leb (stack_count kind n) stack_limit) 16
    (unless (is_stack kind n (wanted_in n bs)) 3 (unless (is_segment_size (stack_count kind n) (size_in n bs)) 5 0)))

unfoldable pub bytes_refusal : List ℕ → ℕ
bytes_refusal bs =
    unless (leb 2 (length bs)) 16 (kind_refusal (kind_in bs) (panes_in bs) (fields_refusal (kind_in bs) (panes_in bs) bs))

unfoldable pub first_refusal : List ℕ → ℕ
first_refusal cs = unless (is_frame cs) 16 (bytes_refusal (bytes_of cs))

-- what the first frame says: zeros stand beside a refusal
pub record First : Type 0 where
  pub refusal : ℕ
  pub kind : ℕ
  pub n : ℕ
  pub wanted : List ℤ
  pub size : ℕ

-- the answer with a refusal's number, 0 for none, and the fields where there is none
abbrev pub first_with : ℕ → List ℕ → First
first_with r bs =
    record {
      refusal = r;
      kind = cond (eqb r 0) (kind_in bs) 0;
      n = cond (eqb r 0) (panes_in bs) 0;
      wanted = cond (eqb r 0) (wanted_in (panes_in bs) bs) (replicate stack_places (pos 0));
      size = cond (eqb r 0) (size_in (panes_in bs) bs) 0;
    }

unfoldable pub first_of : List ℕ → First
first_of cs = first_with (first_refusal cs) (bytes_of cs)

-- a result of the first frame as that answer
abbrev pub as_first : Result FirstFrame Refusal → First
as_first (Ok f) = record { refusal = 0; kind = f.kind; n = f.n; wanted = f.wanted; size = f.size }
as_first (Err r) = record { refusal = number r; kind = 0; n = 0; wanted = replicate stack_places (pos 0); size = 0 }

-- kind and n are those of the first frame
unfoldable pub later_refusal : ℕ → ℕ → List ℕ → ℕ
later_refusal kind n cs =
    unless (is_frame cs) 16
    (unless (eqb (length (bytes_of cs)) n) 16 (unless (is_stack kind n (places_of (bytes_of cs))) 3 0))

unfoldable pub later_of : ℕ → ℕ → List ℕ → Stacked
later_of kind n cs = stacked (later_refusal kind n cs) (places_of (bytes_of cs))

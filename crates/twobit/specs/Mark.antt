-- Marking, as the contracts of the leaves speak of it.
--   Marked     one entry: the bytes before and after, and whether it was unseen
--   found_in    what level d has found, by a job's counts
--   marks_of    a segment's bytes and what a level has found, as one value
--   AtMost     no count of what a level has found exceeds a bound
--   MarkFits   what marking a stack asks for
--   MarksStack what it leaves
use Rattle.std.specs.Prelude.{◌≡◌, Bool, cond, List, ℕ, ◌/◌, ◌%◌, ◌^◌, ◌<◌, ◌≤◌, eqb, length, get_or}
use Rattle.search.specs.Entries.{entry_at, set_entry, unseen}
use Rattle.search.specs.Marks.{Marks, mark_one}
use Rattle.search.specs.declared.Found.{Found}
use Rattle.search.specs.declared.Terms.{Terms}

-- entry i gets a label where it is unseen
pub record Marked (before : List ℕ) (i label : ℕ) (after : List ℕ) (fresh : Bool) : Type 0 where
  pub bytes : after ≡ cond (eqb (entry_at before i) unseen) (set_entry before i label) before
  pub new : fresh ≡ eqb (entry_at before i) unseen

abbrev pub found_in : List ℕ → ℕ → Found
found_in counts d = record { count = get_or counts d 0 }

abbrev pub marks_of : List ℕ → Found → Marks
marks_of segment found = record { segment = segment; found = found }

pub record AtMost (found : Found) (most : ℕ) : Type 0 where
  pub count : found.count ≤ most

-- a label, an entry that stands in the segment, and counts that stay within 64 bits
pub record MarkFits (segment : List ℕ) (offset label : ℕ) (found : Found) : Type 0 where
  pub below : label < 3
  pub inside : offset / 4 < length segment
  pub few : AtMost found (2 ^ 62)

-- the stack at an index is marked, by whichever terms give it that offset
abbrev pub MarksStack : List ℕ → ℕ → ℕ → ℕ → Found → List ℕ → Found → Type 0
MarksStack before index offset label found after found' =
    (terms : Terms) → index % terms.size ≡ offset → marks_of after found' ≡ mark_one terms label index (marks_of before found)

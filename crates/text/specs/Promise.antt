-- What we promise of a report (document 01, "The report"; document 02, F-6): its counts are the numbers of stacks at each distance, its total is
-- their sum and the number of entries other than 3, and its plans are shortest.
--   Answers     of a later frame that is not refused
--   Reports     of the whole text, where the first frame is not refused
-- kind, n and wanted are the first frame's; built is the table that its build leaves.
use Rattle.std.specs.Prelude.{◌≡◌, true, List, ◌∷◌, ◌++◌, ℕ, suc, ◌*◌, ◌≤◌, ◌<◌, ℤ, length, get_or}
use Rattle.base.specs.Words.{all, total}
use Rattle.stacks.specs.Counts.{CountsAt}
use Rattle.stacks.specs.Stack.{is_stack, stack_count}
use Rattle.stacks.specs.Turn.{Road, Fewest}
use Rattle.search.specs.Entries.{entry_at, seen_in}
use Rattle.text.specs.Frame.{places_of, later_refusal}
use Rattle.text.specs.Hex.{is_byte, bytes_of, number_of, four_bytes}
use Rattle.text.specs.Output.{level_lines, deepest_line, total_line, plan_line, refusal_line}
use Rattle.text.specs.Report.{later_text, later_texts}

-- the answer to a later frame is the line of a road to the wanted stack, and no road has fewer turns
pub record Answers (kind n : ℕ) (wanted : List ℤ) (table cs : List ℕ) : Type 0 where
  pub turns : List ℕ
  pub text : later_text kind n wanted table cs ≡ plan_line turns
  pub arrives : Road kind n turns (places_of (bytes_of cs)) wanted
  pub shortest : Fewest kind n (places_of (bytes_of cs)) wanted (length turns)
  -- the number of turns and each turn fit their byte, so that the line says them
  pub fit : all is_byte (length turns ∷ turns) ≡ true

-- the text of an accepted first frame and of the lines after it
pub record Reports (kind n : ℕ) (wanted : List ℤ) (built : List ℕ) (lines : List (List ℕ)) (text : List ℕ) : Type 0 where
  -- a line for each level from 0 to the deepest, ff and the deepest, fe and the total, and a line for each later frame, answered from the
  -- built table
  pub deepest : ℕ
  pub counts : List ℕ
  pub sum : ℕ
  pub text_is : text ≡ level_lines deepest counts ++ deepest_line deepest ++ total_line sum ++ later_texts kind n wanted built lines
  pub levels : length counts ≡ suc deepest
  -- each count is the number of stacks at exactly that many turns, and fits its four bytes; each level's number fits its byte, as the
  -- deepest does
  pub counted : (d : ℕ) → d ≤ deepest → CountsAt kind n wanted d (get_or counts d 0)
  pub whole : (d : ℕ) → d ≤ deepest → number_of (four_bytes (get_or counts d 0)) ≡ get_or counts d 0
  pub fit : deepest < 256
  -- the total is the sum of the printed counts; it is the number of table entries other than 3, those of the N stacks, as spare ones are 3; it
  -- fits its four bytes
  pub summed : sum ≡ total counts
  pub seen : sum ≡ seen_in built (stack_count kind n)
  pub spare : (i : ℕ) → stack_count kind n ≤ i → i < 4 * length built → entry_at built i ≡ 3
  pub sum_whole : number_of (four_bytes sum) ≡ sum
  -- the counts add up to the number of all stacks
  pub added : total counts ≡ stack_count kind n
  -- the deepest level is the greatest of all fewest turns
  pub reached : (s : List ℤ) × (is_stack kind n s ≡ true) × Fewest kind n s wanted deepest
  pub greatest : (s : List ℤ) (d : ℕ) → is_stack kind n s ≡ true → Fewest kind n s wanted d → d ≤ deepest
  -- a later frame prints its refusal, or a plan that is shortest
  pub refused : (cs : List ℕ) → (later_refusal kind n cs ≡ 0 → ⊥)
      → later_text kind n wanted built cs ≡ refusal_line (later_refusal kind n cs)
  pub planned : (cs : List ℕ) → later_refusal kind n cs ≡ 0 → Answers kind n wanted built cs

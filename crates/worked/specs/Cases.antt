-- The words of the worked cases: stacks written by their panes, and builds that take the segments in turn.
--   places     the panes of a list, top first, and unused places to twelve
--   start_of    Begin for the ordered stack by all turns with C = 16, and buffers that hold zeros
--   end_of      the world that such a build comes to after as many levels
--   whole      Build the whole table for the same, in buffers of these lengths
--   sweep_level the calls of a reverse level of two segments, with the way of the next
--   any_list    any list of a length, by the number at each place
--   too_long    a buffer that is lent with one number too many
--   refusals   what each call of a list answers, 0 where it is not refused
use Rattle.std.specs.Prelude.{List, [], ◌∷◌, ◌++◌, map, ℕ, zero, suc, ℤ, pos, neg_ℤ, take, replicate}
use Rattle.std.proofs.Common.{arith}
use Rattle.std.proofs.lemmas.List.{length-replicate}
use Rattle.base.specs.Words.{from}
use Rattle.stacks.specs.Stack.{stack_places, ordered}
use Rattle.search.specs.Begin.{begin_of}
use Rattle.search.specs.Build.{World, Lengths, Lent, Call, own, other, own_list, do_blank, do_expand, do_settle, do_load, do_sweep, do_close, outcome, after}
use Rattle.stacks.specs.Turn.{all_groups}
use Rattle.search.specs.Drive.{build_of}
use Rattle.search.specs.Promise.{right_bytes, right_words, right_lengths}
use Rattle.search.specs.Terms.{G, terms_of}
use Rattle.search.specs.Answers.{Answer}
use Rattle.search.specs.declared.Terms.{Terms}
use Rattle.search.specs.declared.Way.{Way}
use Rattle.search.specs.declared.Way.TheVariants.{Forward}

abbrev pub plain : ℕ
plain = 0

abbrev pub coated : ℕ
coated = 1

-- pane x with its coat up, and with its coat down
abbrev pub up : ℕ → ℤ
up x = pos x

abbrev pub down : ℕ → ℤ
down x = neg_ℤ (pos x)

abbrev pub places : List ℤ → List ℤ
places panes = take stack_places (panes ++ replicate stack_places (pos 0))

unfoldable pub any_list : (ℕ → ℕ) → ℕ → List ℕ
any_list number count = map number (from 0 count)

unfoldable pub too_long : {right : ℕ} → Lent right
too_long {right} = other (replicate (suc right) 0) (λ h. omega (arith, length-replicate {A = ℕ} (suc right) 0))

module _ {right : Lengths} where
  unfoldable pub refusals : World → List (Call right) → List ℕ
  refusals w [] = []
  refusals w (call ∷ calls) = (outcome w call).refusal ∷ refusals (outcome w call).world calls

  -- each of G segments is blanked, and the phase closed
  unfoldable pub blank_all : ℕ → List (Call right)
  blank_all G = map (λ j. do_blank j own) (from 0 G) ++ (do_close Forward ∷ [])

  -- each is expanded, then each log settled, and the level closed
  unfoldable pub search_level : ℕ → List (Call right)
  search_level G = map (λ j. do_expand j own own) (from 0 G) ++ (map (λ j. do_settle j own own) (from 0 G) ++ (do_close Forward ∷ []))

  unfoldable pub search_levels : ℕ → ℕ → List (Call right)
  search_levels G zero = []
  search_levels G (suc d) = search_level G ++ search_levels G d

  -- each is loaded, into a list of one byte, and each swept against it
  unfoldable pub sweep_level : Way → List (Call right)
  sweep_level way =
      do_load 0 own (0 ∷ [])
      ∷ do_sweep 0 own own_list
      ∷ do_sweep 1 own own_list
      ∷ do_load 1 own (0 ∷ [])
      ∷ do_sweep 0 own own_list
      ∷ do_sweep 1 own own_list
      ∷ do_close way
      ∷ []

module _ (kind n S : ℕ) where
  abbrev pub terms : Terms
  terms = terms_of kind n (ordered n) (all_groups kind n) S 16

  unfoldable pub start_of : World
  start_of =
      record {
        job = (begin_of terms).job;
        segments = map (λ j. replicate (right_bytes terms j) 0) (from 0 (G terms));
        log = replicate (right_words terms) 0;
        changed = [];
      }

  unfoldable pub end_of : ℕ → World
  end_of d = after {right = right_lengths terms} start_of (blank_all (G terms) ++ search_levels (G terms) d)

  unfoldable pub whole : ℕ → ℕ → ℕ → List ℕ × List ℕ × List ℕ × Answer
  whole bytes words listed = build_of terms (replicate bytes 0) (replicate words 0) (replicate listed 0)

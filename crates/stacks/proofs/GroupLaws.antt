-- Laws of the full set: it is one, and its turns are all turns. Each is one test, computed over every last turn and both first turns.
use mathlib.Core.Path.{◌≡◌, refl}
use mathlib.Core.Logic.{◌⊎◌, inl, inr}
use mathlib.Core.Bool.{Bool, true, not, ◌&&◌, ◌||◌}
use mathlib.Core.List.{List, map}
use Prim.Native.Nat.{ℕ, suc, ◌-◌, ◌^◌}
use native.Mathlib.Omega.{arith}
use lib.Dec.{leb, eqb}
use lib.ListN.{length}
use borrow.Author.Tests.{eqb-true}
use Rattle.base.specs.Words.{all, total, from}
use Rattle.base.proofs.Counting.{all-below}
use Rattle.base.proofs.Lists.{filter-all}
use Rattle.base.proofs.Tests.{and_left, and_right}
use Rattle.stacks.specs.Stack.{stack_places, is_pane_count}
use Rattle.stacks.specs.Turn.{first_turn, last_turn, is_turn, turns_of, lifts, group_places, is_group_set, turns_in, all_groups}
use Rattle.stacks.proofs.TurnLaws.{first-cases, last-places}

-- the turns from first f to last l, and the set that names them
abbrev between : ℕ → ℕ → List ℕ
between f l = from f (suc l - f)

abbrev naming : ℕ → ℕ → ℕ
naming f l = total (map (λ k. 2 ^ (k - 1)) (between f l))

-- it names each of them, it is a set of turns, and it is this number
abbrev names_each : ℕ → ℕ → Bool
names_each f l = all (lifts (naming f l)) (between f l)

abbrev names_turns : ℕ → ℕ → Bool
names_turns f l =
    all (λ k. not (lifts (naming f l) k) || (leb f k && leb k l)) (from 1 group_places)
    && (not (eqb (naming f l) 0) || eqb (length (between f l)) 0)

abbrev is_number : ℕ → ℕ → Bool
is_number f l = eqb (naming f l) (2 ^ l - 2 ^ (f - 1))

abbrev is_full : ℕ → ℕ → Bool
is_full f l = names_each f l && names_turns f l && is_number f l

full-from-1 : all (is_full 1) (from 0 (suc stack_places)) ≡ true
unfolding all lifts from total
full-from-1 = refl

full-from-2 : all (is_full 2) (from 0 (suc stack_places)) ≡ true
unfolding all lifts from total
full-from-2 = refl

module _ (kind n : ℕ) (in-range : is_pane_count kind n ≡ true) where
  abbrev last : ℕ
  last = last_turn kind n

  full : is_full (first_turn kind) last ≡ true
  full = go (first-cases kind)
    where
      go : (first_turn kind ≡ 1) ⊎ (first_turn kind ≡ 2) → is_full (first_turn kind) last ≡ true
      go (inl e) = rw e (all-below (is_full 1) (suc stack_places) last full-from-1 (omega (arith, last-places kind n in-range)))
      go (inr e) = rw e (all-below (is_full 2) (suc stack_places) last full-from-2 (omega (arith, last-places kind n in-range)))

  full-set : (names_each (first_turn kind) last && names_turns (first_turn kind) last) ≡ true
  full-set = and_left (names_each (first_turn kind) last && names_turns (first_turn kind) last) (is_number (first_turn kind) last) full

  pub all-groups : is_group_set kind n (all_groups kind n) ≡ true
  unfolding is_group_set all_groups turns_of is_turn
  all-groups = and_right (names_each (first_turn kind) last) (names_turns (first_turn kind) last) full-set

  pub all-turns-in : turns_in kind n (all_groups kind n) ≡ turns_of kind n
  unfolding turns_in all_groups turns_of
  all-turns-in =
      filter-all (lifts (naming (first_turn kind) last)) (between (first_turn kind) last)
      (and_left (names_each (first_turn kind) last) (names_turns (first_turn kind) last) full-set)

  pub all-groups-is : all_groups kind n ≡ 2 ^ last_turn kind n - 2 ^ (first_turn kind - 1)
  unfolding all_groups turns_of
  all-groups-is =
      eqb-true (naming (first_turn kind) last) (2 ^ last - 2 ^ (first_turn kind - 1))
      (and_right (names_each (first_turn kind) last && names_turns (first_turn kind) last) (is_number (first_turn kind) last) full)

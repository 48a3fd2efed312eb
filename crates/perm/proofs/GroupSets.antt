-- Sets of group sizes as the code reads them, size by size.
use mathlib.Core.Path.{◌≡◌, refl, sym, ap, ◌∙◌}
use mathlib.Core.Logic.{◌⊎◌, inl, inr}
use mathlib.Core.Bool.{Bool, true, false, not, ◌||◌, cond}
use mathlib.Core.List.{[], ◌∷◌}
use Prim.Native.Nat.{ℕ, zero, suc, ◌+◌, ◌-◌, ◌/◌, ◌%◌, ◌^◌, ◌≤◌, ◌<◌}
use native.Mathlib.Nat.{pow-suc, mod-lt, div-div-eq-div-mul}
use native.Mathlib.Numerals.{add-one}
use native.Mathlib.Omega.{arith}
use lib.Dec.{leb, eqb}
use lib.ListN.{length, get_or}
use borrow.Author.Tests.{le-leb, lt-leb, eq-eqb, ne_eqb}
use Rattle.base.specs.Words.{all, filter, from}
use Rattle.base.proofs.Counting.{all-at}
use Rattle.base.proofs.Lists.{from-length, get_or-from}
use Rattle.base.proofs.Tests.{and_left, not-is-false, never, lt-or-ge}
use Rattle.stacks.specs.Stack.{stack_places}
use Rattle.stacks.specs.Turn.{first_turn, last_turn, is_turn, turns_of, lifts, group_places, is_group_set}
use Rattle.stacks.proofs.TurnLaws.{turn-first, turn_last}

-- there is a turn where the first is no higher than the last
pub turns-some : (kind n : ℕ) → leb (first_turn kind) (last_turn kind n) ≡ not (eqb (length (turns_of kind n)) 0)
unfolding turns_of
turns-some kind n =
    go (lt-or-ge (last_turn kind n) (first_turn kind))
    ∙ ap (λ (m : ℕ). not (eqb m 0)) (sym (from-length (first_turn kind) (suc (last_turn kind n) - first_turn kind)))
  where
    go : (last_turn kind n < first_turn kind) ⊎ (first_turn kind ≤ last_turn kind n)
        → leb (first_turn kind) (last_turn kind n) ≡ not (eqb (suc (last_turn kind n) - first_turn kind) 0)
    go (inl h) =
        lt-leb (first_turn kind) (last_turn kind n) h ∙ sym (ap not (eq-eqb (suc (last_turn kind n) - first_turn kind) 0 (omega arith)))
    go (inr h) =
        le-leb (first_turn kind) (last_turn kind n) h ∙ sym (ap not (ne_eqb (suc (last_turn kind n) - first_turn kind) 0 (λ e. omega arith)))

-- ---- a set that is halved from size to size

-- half of what is left at k is left at k + 1
pub half-left : (groups k : ℕ) → 1 ≤ k → groups / 2 ^ (k - 1) / 2 ≡ groups / 2 ^ (k + 1 - 1)
half-left groups k h =
    let e : k + 1 - 1 ≡ suc (k - 1) = omega arith in
    div-div-eq-div-mul groups (2 ^ (k - 1)) 2 ∙ ap (λ (x : ℕ). groups / x) (sym (ap (λ (j : ℕ). 2 ^ j) e ∙ pow-suc 2 (k - 1)))

-- where nothing is left, nothing is left at the next size
none_left : (groups k : ℕ) → 1 ≤ k → groups / 2 ^ (k - 1) ≡ 0 → groups / 2 ^ (suc k - 1) ≡ 0
none_left groups k some none =
    ap (λ (j : ℕ). groups / 2 ^ (j - 1)) (sym (add-one k)) ∙ sym (half-left groups k some) ∙ ap (λ (x : ℕ). x / 2) none

-- so no size from k on is named
pub named_past : (groups k m : ℕ) → 1 ≤ k → groups / 2 ^ (k - 1) ≡ 0 → filter (lifts groups) (from k m) ≡ []
unfolding filter from lifts
named_past groups k zero some none = refl
named_past groups k (suc m) some none =
    ap (λ (x : ℕ). cond (eqb (x % 2) 1) (k ∷ filter (lifts groups) (from (suc k) m)) (filter (lifts groups) (from (suc k) m))) none
    ∙ named_past groups (suc k) m (omega arith) (none_left groups k some none)

unnamed-bit : (groups k : ℕ) → lifts groups k ≡ false → groups / 2 ^ (k - 1) % 2 ≡ 1 → ⊥
unfolding lifts
unnamed-bit groups k h b = never (eq-eqb (groups / 2 ^ (k - 1) % 2) 1 b) h

-- a set of turns has nothing left after the last: from its highest bit down, no size is named
unnamed-left : (groups last m : ℕ) → ((k : ℕ) → last < k → k ≤ last + m → lifts groups k ≡ false) → groups / 2 ^ (last + m) ≡ 0 → groups / 2 ^ last ≡ 0
unnamed-left groups last zero none e = ap (λ (j : ℕ). groups / 2 ^ j) (let q : last ≡ last + 0 = omega arith in q) ∙ e
unnamed-left groups last (suc m) none e =
    unnamed-left groups last m (λ k a b. none k a (omega arith)) (one (groups / 2 ^ (last + m)) half bit)
  where
    half : groups / 2 ^ (last + m) / 2 ≡ 0
    half =
        let q : last + m + 1 - 1 ≡ last + m = omega arith in
        ap (λ (j : ℕ). groups / 2 ^ j / 2) (sym q)
        ∙ half-left groups (last + m + 1) (omega arith)
        ∙ ap (λ (j : ℕ). groups / 2 ^ j) (let z : last + m + 1 + 1 - 1 ≡ last + suc m = omega arith in z)
        ∙ e

    bit : groups / 2 ^ (last + m) % 2 ≡ 1 → ⊥
    bit b =
        let q : last + suc m - 1 ≡ last + m = omega arith in
        unnamed-bit groups (last + suc m) (none (last + suc m) (omega arith) (omega arith)) (ap (λ (j : ℕ). groups / 2 ^ j % 2) q ∙ b)

    one : (x : ℕ) → x / 2 ≡ 0 → (x % 2 ≡ 1 → ⊥) → x ≡ 0
    one x h ne = omega (arith, h, mod-lt x {m = 2} (omega arith))

-- each size that a set of turns names is a turn
pub named-turn : (kind n groups k : ℕ) → is_group_set kind n groups ≡ true → 1 ≤ k → k ≤ group_places → lifts groups k ≡ true → is_turn kind n k ≡ true
unfolding is_group_set
named-turn kind n groups k h a b y =
    ap (λ (t : Bool). not t || is_turn kind n k) (sym y)
    ∙ ap fits (sym at)
    ∙ all-at fits (from 1 group_places) (k - 1) 0 named (omega (arith, from-length 1 group_places))
  where
    fits : ℕ → Bool
    fits k = not (lifts groups k) || is_turn kind n k

    named : all fits (from 1 group_places) ≡ true
    named = and_left (all fits (from 1 group_places)) (not (eqb groups 0) || eqb (length (turns_of kind n)) 0) h

    at : get_or (from 1 group_places) (k - 1) 0 ≡ k
    at = get_or-from 1 group_places (k - 1) 0 (omega arith) ∙ (let q : 1 + (k - 1) ≡ k = omega arith in q)

-- so none is named below the first, and nothing is left of the set after the last
pub unnamed-below : (kind n groups k : ℕ) → is_group_set kind n groups ≡ true → 1 ≤ k → k < first_turn kind → first_turn kind ≤ 2 → lifts groups k ≡ false
unnamed-below kind n groups k h a b l =
    not-is-false (lifts groups k) (λ y. omega (arith, turn-first kind n k (named-turn kind n groups k h a (omega arith) y)))

pub set-left : (kind n groups : ℕ) → last_turn kind n ≤ stack_places → is_group_set kind n groups ≡ true → groups < 4294967296
    → groups / 2 ^ last_turn kind n ≡ 0
set-left kind n groups low h small =
    unnamed-left groups last (group_places - last) unnamed
    (ap (λ (j : ℕ). groups / 2 ^ j) (let q : last + (group_places - last) ≡ group_places = omega arith in q) ∙ omega arith)
  where
    last : ℕ
    last = last_turn kind n

    unnamed : (k : ℕ) → last < k → k ≤ last + (group_places - last) → lifts groups k ≡ false
    unnamed k a b = not-is-false (lifts groups k) (λ y. omega (arith, turn_last kind n k (named-turn kind n groups k h (omega arith) (omega arith) y)))

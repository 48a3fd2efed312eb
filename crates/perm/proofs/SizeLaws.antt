-- The sizes that a set names, as the code takes them from it: the lowest bit first, which is cleared.
use mathlib.Core.Path.{◌≡◌, refl, sym, ap, ◌∙◌}
use mathlib.Core.Logic.{◌⊎◌, inl, inr}
use mathlib.Core.Bool.{Bool, true, false, not, ◌&&◌, ◌||◌, cond}
use mathlib.Core.List.{List, [], ◌∷◌, ◌++◌, append-nil}
use Prim.Native.Nat.{ℕ, zero, suc, ◌+◌, ◌-◌, ◌*◌, ◌/◌, ◌%◌, ◌^◌, ◌≤◌, ◌<◌}
use native.Mathlib.Nat.{pow-suc, div-one, div-div-eq-div-mul, mod-eq_of_lt}
use native.Mathlib.Omega.{arith}
use lib.Bits.{bit_and}
use lib.Count.{ones, ones_in, count_trailing_zeros}
use lib.Dec.{eqb}
use lib.ListN.{length}
use borrow.Author.Tests.{eq-eqb, ne_eqb}
use Rattle.base.specs.Words.{all, filter, from}
use Rattle.base.proofs.Lists.{filter-append, from-split}
use Rattle.base.proofs.Tests.{eq-or-ne, and_left, and_right}
use Rattle.ones.specs.Ones.{clear_lowest}
use Rattle.ones.proofs.Clearing.{and-clears}
use Rattle.ones.proofs.TableLaws.{ones-mod}
use Rattle.stacks.specs.Stack.{is_pane_count}
use Rattle.stacks.specs.Turn.{first_turn, last_turn, is_turn, turns_of, turns_in, lifts, group_places, is_group_set}
use Rattle.perm.specs.Sizes.{sizes_of}
use Rattle.stacks.proofs.TurnLaws.{first-cases, first_pos, first-last, last-places}
use Rattle.perm.proofs.GroupSets.{named_past, unnamed-below, set-left}

-- the sizes above a that m bits name, the lowest one first
bits_named : ℕ → ℕ → ℕ → List ℕ
bits_named zero a r = []
bits_named (suc m) a r = cond (eqb (r % 2) 1) (suc a ∷ bits_named m (suc a) (r / 2)) (bits_named m (suc a) (r / 2))

named-bits : (g m a : ℕ) → filter (lifts g) (from (suc a) m) ≡ bits_named m a (g / 2 ^ a)
unfolding filter from bits_named lifts
named-bits g zero a = refl
named-bits g (suc m) a =
    let half : g / 2 ^ a / 2 ≡ g / 2 ^ suc a = div-div-eq-div-mul g (2 ^ a) 2 ∙ ap (λ (x : ℕ). g / x) (sym (pow-suc 2 a)) in
    let here : g / 2 ^ (suc a - 1) % 2 ≡ g / 2 ^ a % 2 = ap (λ (j : ℕ). g / 2 ^ j % 2) (let e : suc a - 1 ≡ a = omega arith in e) in
    rw (here, half)
    (ap (λ (l : List ℕ). cond (eqb (g / 2 ^ a % 2) 1) (suc a ∷ l) l) (named-bits g m (suc a)))

-- the first size, and what is left when it is cleared
first-bit : (m a r : ℕ) → r < 2 ^ m → 0 < r → bits_named m a r ≡ suc (a + count_trailing_zeros m r) ∷ bits_named m a (clear_lowest m r)
unfolding clear_lowest count_trailing_zeros bits_named
first-bit zero a r h p = absurd (omega arith)
first-bit (suc m) a r h p = go (first-bit m (suc a) (r / 2) (omega (arith, pow-suc 2 m))) (eq-or-ne (r % 2) 1)
  where
    go : (0 < r / 2 → bits_named m (suc a) (r / 2) ≡ suc (suc a + count_trailing_zeros m (r / 2)) ∷ bits_named m (suc a) (clear_lowest m (r / 2)))
        → (r % 2 ≡ 1) ⊎ (r % 2 ≡ 1 → ⊥)
        → bits_named (suc m) a r ≡ suc (a + count_trailing_zeros (suc m) r) ∷ bits_named (suc m) a (clear_lowest (suc m) r)
    go rest (inl e) =
        let even : (r - 1) % 2 ≡ 0 = omega arith in
        let half : (r - 1) / 2 ≡ r / 2 = omega arith in
        rw (e, even, half) (ap (λ (x : ℕ). suc x ∷ bits_named m (suc a) (r / 2)) (let z : a ≡ a + 0 = omega arith in z))
    go rest (inr d) =
        let e : r % 2 ≡ 0 = omega arith in
        let c = clear_lowest m (r / 2) in
        let even : 2 * c % 2 ≡ 0 = omega arith in
        let half : 2 * c / 2 ≡ c = omega arith in
        let next : suc a + count_trailing_zeros m (r / 2) ≡ a + suc (count_trailing_zeros m (r / 2)) = omega arith in
        rw (e, even, half) (rest (omega arith) ∙ ap (λ (x : ℕ). suc x ∷ bits_named m (suc a) c) next)

bits-count : (m a r : ℕ) → length (bits_named m a r) ≡ ones_in m r
unfolding ones_in bits_named
bits-count zero a r = refl
bits-count (suc m) a r = go (eq-or-ne (r % 2) 1) (bits-count m (suc a) (r / 2))
  where
    go : (r % 2 ≡ 1) ⊎ (r % 2 ≡ 1 → ⊥) → length (bits_named m (suc a) (r / 2)) ≡ ones_in m (r / 2) → length (bits_named (suc m) a r) ≡ ones_in (suc m) r
    go (inl e) h = rw (eq-eqb (r % 2) 1 e) (omega arith)
    go (inr d) h = rw (ne_eqb (r % 2) 1 d) (omega arith)

sizes-are : (r : ℕ) → sizes_of r ≡ bits_named 32 0 r
unfolding sizes_of
sizes-are r = named-bits r 32 0 ∙ ap (bits_named 32 0) (div-one r)

pub sizes-none : sizes_of 0 ≡ []
unfolding sizes_of
sizes-none = named_past 0 1 group_places (omega arith) refl

pub sizes-first : (r : ℕ) → 0 < r → r < 2 ^ 32 → sizes_of r ≡ (count_trailing_zeros 32 r + 1) ∷ sizes_of (bit_and r (r - 1))
sizes-first r p h =
    let next : suc (0 + count_trailing_zeros 32 r) ≡ count_trailing_zeros 32 r + 1 = omega arith in
    rw (sizes-are r, sizes-are (bit_and r (r - 1)), and-clears 32 r h p, ← next) (first-bit 32 0 r h p)

pub sizes-count : (r : ℕ) → r < 2 ^ 32 → length (sizes_of r) ≡ ones r
sizes-count r h = ap length (sizes-are r) ∙ bits-count 32 0 r ∙ sym (ones-mod 32 r) ∙ ap ones (mod-eq_of_lt h)

-- the test of each size that a set names
all-named : (t p : ℕ → Bool) (xs : List ℕ) → all t (filter p xs) ≡ all (λ k. not (p k) || t k) xs
unfolding all filter
all-named t p [] = refl
all-named t p (x ∷ xs) = go (p x) (all-named t p xs)
  where
    go : (b : Bool) → all t (filter p xs) ≡ all (λ k. not (p k) || t k) xs
        → all t (cond b (x ∷ filter p xs) (filter p xs)) ≡ ((not b || t x) && all (λ k. not (p k) || t k) xs)
    go true e = ap (λ (b : Bool). t x && b) e
    go false e = e

pub sizes-all : (t : ℕ → Bool) (r : ℕ) → all t (sizes_of r) ≡ all (λ k. not (lifts r k) || t k) (from 1 group_places)
unfolding sizes_of
sizes-all t r = all-named t (lifts r) (from 1 group_places)

-- a set of turns names turns alone
none-below : (kind n groups : ℕ) → is_group_set kind n groups ≡ true → filter (lifts groups) (from 1 (first_turn kind - 1)) ≡ []
unfolding filter from
none-below kind n groups set = go (first-cases kind)
  where
    go : (first_turn kind ≡ 1) ⊎ (first_turn kind ≡ 2) → filter (lifts groups) (from 1 (first_turn kind - 1)) ≡ []
    go (inl e) = rw e refl
    go (inr e) =
        let none : lifts groups 1 ≡ false = unnamed-below kind n groups 1 set (omega arith) (omega arith) (omega arith) in
        rw (e, none) refl

pub sizes-turns : (kind n groups : ℕ) → is_pane_count kind n ≡ true → is_group_set kind n groups ≡ true → groups < 2 ^ 32 → sizes_of groups ≡ turns_in kind n groups
unfolding sizes_of turns_in turns_of
sizes-turns kind n groups count set small = go (first_pos kind) (first-last kind n count) (last-places kind n count)
  where
    first : ℕ
    first = first_turn kind

    last : ℕ
    last = last_turn kind n

    go : 1 ≤ first_turn kind → first_turn kind ≤ last_turn kind n + 1 → last_turn kind n ≤ 12
        → filter (lifts groups) (from 1 group_places) ≡ filter (lifts groups) (from (first_turn kind) (suc (last_turn kind n) - first_turn kind))
    go a b c =
        let many : ℕ = suc last - first in
        let split : group_places ≡ (first - 1) + (many + (group_places - last)) = omega arith in
        let here : 1 + (first - 1) ≡ first = omega arith in
        let past : first + many ≡ last + 1 = omega arith in
        let left : groups / 2 ^ (last + 1 - 1) ≡ 0 =
        ap (λ (j : ℕ). groups / 2 ^ j) (let e : last + 1 - 1 ≡ last = omega arith in e) ∙ set-left kind n groups c set small in
        ap (λ (m : ℕ). filter (lifts groups) (from 1 m)) split
        ∙ ap (filter (lifts groups)) (from-split 1 (first - 1) (many + (group_places - last)))
        ∙ filter-append (lifts groups) (from 1 (first - 1)) (from (1 + (first - 1)) (many + (group_places - last)))
        ∙ ap (λ (l : List ℕ). l ++ filter (lifts groups) (from (1 + (first - 1)) (many + (group_places - last)))) (none-below kind n groups set)
        ∙ ap (λ (f : ℕ). filter (lifts groups) (from f (many + (group_places - last)))) here
        ∙ ap (filter (lifts groups)) (from-split first many (group_places - last))
        ∙ filter-append (lifts groups) (from first many) (from (first + many) (group_places - last))
        ∙ ap (λ (f : ℕ). filter (lifts groups) (from first many) ++ filter (lifts groups) (from f (group_places - last))) past
        ∙ ap (λ (l : List ℕ). filter (lifts groups) (from first many) ++ l) (named_past groups (last + 1) (group_places - last) (omega arith) left)
        ∙ append-nil (filter (lifts groups) (from first many))

-- so each is a turn, and those behind the first are
pub sizes-are-turns : (kind n groups : ℕ) → is_group_set kind n groups ≡ true → all (is_turn kind n) (sizes_of groups) ≡ true
unfolding is_group_set
sizes-are-turns kind n groups set =
    sizes-all (is_turn kind n) groups
    ∙ and_left (all (λ k. not (lifts groups k) || is_turn kind n k) (from 1 group_places)) (not (eqb groups 0) || eqb (length (turns_of kind n)) 0) set

pub turns-next : (kind n k : ℕ) (ks later : List ℕ) → ks ≡ k ∷ later → all (is_turn kind n) ks ≡ true
    → (is_turn kind n k ≡ true) × (all (is_turn kind n) later ≡ true)
unfolding all
turns-next kind n k ks later e h =
    let f : (is_turn kind n k && all (is_turn kind n) later) ≡ true = rw e at h in
    (and_left (is_turn kind n k) (all (is_turn kind n) later) f, and_right (is_turn kind n k) (all (is_turn kind n) later) f)

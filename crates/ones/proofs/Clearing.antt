-- The second reading: clearing the lowest one takes one from the number of ones, so that it agrees with the table at each set.
use mathlib.Core.Path.{◌≡◌, sym, ap, ap₂, ◌∙◌}
use mathlib.Core.Logic.{◌⊎◌, inl, inr}
use Prim.Native.Nat.{ℕ, zero, suc, ◌+◌, ◌-◌, ◌*◌, ◌/◌, ◌%◌, ◌^◌, ◌≤◌, ◌<◌, min}
use native.Mathlib.Nat.{le_refl, pow-suc}
use native.Mathlib.Omega.{arith}
use lib.Bits.{bit_and, and_step, and_self, and_le_l}
use lib.Count.{ones, ones_step, ones-le}
use lib.ListN.{get_or}
use borrow.Author.Tests.{eq-eqb, ne_eqb}
use Rattle.base.proofs.Tests.{eq-or-ne}
use Rattle.ones.specs.Ones.{set_places, set_count, ones_table, clear_lowest, clearings_in, clearings}
use Rattle.ones.proofs.TableLaws.{table-ones}

-- the lowest one of s is the first bit, or it is among the others
odd-clears : (k s : ℕ) → s % 2 ≡ 1 → clear_lowest (suc k) s ≡ s - 1
unfolding clear_lowest
odd-clears k s e = rw (eq-eqb (s % 2) 1 e)

even-clears : (k s : ℕ) → (s % 2 ≡ 1 → ⊥) → clear_lowest (suc k) s ≡ 2 * clear_lowest k (s / 2)
unfolding clear_lowest
even-clears k s d = rw (ne_eqb (s % 2) 1 d)

-- what `s & (s - 1)` is, bit by bit
odd-and : (s : ℕ) → s % 2 ≡ 1 → bit_and s (s - 1) ≡ s - 1
odd-and s e =
    let half : (s - 1) / 2 ≡ s / 2 = omega arith in
    let low : min (s % 2) ((s - 1) % 2) ≡ 0 = omega arith in
    and_step s (s - 1) ∙ ap₂ (λ (x y : ℕ). x * 2 + y) (ap (bit_and (s / 2)) half ∙ and_self (s / 2)) low ∙ omega arith

even-and : (s : ℕ) → s % 2 ≡ 0 → 0 < s → bit_and s (s - 1) ≡ 2 * bit_and (s / 2) (s / 2 - 1)
even-and s e p =
    let half : (s - 1) / 2 ≡ s / 2 - 1 = omega arith in
    let low : min (s % 2) ((s - 1) % 2) ≡ 0 = omega arith in
    and_step s (s - 1) ∙ ap₂ (λ (x y : ℕ). x * 2 + y) (ap (bit_and (s / 2)) half) low ∙ omega arith

-- it is s without its lowest one
pub and-clears : (k s : ℕ) → s < 2 ^ k → 0 < s → bit_and s (s - 1) ≡ clear_lowest k s
and-clears zero s h p = absurd (omega arith)
and-clears (suc k) s h p = go (and-clears k (s / 2) (omega (arith, pow-suc 2 k))) (eq-or-ne (s % 2) 1)
  where
    go : (0 < s / 2 → bit_and (s / 2) (s / 2 - 1) ≡ clear_lowest k (s / 2)) → (s % 2 ≡ 1) ⊎ (s % 2 ≡ 1 → ⊥)
        → bit_and s (s - 1) ≡ clear_lowest (suc k) s
    go half (inl e) = odd-and s e ∙ sym (odd-clears k s e)
    go half (inr d) = even-and s (omega arith) p ∙ ap (λ (x : ℕ). 2 * x) (half (omega arith)) ∙ sym (even-clears k s d)

-- and has one one less
fewer : (k s : ℕ) → s ≤ k → 0 < s → ones (bit_and s (s - 1)) + 1 ≡ ones s
fewer zero s h p = absurd (omega arith)
fewer (suc k) s h p = go (fewer k (s / 2) (omega arith)) (eq-or-ne (s % 2) 1)
  where
    go : (0 < s / 2 → ones (bit_and (s / 2) (s / 2 - 1)) + 1 ≡ ones (s / 2)) → (s % 2 ≡ 1) ⊎ (s % 2 ≡ 1 → ⊥) → ones (bit_and s (s - 1)) + 1 ≡ ones s
    go half (inl e) = omega (arith, ap ones (odd-and s e), ones_step (s - 1), ap ones (let q : (s - 1) / 2 ≡ s / 2 = omega arith in q), ones_step s)
    go half (inr d) =
        let c : ℕ = bit_and (s / 2) (s / 2 - 1) in
        omega (
          arith,
          ap ones (even-and s (omega arith) p),
          ones_step (2 * c),
          ap ones (let q : 2 * c / 2 ≡ c = omega arith in q),
          ones_step s,
          half (omega arith),
        )

pub clear-ones : (s : ℕ) → 0 < s → ones (bit_and s (s - 1)) + 1 ≡ ones s
clear-ones s p = fewer s s (le_refl s) p

-- so the lowest one can be cleared as often as there are ones
clearings-count : (j s : ℕ) → s < set_count → ones s ≤ j → clearings_in j s ≡ ones s
unfolding clearings_in ones
clearings-count zero s h l = omega arith
clearings-count (suc j) s h l =
    go (clearings-count j (bit_and s (s - 1)) (omega (arith, and_le_l s (s - 1)))) (eq-or-ne s 0)
  where
    go : (ones (bit_and s (s - 1)) ≤ j → clearings_in j (bit_and s (s - 1)) ≡ ones (bit_and s (s - 1))) → (s ≡ 0) ⊎ (s ≡ 0 → ⊥)
        → clearings_in (suc j) s ≡ ones s
    go rest (inl e) = rw (eq-eqb s 0 e, e)
    go rest (inr d) =
        let next = clear-ones s (omega arith) in
        rw (ne_eqb s 0 d, ← and-clears set_places s h (omega arith)) (ap suc (rest (omega arith)) ∙ omega arith)

pub clearings-ones : (s : ℕ) → s < set_count → clearings s ≡ ones s
unfolding clearings
clearings-ones s h = clearings-count set_places s h (ones-le set_places s h)

-- the two readings agree at each set
pub clearings-agree : (s : ℕ) → s < set_count → clearings s ≡ get_or ones_table s 0
clearings-agree s h = clearings-ones s h ∙ sym (table-ones s h)

-- A set of panes as bits. The bit of weight 2^i stands for pane i + 1; `Holds s M` says that s is the set of the panes of list M.
use mathlib.Core.Path.{◌≡◌, refl, sym, ap, ◌∙◌}
use mathlib.Core.Logic.{◌⊎◌, inl, inr}
use mathlib.Core.List.{List, [], ◌∷◌}
use Prim.Native.Nat.{ℕ, zero, suc, ◌+◌, ◌-◌, ◌*◌, ◌/◌, ◌%◌, ◌^◌, ◌≤◌, ◌<◌, min}
use native.Mathlib.Nat.{mod-eq_of_lt, one-mul, lt_of_le_of_lt, suc_inj}
use native.Mathlib.Numerals.{add-one}
use native.Mathlib.Omega.{arith}
use lib.Count.{ones, ones_in}
use lib.Dec.{eqb, lit<}
use lib.Pow.{pow_mono}
use borrow.Author.Tests.{eq-eqb, ne_eqb}
use lib.ListN.{length, get_or}
use Rattle.base.specs.Words.{tally, from, without, bit}
use Rattle.base.proofs.Bits.{bit-zero, bit-le-one, put_same, put_other, take_same, take-other, full-in, full-out}
use Rattle.base.proofs.Counting.{tally-true, tally-false, tally-without}
use Rattle.base.proofs.Tests.{lt-or-ge, eq-or-ne}
use Rattle.ones.proofs.TableLaws.{ones-mod}
use Rattle.stacks.specs.Index.{smaller}
use Rattle.stacks.proofs.Panes.{smaller-suc, smaller-zero, smaller-from}

-- a set of at most twelve panes
pub pow-twelve : (n : ℕ) → n ≤ 12 → 2 ^ n ≤ 4096
pow-twelve n h = pow_mono h

-- its bit, as the machine shifts it
pub shifted : (x : ℕ) → x ≤ 12 → (1 * 2 ^ x) % 4294967296 ≡ 2 ^ x
shifted x h = ap (λ (y : ℕ). y % 4294967296) (one-mul (2 ^ x)) ∙ mod-eq_of_lt (lt_of_le_of_lt (pow_mono h) (lit< tt))

-- the ones below a bit

pub ones_in-top : (k s : ℕ) → ones_in (suc k) s ≡ ones_in k s + bit s k
unfolding ones_in bit
ones_in-top zero s = omega arith
ones_in-top (suc k) s = let r = ones_in-top k (s / 2) in omega arith

pub ones-up : (s k : ℕ) → ones (s % 2 ^ (k + 1)) ≡ ones (s % 2 ^ k) + bit s k
ones-up s k =
    ap (λ (x : ℕ). ones (s % 2 ^ x)) (add-one k) ∙ ones-mod (suc k) s ∙ ones_in-top k s ∙ ap (λ (x : ℕ). x + bit s k) (sym (ones-mod k s))

-- j places further stand no fewer ones, and at most j more
pub ones-further : (s v j : ℕ) → (ones (s % 2 ^ v) ≤ ones (s % 2 ^ (v + j))) × (ones (s % 2 ^ (v + j)) ≤ ones (s % 2 ^ v) + j)
ones-further s v zero = let e : v + 0 ≡ v = omega arith in rw e (omega arith, omega arith)
ones-further s v (suc j) =
    let e : v + suc j ≡ v + j + 1 = omega arith in
    let up = ones-up s (v + j) in
    let one = bit-le-one s (v + j) in
    let r = ones-further s v j in
    rw e (omega (arith, r.0), omega (arith, r.1))

-- s is the set of the panes of M
unfoldable pub Holds : ℕ → List ℕ → Type 0
Holds s M = (i : ℕ) → bit s i ≡ tally (eqb (suc i)) M

pub holds-none : Holds 0 []
unfolding Holds tally
holds-none i = bit-zero i

-- the ones below a bit are the smaller panes
pub holds-ones : (s : ℕ) (M : List ℕ) → Holds s M → tally (eqb 0) M ≡ 0 → (k : ℕ) → ones (s % 2 ^ k) ≡ smaller (suc k) M
unfolding Holds ones_in
holds-ones s M h z k = ones-mod k s ∙ go k
  where
    go : (k : ℕ) → ones_in k s ≡ smaller (suc k) M
    go zero = sym (smaller-suc 0 M ∙ omega (arith, smaller-zero M))
    go (suc k) = ones_in-top k s ∙ omega (arith, go k, h k, smaller-suc (suc k) M)

pub holds-put : (s : ℕ) (M : List ℕ) (y : ℕ) → Holds s M → tally (eqb (suc y)) M ≡ 0 → Holds (s + 2 ^ y) (suc y ∷ M)
unfolding Holds
holds-put s M y h z i = go (eq-or-ne i y)
  where
    free : bit s y ≡ 0
    free = h y ∙ z

    go : (i ≡ y) ⊎ (i ≡ y → ⊥) → bit (s + 2 ^ y) i ≡ tally (eqb (suc i)) (suc y ∷ M)
    go (inl e) = rw e (put_same s y free ∙ sym (tally-true (eqb (suc y)) (suc y) M (eq-eqb (suc y) (suc y) refl) ∙ ap suc z))
    go (inr d) =
        put_other s y i free d ∙ h i ∙ sym (tally-false (eqb (suc i)) (suc y) M (ne_eqb (suc i) (suc y) (λ e. d (suc_inj e))))

pub holds-take : (s : ℕ) (F : List ℕ) (d y : ℕ) → Holds s F → d < length F → get_or F d 0 ≡ suc y → bit s y ≡ 1 → Holds (s - 2 ^ y) (without d F)
unfolding Holds
holds-take s F d y h l e b i = go (eq-or-ne i y)
  where
    whole : tally (eqb (suc i)) (suc y ∷ without d F) ≡ tally (eqb (suc i)) F
    whole = ap (λ (x : ℕ). tally (eqb (suc i)) (x ∷ without d F)) (sym e) ∙ tally-without (eqb (suc i)) F d 0 l

    go : (i ≡ y) ⊎ (i ≡ y → ⊥) → bit (s - 2 ^ y) i ≡ tally (eqb (suc i)) (without d F)
    go (inl q) =
        ap (λ (x : ℕ). bit (s - 2 ^ y) x) q ∙ take_same s y b
        ∙ suc_inj (sym b ∙ ap (bit s) (sym q) ∙ h i ∙ sym whole ∙ tally-true (eqb (suc i)) (suc y) (without d F) (eq-eqb (suc i) (suc y) (ap suc q)))
    go (inr q) =
        take-other s y i b q ∙ h i ∙ sym whole
        ∙ tally-false (eqb (suc i)) (suc y) (without d F) (ne_eqb (suc i) (suc y) (λ x. q (suc_inj x)))

pub holds-full : (n : ℕ) → Holds (2 ^ n - 1) (from 1 n)
unfolding Holds
holds-full n i = go (lt-or-ge i n)
  where
    count : tally (eqb (suc i)) (from 1 n) ≡ min (suc (suc i) - 1) n - min (suc i - 1) n
    count = omega (arith, smaller-suc (suc i) (from 1 n), smaller-from (suc i) 1 n, smaller-from (suc (suc i)) 1 n)

    go : (i < n) ⊎ (n ≤ i) → bit (2 ^ n - 1) i ≡ tally (eqb (suc i)) (from 1 n)
    go (inl l) = full-in n i l ∙ sym (count ∙ omega arith)
    go (inr l) = full-out n i l ∙ sym (count ∙ omega arith)

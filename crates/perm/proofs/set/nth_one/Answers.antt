-- `perm::set::nth_one` meets its contract. The loop's invariant: at most d ones stand below v, and more up to v, if a place above it was asked.
use mathlib.Core.Logic.{◌⊎◌, inl, inr}
use mathlib.Core.Path.{◌≡◌, sym, subst}
use Prim.Native.Nat.{ℕ, ◌+◌, ◌-◌, ◌%◌, ◌^◌, ◌≤◌, ◌<◌}
use native.Mathlib.Nat.{mod-lt}
use native.Mathlib.Omega.{arith}
use lib.Count.{ones, ones-le}
use lib.Pow.{pow_pos}
use Rattle.perm.specs.Set.{NthOne}
use Rattle.base.proofs.Bits.{bit-le-one}
use Rattle.base.proofs.Tests.{lt-or-ge}
use Rattle.perm.proofs.Sets.{ones-up, ones-further}
use Rattle.perm.proofs.set.nth_one.Invariants.{Asked}
use Rattle.perm.proofs.set.nth_one.Goals.{then-ones_below-d, else-ones_below-d}
use Rattle.perm.proofs.set.nth_one.Goals as goal

asked-none : (s d : ℕ) → Asked s d d (d + 1)
asked-none s d = record { inside = omega arith; low = ones-le d (s % 2 ^ d) (mod-lt s (pow_pos d)); high = λ h. absurd (omega arith) }

-- up to x stand at most d ones: then they did up to v, which was the last
asked_low : (s d v x : ℕ) → Asked s d v x → ones (s % 2 ^ x) ≤ d → Asked s d (v + 1) (x + 1)
asked_low s d v x a h = go (lt-or-ge (v + 1) x)
  where
    go : (v + 1 < x) ⊎ (x ≤ v + 1) → Asked s d (v + 1) (x + 1)
    go (inl l) =
        let e : v + 1 + (x - (v + 1)) ≡ x = omega arith in
        absurd (omega (arith, a.high l, rw e at (ones-further s (v + 1) (x - (v + 1))).0))
    go (inr l) =
        let e : v + 1 ≡ x = omega (arith, a.inside) in
        record { inside = omega arith; low = rw e h; high = λ k. absurd (omega arith) }

-- up to x stand more
asked-high : (s d v x : ℕ) → Asked s d v x → d < ones (s % 2 ^ x) → Asked s d v (x + 1)
asked-high s d v x a h = record { inside = omega (arith, a.inside); low = a.low; high = λ k. go (lt-or-ge (v + 1) x) }
  where
    go : (v + 1 < x) ⊎ (x ≤ v + 1) → d < ones (s % 2 ^ (v + 1))
    go (inl l) = a.high l
    go (inr l) = let e : v + 1 ≡ x = omega (arith, a.inside) in rw e h

-- so v is the place where more than d ones are reached
asked-all : (s d v x : ℕ) → Asked s d v x → d < ones (s % 2 ^ x) → x ≤ 12 → NthOne s d v
asked-all s d v x a h l =
    let up = ones-up s v in
    let one = bit-le-one s v in
    let more = (asked-high s d v x a h).high (omega (arith, a.inside)) in
    record { low = omega (arith, a.inside); is_one = omega (arith, a.low); below = omega (arith, a.low) }

pub loop-x-init : goal.loop-x-init
loop-x-init c = (omega arith, asked-none c.args.set c.args.d)

pub loop-x-preserved : goal.loop-x-preserved
loop-x-preserved c =
    let g = c.args in
    let a = c.loop-x in
    let count = c.ones_below.ensures in (
      omega arith,
      elim c.if-ones_below-d.branch [
        | then-ones_below-d w ↦ subst (λ (v : ℕ). Asked g.set g.d v (a.x + 1)) (sym w.v-is)
            (asked_low g.set g.d a.v a.x a.invariant.1 (rw (← count) w.if-ones_below-d.true))
        | else-ones_below-d w ↦ subst (λ (v : ℕ). Asked g.set g.d v (a.x + 1)) (sym w.v-is)
            (asked-high g.set g.d a.v a.x a.invariant.1 (rw (← count) w.if-ones_below-d.false))
      ],
    )

-- no place is asked where none have gone
pub returns : goal.returns
returns c =
    let a = c.args in
    let e : c.loop-x.x ≡ a.d + a.gone + 1 = omega (arith, c.loop-x.invariant.0) in
    asked-all a.set a.d c.loop-x.v c.loop-x.x c.loop-x.invariant.1 (rw e c.requires.2) (omega (arith, c.requires.1))

pub returns-after-ones_below-d : goal.returns-after-ones_below-d
returns-after-ones_below-d c =
    let g = c.args in
    let a = c.loop-x in
    let count = c.ones_below.ensures in
    let last : a.x + 1 ≡ g.d + g.gone + 1 = omega arith in
    let all : Asked g.set g.d c.if-ones_below-d.v (a.x + 1) =
    elim c.if-ones_below-d.branch [
      | then-ones_below-d w ↦ subst (λ (v : ℕ). Asked g.set g.d v (a.x + 1)) (sym w.v-is)
          (asked_low g.set g.d a.v a.x a.invariant.1 (rw (← count) w.if-ones_below-d.true))
      | else-ones_below-d w ↦ subst (λ (v : ℕ). Asked g.set g.d v (a.x + 1)) (sym w.v-is)
          (asked-high g.set g.d a.v a.x a.invariant.1 (rw (← count) w.if-ones_below-d.false))
    ] in
    asked-all g.set g.d c.if-ones_below-d.v (a.x + 1) all (rw last c.requires.2) (omega (arith, c.requires.1))

-- `perm::numbering::Ranking::with_place` meets its contract.
use mathlib.Core.Path.{◌≡◌, ap, ◌∙◌}
use Prim.Native.Nat.{ℕ, ◌+◌, ◌-◌, ◌*◌, ◌%◌, ◌^◌, ◌≤◌}
use native.Mathlib.Nat.{mod-lt}
use native.Mathlib.Omega.{arith}
use lib.Count.{ones, ones-le}
use lib.IntN.{ℤ, nat_abs}
use lib.Pow.{pow_pos}
use Rattle.stacks.specs.Index.{coat}
use Rattle.perm.specs.Ranking.{place_ranked}
use Rattle.perm.specs.declared.numbering.Ranking.{Ranking}
use Rattle.perm.proofs.Sets.{pow-twelve, shifted}
use Rattle.perm.proofs.Signed.{small-back}
use Rattle.perm.proofs.numbering.Ranking.with_place.Goals as goal

-- what the code adds up of the pane's number a, the smaller panes met d and the coat b
placed : (above : Ranking) (left : ℕ) (x : ℤ) (a d b : ℕ) → nat_abs x ≤ 12 → a ≡ nat_abs x → d ≡ ones (above.met % 2 ^ (a - 1)) → b ≡ coat x
    → ◌≡◌ {A = Ranking}
    (record { met = above.met + 1 * 2 ^ (a - 1) % 4294967296; order = above.order * left + (a - 1 - d); coats = above.coats * 2 + b })
    (place_ranked above left x)
unfolding place_ranked
placed above left x a d b h ea ed eb = rw (ed, ea, eb, shifted (nat_abs x - 1) (omega arith))

-- the pane's number, as x is read back
pane-is : (c : goal.After-magnitude-pane) → c.magnitude-pane.result ≡ nat_abs c.args.x
pane-is c = c.magnitude-pane.ensures ∙ ap nat_abs (small-back c.args.x c.requires.high)

pub overflow_sub-pane : goal.overflow_sub-pane
overflow_sub-pane c = omega (arith, pane-is c, c.requires.low)

pub ones_below-requires : goal.ones_below-requires
ones_below-requires c = (c.requires.met_room, omega (arith, pane-is c, c.requires.high))

pub overflow_sub-digit : goal.overflow_sub-digit
overflow_sub-digit c =
    let v : ℕ = c.magnitude-pane.result - 1 in
    let met = c.args.self.met in
    omega (arith, c.ones_below.ensures, ones-le v (met % 2 ^ v) (mod-lt met (pow_pos v)))

pub overflow_shl-result : goal.overflow_shl-result
overflow_shl-result c = omega (arith, pane-is c.before, c.requires.high)

pub overflow_add-result : goal.overflow_add-result
overflow_add-result c =
    let v : ℕ = c.magnitude-pane.result - 1 in
    let f = c.requires in
    let small : v ≤ 12 = omega (arith, pane-is c.before.before, f.high) in
    record { fits = omega (arith, shifted v small, pow-twelve v small, f.met_room) }

pub overflow_mul-result : goal.overflow_mul-result
unfolding place_ranked
overflow_mul-result c = record { fits = omega (arith, c.requires.order_room) }

pub overflow_add-result-2 : goal.overflow_add-result-2
unfolding place_ranked
overflow_add-result-2 c =
    let m = c.before.before.before in
    record { fits = rw (c.ones_below.ensures, pane-is m) m.requires.order_room }

pub overflow_mul-result-2 : goal.overflow_mul-result-2
unfolding place_ranked
overflow_mul-result-2 c = record { fits = omega (arith, c.requires.coats_room) }

coat-is : (c : goal.After-coat_bit) → c.coat_bit.result ≡ coat c.args.x
coat-is c =
    let s = c.before.before.before.before.before.before in
    c.coat_bit.ensures ∙ ap coat (small-back s.args.x s.requires.high)

pub overflow_add-result-3 : goal.overflow_add-result-3
unfolding place_ranked
overflow_add-result-3 c = record { fits = omega (arith, coat-is c, c.requires.coats_room) }

pub returns : goal.returns
returns c =
    let m = c.before.before.before.before.before in
    let s = m.before in
    let o = c.ones_below in
    placed s.args.self s.args.left s.args.x m.magnitude-pane.result o.result c.coat_bit.result
    s.requires.high (pane-is m) o.ensures (coat-is c)

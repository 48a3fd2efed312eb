-- `perm::panes::Panes::all_groups` meets its contract.
use mathlib.Core.Path.{sym}
use Prim.Native.Nat.{◌-◌, ◌≤◌}
use native.Mathlib.Omega.{arith}
use lib.Pow.{pow_mono}
use Rattle.stacks.proofs.GroupLaws.{all-groups-is}
use Rattle.stacks.proofs.TurnLaws.{first_pos, first-last, last-places}
use Rattle.perm.specs.Panes.{kind_of}
use Rattle.perm.proofs.Sets.{shifted}
use Rattle.perm.proofs.panes.Panes.all_groups.Goals as goal

-- the last turn is at most twelve, and the first is no more than one past it
low : (c : goal.After-first_turn-first) → c.last_turn-last.result ≤ 12
low c = let s = c.before.before in omega (arith, last-places (kind_of s.args.self) s.args.self.n s.args.self.in_range, c.last_turn-last.ensures)

some : (c : goal.After-first_turn-first) → 1 ≤ c.first_turn-first.result
some c = omega (arith, first_pos (kind_of c.args.self), c.first_turn-first.ensures)

near : (c : goal.After-first_turn-first) → c.first_turn-first.result - 1 ≤ c.last_turn-last.result
near c =
    let s = c.before.before in
    omega (arith, first-last (kind_of s.args.self) s.args.self.n s.args.self.in_range, c.first_turn-first.ensures, c.last_turn-last.ensures)

pub overflow_shl-result : goal.overflow_shl-result
overflow_shl-result c = omega (arith, low c)

pub overflow_sub-result : goal.overflow_sub-result
overflow_sub-result c = some c

pub overflow_shl-result-2 : goal.overflow_shl-result-2
overflow_shl-result-2 c = omega (arith, low c, near c)

pub overflow_sub-result-2 : goal.overflow_sub-result-2
overflow_sub-result-2 c =
    rw (shifted c.last_turn-last.result (low c), shifted (c.first_turn-first.result - 1) (omega (arith, low c, near c))) (pow_mono (near c))

pub returns : goal.returns
returns c =
    let s = c.before.before in
    rw (shifted c.last_turn-last.result (low c), shifted (c.first_turn-first.result - 1) (omega (arith, low c, near c)), c.last_turn-last.ensures, c.first_turn-first.ensures)
    (sym (all-groups-is (kind_of s.args.self) s.args.self.n s.args.self.in_range))

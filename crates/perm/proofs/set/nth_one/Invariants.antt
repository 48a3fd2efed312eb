-- `perm::set::nth_one` meets its contract. The loop's invariant: at most d ones stand below v, and more up to v, if a place above it was asked.
use Prim.Native.Nat.{ℕ, ◌+◌, ◌%◌, ◌^◌, ◌≤◌, ◌<◌}
use lib.Count.{ones}
use Rattle.perm.proofs.set.nth_one.Given as goal

-- the places below x were asked: at most d ones stand below v, and more up to v, unless v is the last of them
pub record Asked (s d v x : ℕ) : Type 0 where
  pub inside : v < x
  pub low : ones (s % 2 ^ v) ≤ d
  pub high : v + 1 < x → d < ones (s % 2 ^ (v + 1))

abbrev pub invariant-loop-x : goal.invariant-loop-x
invariant-loop-x l = (l.x ≤ l.d + l.gone + 1) × Asked l.set l.d l.v l.x

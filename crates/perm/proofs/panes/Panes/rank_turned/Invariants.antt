-- `perm::panes::Panes::rank_turned` meets its contract. The loop's invariant: of the turned stack, what stands above place p is ranked.
use Rattle.stacks.specs.Turn.{turn_of}
use Rattle.perm.specs.Panes.{kind_of}
use Rattle.perm.proofs.Ranking.{Ranked}
use Rattle.perm.proofs.panes.Panes.rank_turned.Given as goal

abbrev pub invariant-loop-p : goal.invariant-loop-p
invariant-loop-p l = Ranked l.self.n (turn_of (kind_of l.self) l.k l.stack) l.above l.p

-- `perm::panes::Panes::rank` meets its contract. The loop's invariant: what is met above place p is ranked.
use Rattle.perm.proofs.Ranking.{Ranked}
use Rattle.perm.proofs.panes.Panes.rank.Given as goal

abbrev pub invariant-loop-p : goal.invariant-loop-p
invariant-loop-p l = Ranked l.self.n l.stack l.above l.p

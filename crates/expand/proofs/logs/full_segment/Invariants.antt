-- `expand::logs::full_segment` meets its contract. The loop's invariant: the lowest segment that lacks room, of those of the children passed.
use Rattle.expand.proofs.Fitting.{ScanFacts}
use Rattle.expand.proofs.Lowest.{LowestTo}
use Rattle.expand.proofs.logs.full_segment.Given as goal

abbrev pub invariant-loop-child : goal.invariant-loop-child
invariant-loop-child l = ScanFacts l.scan × LowestTo l.scan l.waiting l.children l.child-index l.lowest

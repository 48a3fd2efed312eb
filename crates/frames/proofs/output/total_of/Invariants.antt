-- `frames::output::total_of` meets its contract: the sum so far is that of the levels below this one.
use Rattle.std.proofs.Common.{◌≡◌, ◌%◌, ◌^◌, take}
use Rattle.base.specs.Words.{total}
use Rattle.frames.proofs.output.total_of.Given as goal

abbrev pub invariant-loop-count : goal.invariant-loop-count
invariant-loop-count l = l.sum ≡ total (take l.count-index l.count-items) % 2 ^ 64

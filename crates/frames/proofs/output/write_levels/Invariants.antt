-- `frames::output::write_levels` meets its contract. The loop's invariant: the lines of the levels below this one are written.
use Rattle.text.specs.Output.{levels_below, line_at}
use Rattle.text.specs.Written.{Wrote}
use Rattle.frames.proofs.output.write_levels.Given as goal

abbrev pub invariant-loop-level : goal.invariant-loop-level
invariant-loop-level l = Wrote (levels_below (line_at l.counts) l.level) l.initial.out l.out l.at

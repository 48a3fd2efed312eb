-- `build::part::part_of` meets its contract: the part starts behind the segments before it, and lies in the table.
use native.Mathlib.Omega.{arith}
use mathlib.Core.Path.{ap, ◌∙◌}
use Rattle.search.specs.Entries.{bytes_for}
use Rattle.search.specs.JobState.{stack_count_at, stack_count_of}
use Rattle.build.proofs.Parts.{part-within}
use Rattle.build.proofs.part.part_of.Goals as goal

pub returns : goal.returns
unfolding stack_count_at stack_count_of
returns c =
    let a = c.args in
    let bytes = c.bytes_for.ensures ∙ ap bytes_for c.stack_count_at-stacks.ensures in
    record {
      starts = omega arith;
      ends = omega (arith, bytes);
      within = omega (arith, bytes, part-within a.job.now a.j c.requires.0 c.requires.1);
    }

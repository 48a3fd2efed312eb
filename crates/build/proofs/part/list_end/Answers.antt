-- `build::part::list_end` meets its contract: as many bytes as the segment's list takes.
use mathlib.Core.Path.{ap, ◌∙◌}
use native.Mathlib.Omega.{arith}
use Rattle.search.specs.Changed.{list_bytes}
use Rattle.search.specs.Drive.{list_bytes_at}
use Rattle.search.specs.JobState.{stack_count_at, stack_count_of}
use Rattle.build.proofs.Parts.{list-within}
use Rattle.build.proofs.part.list_end.Goals as goal

pub returns : goal.returns
unfolding list_bytes_at stack_count_at stack_count_of
returns c =
    let is = c.list_bytes.ensures ∙ ap list_bytes c.stack_count_at-stacks.ensures in
    (is, omega (arith, is, list-within c.args.job.now c.args.b))

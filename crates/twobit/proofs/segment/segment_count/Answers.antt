-- `twobit::segment::segment_count` meets its contract: a quotient rounded up.
use mathlib.Core.Path.{◌∙◌}
use Rattle.search.specs.Segments.{segment_count}
use Rattle.twobit.proofs.Ceilings.{ceiling-is}
use Rattle.twobit.proofs.segment.segment_count.Goals as goal

pub returns : goal.returns
unfolding segment_count
returns c = c.div_ceil.ensures ∙ ceiling-is c.args.count c.args.size c.requires

-- `twobit::marking::mark_stack` meets its contract.
use mathlib.Core.Bool.{true, false}
use Rattle.search.specs.Marks.{counted, found_one}
use Rattle.twobit.proofs.LeafMarks.{marked-found}
use Rattle.twobit.proofs.marking.mark_stack.Goals as goal

pub returns-then-mark : goal.returns-then-mark
unfolding found_one counted
returns-then-mark c terms e =
    marked-found terms c.args.label c.args.index c.args.offset c.args.segment.now c.mark.new.bytes c.args.found c.mark.result true
    e c.requires.below c.mark.ensures c.if-mark.true

pub returns-else-mark : goal.returns-else-mark
returns-else-mark c terms e =
    marked-found terms c.args.label c.args.index c.args.offset c.args.segment.now c.mark.new.bytes c.args.found c.mark.result false
    e c.requires.below c.mark.ensures c.if-mark.false

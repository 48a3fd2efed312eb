-- `expand::logs::full_segment` meets its contract. The loop's invariant: the lowest segment that lacks room, of those of the children passed.
use Rattle.expand.proofs.Fitting.{scan-facts}
use Rattle.expand.proofs.Lowest.{lowest-none, lowest-same, lowest-past, lowest-kept, lowest-new, lowest-found}
use Rattle.expand.proofs.logs.full_segment.Goals.{then-t-lowest+then-lacks_room, else-t-lowest, else-t-lowest-via-then-t-lowest+else-lacks_room, else-t-lowest-via-else-t-lowest}
use Rattle.expand.proofs.logs.full_segment.Goals as goal

pub loop-child-init : goal.loop-child-init
loop-child-init c = (scan-facts c.args.scan c.requires.0, lowest-none)

pub loop-child-preserved : goal.loop-child-preserved
loop-child-preserved c =
    let l = c.loop-child.invariant.1 in (
      c.loop-child.invariant.0,
      elim c.if-t-lowest.branch [
        | then-t-lowest+then-lacks_room w ↦
            lowest-same (lowest-new l w.lacks_room.ensures w.if-t-lowest.true w.if-lacks_room.true) w.lowest-is
        | else-t-lowest w ↦ lowest-same
            (elim w.else-t-lowest.branch [
              | else-t-lowest-via-then-t-lowest+else-lacks_room v ↦ lowest-kept l v.lacks_room.ensures v.if-lacks_room.false
              | else-t-lowest-via-else-t-lowest v ↦ lowest-past l v.if-t-lowest.false
            ])
            w.lowest-is
      ],
    )

pub returns : goal.returns
returns c = lowest-found c.loop-child.invariant.1 c.loop-child-test.false c.then_some.result c.then_some.ensures

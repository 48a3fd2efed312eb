-- `report::run` meets its contract: what its loop has come to is what reading some characters from the start comes to.
use Rattle.std.proofs.Common.{[], ◌++◌, refl, ap, rules}
use Rattle.text.specs.Reader.{new_reader, read_all}
use Rattle.text.specs.declared.Reader.{Reader}
use Rattle.text.proofs.ReadLaws.{read-on}
use Rattle.report.proofs.run.Goals as goal

pub loop-init : goal.loop-init
unfolding read_all
loop-init g c = (refl, [], ap (λ (r : Reader). (r, c.args.table.now)) c.new-reader.ensures)

pub loop-preserved : goal.loop-preserved
loop-preserved g c =
    let s = rw c.in-Continue.is at c.in_ok-next.ensures.ok in (
      search rules,
      c.loop.invariant.1 ++ s.0,
      read-on new_reader c.loop.reader c.in-Continue.next c.args.table.now c.loop.table c.read_some.new.table c.loop.invariant.1 s.0 c.loop.invariant.2 s.1.0,
    )

pub finish-requires-clause-read_so_far : goal.finish-requires-clause-read_so_far
finish-requires-clause-read_so_far g c =
    let s = rw c.in-Break.is at c.in_ok-next.ensures.ok in (
      c.args.table.now,
      c.loop.invariant.1 ++ s.0,
      read-on new_reader c.loop.reader c.in-Break.last c.args.table.now c.loop.table c.read_some.new.table c.loop.invariant.1 s.0 c.loop.invariant.2 s.1,
    )

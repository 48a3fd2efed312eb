-- `build::part::expand_part` meets its contract: the part lies in the table, and what Expand leaves in it, it leaves in the table.
use Rattle.search.specs.Results.{as_expanded}
use Rattle.build.proofs.Parts.{expanded-in}
use Rattle.build.proofs.part.expand_part.Goals as goal

pub returns : goal.returns
returns c =
    let a = c.args in
    let part = c.part_of-part in
    let done = c.expand in
    expanded-in a.job.now a.j a.table.now c.requires part.result.start part.result.end part.ensures a.log.now done.new.segment done.new.log
    (as_expanded done.new.job done.result) done.ensures

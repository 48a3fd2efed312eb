-- `build::part::load_part` meets its contract: the part lies in the table and the front in the list, and what Load leaves there, it leaves in the list.
use Rattle.search.specs.Results.{as_answer}
use Rattle.build.proofs.Parts.{loaded-in}
use Rattle.build.proofs.part.load_part.Goals as goal

pub returns : goal.returns
returns c =
    let a = c.args in
    let part = c.part_of-part in
    let front = c.list_end-front in
    let done = c.load in
    loaded-in a.job.now a.b a.table.now c.requires.0 part.result.start part.result.end part.ensures a.list.now front.result done.new.list
    (as_answer done.new.job done.result) front.ensures.0 done.ensures

-- `build::part::settle_part` meets its contract: the part lies in the table, and what Settle leaves in it, it leaves in the table.
use Rattle.search.specs.Settle.{settle_of}
use Rattle.search.specs.Results.{as_answer}
use Rattle.build.specs.Part.{settled_in}
use Rattle.build.proofs.Parts.{answered-in}
use Rattle.build.proofs.part.settle_part.Goals as goal

pub returns : goal.returns
unfolding settled_in
returns c =
    let a = c.args in
    let part = c.part_of-part in
    let done = c.settle in
    answered-in a.job.now a.j a.table.now c.requires part.result.start part.result.end part.ensures (λ segment. settle_of a.job.now a.j segment a.log.now) done.new.segment
    (as_answer done.new.job done.result) done.ensures

-- `build::part::blank_part` meets its contract: the part lies in the table, and what Blank leaves in it, it leaves in the table.
use Rattle.search.specs.Blank.{blank_of}
use Rattle.search.specs.Results.{as_answer}
use Rattle.build.specs.Part.{blanked_in}
use Rattle.build.proofs.Parts.{answered-in}
use Rattle.build.proofs.part.blank_part.Goals as goal

pub returns : goal.returns
unfolding blanked_in
returns c =
    let a = c.args in
    let part = c.part_of-part in
    let done = c.blank in
    answered-in a.job.now a.j a.table.now c.requires part.result.start part.result.end part.ensures (blank_of a.job.now a.j) done.new.segment
    (as_answer done.new.job done.result) done.ensures

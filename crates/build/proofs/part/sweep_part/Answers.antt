-- `build::part::sweep_part` meets its contract: the part lies in the table and the front in the list, and what Sweep leaves in it, it leaves in the table.
use mathlib.Core.Path.{ap, ◌∙◌}
use Rattle.search.specs.Drive.{list_bytes_at}
use Rattle.search.specs.Results.{as_answer}
use Rattle.build.proofs.Parts.{swept-in}
use Rattle.build.proofs.part.sweep_part.Goals as goal

pub returns : goal.returns
returns c =
    let a = c.args in
    let part = c.part_of-part in
    let front = c.list_end-front in
    let done = c.sweep in
    swept-in a.job.now a.j a.table.now c.requires.0 part.result.start part.result.end part.ensures a.list.now front.result done.new.segment
    (as_answer done.new.job done.result) (front.ensures.0 ∙ ap (list_bytes_at a.job.now) c.from.ensures) done.ensures

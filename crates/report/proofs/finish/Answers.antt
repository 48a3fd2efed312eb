-- `report::finish` meets its contract: what it prints is what the end brings after the characters that were read.
use Rattle.std.proofs.Common.{List, ℕ, ap, ◌∙◌}
use Rattle.text.specs.Reader.{end_read}
use Rattle.text.specs.declared.Reader.{Reader}
use Rattle.text.proofs.Writing.{wrote-text}
use Rattle.report.proofs.finish.Goals as goal

pub print_end-requires : goal.print_end-requires
print_end-requires g c =
    let read = c.requires.read_so_far in (
      read.0,
      read.1,
      wrote-text c.end_read-printed.ensures.wrote ∙ ap (λ (a : Reader × List ℕ). (end_read a.0 a.1).text) read.2,
    )

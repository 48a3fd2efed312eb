-- `frames::output::put_number` meets its contract: the last four bytes of the number's eight.
use Rattle.text.specs.Hex.{four_bytes}
use Rattle.frames.proofs.output.put_number.Goals as goal

pub returns : goal.returns
unfolding four_bytes
returns c = rw c.to_be_bytes.ensures at c.put_line.ensures

-- `frames::output::write_line` meets its contract.
use Rattle.std.proofs.Common.{[], refl}
use Rattle.text.specs.Hex.{line_of}
use Rattle.text.specs.Written.{over}
use Rattle.text.proofs.Writing.{put-after}
use Rattle.frames.proofs.output.write_line.Goals as goal

pub returns : goal.returns
unfolding over
returns c =
    let a = c.args in
    let f = c.put_line in
    put-after [] (line_of a.bytes.now) a.out.now a.out.now f.new.out 0 f.result refl refl f.ensures

-- `frames::output::put_line` meets its contract.
use Rattle.std.proofs.Common.{arith, rules}
use Rattle.text.proofs.Writing.{hex-length, put-end-line}
use Rattle.frames.proofs.output.put_line.Goals as goal

pub bounds-out-end : goal.bounds-out-end
bounds-out-end c = omega (arith, hex-length c.args.bytes.now)

pub returns : goal.returns
returns c =
    let a = c.args in
    let f = c.put_bytes-end in
    put-end-line a.bytes.now a.out.now f.new.out a.at f.result (search rules) f.ensures

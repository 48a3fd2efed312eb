-- `frames::output::write_turns` meets its contract: the number, the turns after it, and the line's end.
use Rattle.std.proofs.Common.{ℕ, List, [], ◌∷◌, length, refl, arith}
use Rattle.text.specs.Hex.{hex_of, line_of}
use Rattle.text.specs.Output.{plan_line}
use Rattle.text.specs.Written.{over}
use Rattle.text.proofs.Writing.{hex-length, over-more, put-after}
use Rattle.frames.proofs.output.write_turns.Goals as goal

pub put_line-requires : goal.put_line-requires
put_line-requires c =
    let a = c.args in
    omega (arith, c.put_bytes-at.ensures.end, hex-length (length a.turns.now ∷ []))

pub returns : goal.returns
unfolding plan_line line_of over hex_of
returns c =
    let a = c.args in
    let n : List ℕ = length a.turns.now ∷ [] in
    let f = c.put_bytes-at in
    let g = c.put_line in
    put-after (hex_of n) (line_of a.turns.now) a.out.now f.new.out g.new.out f.result g.result f.ensures.end
    (over-more [] (hex_of n) a.out.now a.out.now f.new.out 0 refl refl f.ensures.front) g.ensures

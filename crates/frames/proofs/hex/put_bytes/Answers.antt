-- `frames::hex::put_bytes` meets its contract. The loop's invariant: the digits of i bytes are written, and the rest is as it was.
use Rattle.std.proofs.Common.{◌+◌, ◌*◌, set, refl, ◌∙◌, arith, length-set}
use Rattle.text.proofs.Writing.{put-none, put-more, put-end}
use Rattle.frames.proofs.hex.put_bytes.Goals as goal

pub loop-i-init : goal.loop-i-init
loop-i-init c =
    let a = c.args in
    (refl, put-none a.out.now a.at a.bytes.now)

pub loop-i-preserved : goal.loop-i-preserved
loop-i-preserved c =
    let a = c.args in
    let at = a.at + 2 * c.loop-i.i in
    let x = c.digit_char.result in (
      length-set (set c.loop-i.out at x) (at + 1) c.digit_char-in-loop-i.result ∙ length-set c.loop-i.out at x ∙ c.loop-i.invariant.0,
      put-more a.out.now a.at a.bytes.now c.loop-i.i (omega arith) (omega arith) x c.digit_char-in-loop-i.result
          c.loop-i.out c.loop-i.invariant.1 c.digit_char.ensures c.digit_char-in-loop-i.ensures,
    )

pub returns : goal.returns
returns c =
    let a = c.args in
    put-end a.out.now a.at a.bytes.now c.loop-i.i c.loop-i.out (omega arith) c.loop-i.invariant.1

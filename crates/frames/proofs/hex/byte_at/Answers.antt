-- `frames::hex::byte_at` meets its contract: two digits make a byte.
use Rattle.std.proofs.Common.{ℕ, ◌+◌, ◌*◌, get_or, sym, ◌∙◌, ap₂, arith}
use Rattle.text.proofs.HexLaws.{digit_lt, bytes-at}
use Rattle.frames.proofs.hex.byte_at.Goals as goal

pub overflow_mul-result : goal.overflow_mul-result
overflow_mul-result c =
    let a = c.args in
    omega (arith, c.digit_of.ensures, digit_lt (get_or a.text.now (2 * a.i) 0))

pub overflow_add-result : goal.overflow_add-result
overflow_add-result c =
    let a = c.args in
    record { fits = omega (arith, c.digit_of.ensures, c.digit_of-2.ensures, digit_lt (get_or a.text.now (2 * a.i) 0), digit_lt (get_or a.text.now (2 * a.i + 1) 0)) }

pub returns : goal.returns
returns c =
    let a = c.args in
    ap₂ (λ (x y : ℕ). x * 16 + y) c.digit_of.ensures c.digit_of-2.ensures
    ∙ sym (bytes-at a.text.now a.i (omega arith))

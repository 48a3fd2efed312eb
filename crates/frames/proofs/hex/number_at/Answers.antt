-- `frames::hex::number_at` meets its contract.
use Rattle.std.proofs.Common.{◌≡◌, ℕ, ◌+◌, ◌*◌, [], ◌∷◌, get_or, ◌∙◌, arith}
use Rattle.std.specs.Int.{w32, from_be_bytes}
use Rattle.text.specs.Hex.{bytes_of}
use Rattle.text.proofs.HexLaws.{bytes-length, number-at-is}
use Rattle.frames.proofs.hex.number_at.Goals as goal

bytes-make : (a b c d w x y z : ℕ) → w ≡ a → x ≡ b → y ≡ c → z ≡ d
    → from_be_bytes w32 (w ∷ x ∷ y ∷ z ∷ []) ≡ ((a * 256 + b) * 256 + c) * 256 + d
bytes-make a b c d w x y z e f g h = omega arith

pub returns : goal.returns
returns c =
    let a = c.args in
    let bs = bytes_of a.text.now in
    c.from_be_bytes.ensures
    ∙ bytes-make (get_or bs a.i 0) (get_or bs (a.i + 1) 0) (get_or bs (a.i + 2) 0) (get_or bs (a.i + 3) 0)
    c.byte_at.result c.byte_at-2.result c.byte_at-3.result c.byte_at-4.result
    c.byte_at.ensures c.byte_at-2.ensures c.byte_at-3.ensures c.byte_at-4.ensures
    ∙ number-at-is bs a.i (omega (arith, bytes-length a.text.now))

-- `frames::hex::put_bytes` meets its contract. The loop's invariant: the digits of i bytes are written, and the rest is as it was.
use Rattle.std.proofs.Common.{◌≡◌, length}
use Rattle.text.proofs.Writing.{put_to}
use Rattle.frames.proofs.hex.put_bytes.Given as goal

abbrev pub invariant-loop-i : goal.invariant-loop-i
invariant-loop-i l = (length l.out ≡ length l.initial.out) × (l.out ≡ put_to l.initial.out l.at l.bytes l.i)

-- `frames::frame::places_at` meets its contract. The loop's invariant: the first p panes are placed, and zeros stand below them.
use Rattle.std.proofs.Common.{◌≡◌, ℕ, List, take, drop}
use Rattle.text.specs.Hex.{bytes_of}
use Rattle.text.proofs.FrameLaws.{placed_to}
use Rattle.frames.proofs.frame.places_at.Given as goal

-- the panes' bytes
abbrev pub part : List ℕ → ℕ → ℕ → List ℕ
part text i n = take n (drop i (bytes_of text))

abbrev pub invariant-loop-p : goal.invariant-loop-p
invariant-loop-p l = l.places ≡ placed_to (part l.text l.i l.n) l.p

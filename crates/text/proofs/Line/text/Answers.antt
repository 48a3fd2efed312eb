-- `text::Line::text` meets its contract: the part of the characters is there where the line is not overlong.
use Rattle.std.proofs.Common.{◌≡◌, ℕ, ◌+◌, ◌-◌, ◌≤◌, ◌<◌, ◌⊎◌, List, length, take, ◌∙◌, sym, ap, arith, rules, MatchOption, Option, Some, None, Bor}
use Rattle.std.specs.List.{slice_range}
use Rattle.text.specs.Frame.{frame_limit}
use Rattle.text.specs.Kept.{text_of}
use Rattle.text.specs.declared.Line.{Line}
use Rattle.text.proofs.LineLaws.{text-length, text-short}
use Rattle.text.proofs.Line.text.Goals as goal

part-says : (line : Line) → length line.chars ≡ frame_limit → (o : Option (Bor (List ℕ)))
    → MatchOption o ((line.length < 0) ⊎ (length line.chars < line.length))
    (λ x. (0 ≤ line.length) × (line.length ≤ length line.chars) × (x.now ≡ slice_range line.chars 0 line.length) × (length x.now + 0 ≡ line.length))
    → MatchOption o (frame_limit < length (text_of line)) (λ text. (text.now ≡ text_of line) × (length text.now ≤ frame_limit))
part-says line w None h = omega (arith, text-length line w)
part-says line w (Some x) h = (
  h.2 ∙ ap (λ (k : ℕ). take k line.chars) (let e : line.length - 0 ≡ line.length = omega arith in e) ∙ sym (text-short line w (omega arith)),
  omega arith,
)

pub returns : goal.returns
returns c = part-says c.args.self.now (search rules) c.get.result c.get.ensures.lookup.0

-- `text::Line::push` meets its contract.
use Rattle.std.proofs.Common.{rules}
use Rattle.text.proofs.LineLaws.{push-stored, push-counted}
use Rattle.text.proofs.Line.push.Goals as goal

pub returns-then-self-lt-FRAME_LIMIT : goal.returns-then-self-lt-FRAME_LIMIT
returns-then-self-lt-FRAME_LIMIT c = push-stored c.args.self.now c.args.byte c.if-self-lt-FRAME_LIMIT.true

pub returns-else-self-lt-FRAME_LIMIT : goal.returns-else-self-lt-FRAME_LIMIT
returns-else-self-lt-FRAME_LIMIT c = push-counted c.args.self.now c.args.byte (search rules) c.if-self-lt-FRAME_LIMIT.false

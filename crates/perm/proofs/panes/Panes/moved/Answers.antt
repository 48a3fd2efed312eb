-- `perm::panes::Panes::moved` meets its contract: a move is the turn of its number.
use Rattle.stacks.specs.Turn.{move_of}
use Rattle.stacks.proofs.TurnLaws.{turn-panes}
use Rattle.perm.specs.Panes.{kind_of}
use Rattle.perm.proofs.panes.Panes.moved.Goals as goal

pub turned-requires : goal.turned-requires
turned-requires c = (c.requires.0, turn-panes (kind_of c.args.self) c.args.self.n c.args.self.in_range c.args.k c.requires.1)

pub returns : goal.returns
unfolding move_of
returns c = c.turned.ensures

-- `perm::panes::Panes::rank_moved` meets its contract: a move is the turn of its number.
use Rattle.stacks.specs.Turn.{move_of}
use Rattle.stacks.proofs.TurnLaws.{turn-panes}
use Rattle.perm.specs.Panes.{kind_of}
use Rattle.perm.proofs.panes.Panes.rank_moved.Goals as goal

pub rank_turned-requires : goal.rank_turned-requires
rank_turned-requires c =
    (c.requires.0, c.requires.2, turn-panes (kind_of c.args.self) c.args.self.n c.args.self.in_range c.args.k c.requires.1)

pub returns : goal.returns
unfolding move_of
returns c = c.rank_turned.ensures

-- `perm::kind::Kind::has_turns` meets its contract.
use Rattle.perm.specs.Kinds.{number_of}
use Rattle.perm.proofs.GroupSets.{turns-some}
use Rattle.perm.proofs.kind.Kind.has_turns.Goals as goal

pub returns : goal.returns
returns c =
    let a = c.args in rw (c.first_turn.ensures, c.last_turn.ensures) (turns-some (number_of a.self) a.n)

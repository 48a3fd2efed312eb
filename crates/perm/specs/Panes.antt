-- The kind of a kind and n, by its number.
use Rattle.std.specs.Prelude.{ℕ}
use Rattle.perm.specs.Kinds.{number_of}
use Rattle.perm.specs.declared.panes.Panes.{Panes}

abbrev pub kind_of : Panes → ℕ
kind_of panes = number_of panes.kind

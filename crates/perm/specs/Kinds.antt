-- The number of a kind, by which the definitions know it.
use Rattle.std.specs.Prelude.{ℕ}
use Rattle.perm.specs.declared.kind.Kind.{Kind}
use Rattle.perm.specs.declared.kind.Kind.TheVariants.{Plain, Coated}

abbrev pub number_of : Kind → ℕ
number_of Plain = 0
number_of Coated = 1

-- The group sizes that a set names, and those that an iterator over them has left.
use Rattle.std.specs.Prelude.{List, ℕ}
use Rattle.base.specs.Words.{filter, from}
use Rattle.stacks.specs.Turn.{lifts, group_places}
use Rattle.perm.specs.declared.sizes.Sizes.{Sizes}

-- rising
unfoldable pub sizes_of : ℕ → List ℕ
sizes_of groups = filter (lifts groups) (from 1 group_places)

abbrev pub sizes_left : Sizes → List ℕ
sizes_left sizes = sizes_of sizes.rest

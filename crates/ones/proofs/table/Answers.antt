-- `ones::table` meets its contract: one test over the whole constant, which the checker computes.
use Rattle.std.proofs.Common.{refl}
use lib.Count.{ones_in}
use Rattle.ones.specs.Ones.{set_places, ones_table}
use Rattle.ones.proofs.Computed.{follows, computed}
use Rattle.ones.proofs.table.Goals as goal

pub returns : goal.returns
unfolding ones_table follows ones_in
returns c = computed (ones_in set_places) 0 _ refl

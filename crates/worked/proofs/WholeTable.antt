-- Build the whole table, for plain 3 in two segments: each clause computes from the definitions.
use mathlib.Core.Path.{refl}
use Rattle.worked.specs.WholeTable.{WholeTable}
use Rattle.worked.proofs.Open.{all-open}

pub whole-table : WholeTable
unfolding all-open
whole-table =
    record {
      accepted = refl;
      finished = refl;
      table = refl;
      begins_first = refl;
      short_table = refl;
      long_table = refl;
      short_log = refl;
      long_log = refl;
      short_list = refl;
      long_list = refl;
    }

-- The starred cases of document 01's "At the edges", all of them together: each computes from the definitions.
use mathlib.Core.Path.{refl}
use Rattle.worked.specs.Starred.{Starred}
use Rattle.worked.proofs.Open.{all-open}

pub starred : Starred
unfolding all-open
starred =
    record {
      plain_312 = refl;
      plain_at_5 = refl;
      plain_at_6 = refl;
      coated_2_1 = refl;
      coated_1_2 = refl;
      turn_coated = refl;
      turn_plain_1 = refl;
      table_plain_1 = record { finished = refl; leaves = refl };
      table_coated_1 = record { finished = refl; leaves = refl };
      table_plain_3 = record { finished = refl; leaves = refl };
      table_plain_3_logs = record { finished = refl; leaves = refl };
      counts_coated_2 = record { finished = refl; counted = refl };
    }

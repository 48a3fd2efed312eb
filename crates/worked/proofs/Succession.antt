-- The entry that follows another: each of the four values computes.
use mathlib.Core.Path.{refl}
use Rattle.worked.specs.Succession.{Succession}
use Rattle.worked.proofs.Open.{all-open}

pub succession : Succession
unfolding all-open
succession = record { after_0 = refl; after_1 = refl; after_2 = refl; after_3 = refl }

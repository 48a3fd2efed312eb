-- Build the whole table, for plain 3 in two segments: what it leaves, and its refusals of a wrong length.
use Rattle.std.specs.Prelude.{◌≡◌, [], ◌∷◌}
use Rattle.search.specs.declared.Phase.TheVariants.{Finished}
use Rattle.worked.specs.Cases.{plain, whole}

pub record WholeTable : Type 0 where
  pub accepted : (whole plain 3 4 2 32 1).3.refusal ≡ 0
  pub finished : (whole plain 3 4 2 32 1).3.job.phase ≡ Finished 3
  pub table : (whole plain 3 4 2 32 1).0 ≡ 0x90 ∷ 0xf6 ∷ []
  -- Begin's refusals come first; then a byte too few or too many, a word, and a byte of the list
  pub begins_first : (whole plain 3 6 1 32 1).3.refusal ≡ 5
  pub short_table : (whole plain 3 4 1 32 1).3.refusal ≡ 10
  pub long_table : (whole plain 3 4 3 32 1).3.refusal ≡ 10
  pub short_log : (whole plain 3 4 2 31 1).3.refusal ≡ 10
  pub long_log : (whole plain 3 4 2 33 1).3.refusal ≡ 10
  pub short_list : (whole plain 3 4 2 32 0).3.refusal ≡ 10
  pub long_list : (whole plain 3 4 2 32 2).3.refusal ≡ 10

-- The entry that follows another: the remainder of v + 1 by 3 gives the four values that document 02 (F-4) lists.
use Rattle.std.specs.Prelude.{◌≡◌}
use Rattle.search.specs.Entries.{next_entry}

pub record Succession : Type 0 where
  pub after_0 : next_entry 0 ≡ 1
  pub after_1 : next_entry 1 ≡ 2
  pub after_2 : next_entry 2 ≡ 0
  pub after_3 : next_entry 3 ≡ 1

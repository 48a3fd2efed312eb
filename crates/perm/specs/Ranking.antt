-- One place of a ranking, as the contract of the code that adds it up speaks of it.
use Rattle.std.specs.Prelude.{ℕ, ◌+◌, ◌-◌, ◌*◌, ◌%◌, ◌^◌, ◌≤◌, ◌<◌, ℤ, nat_abs}
use Rattle.std.specs.Int.Count.{ones}
use Rattle.stacks.specs.Index.{coat}
use Rattle.stacks.specs.Stack.{stack_places}
use Rattle.perm.specs.declared.numbering.Ranking.{Ranking}

-- one place more, with `left` places from it on: the digit is the pane's number minus one, less the smaller panes met
unfoldable pub place_ranked : Ranking → ℕ → ℤ → Ranking
place_ranked above left x =
    record {
      met = above.met + 2 ^ (nat_abs x - 1);
      order = above.order * left + (nat_abs x - 1 - ones (above.met % 2 ^ (nat_abs x - 1)));
      coats = above.coats * 2 + coat x;
    }

-- what its arithmetic needs: x is a pane, and all that is added up fits
pub record PlaceFits (above : Ranking) (left : ℕ) (x : ℤ) : Type 0 where
  pub low : 1 ≤ nat_abs x
  pub high : nat_abs x ≤ stack_places
  pub met_room : above.met < 4096
  pub order_room : (place_ranked above left x).order < 4294967296
  pub coats_room : (place_ranked above left x).coats < 4096

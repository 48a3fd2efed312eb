-- What the functions on terms that Begin accepts, and on its refusals, are proved by.
use mathlib.Core.Path.{◌≡◌, refl}
use mathlib.Core.Bool.{true, not}
use Prim.Native.Nat.{◌*◌, ◌<◌, ◌≤◌}
use native.Mathlib.Nat.{mul-le-mul}
use lib.Dec.{eqb}
use borrow.Author.Tests.{ne_eqb}
use Rattle.std.specs.Prelude.{Result, Ok, Err}
use Rattle.std.specs.Result.{is_err}
use Rattle.stacks.specs.Refusals.{number, refusal_of}
use Rattle.stacks.specs.Stack.{is_kind, is_pane_count}
use Rattle.stacks.specs.Turn.{is_group_set}
use Rattle.stacks.specs.declared.refusal.Refusal.{Refusal}
use Rattle.stacks.proofs.Numbers.{number-some}
use Rattle.search.specs.Begin.{begin_of}
use Rattle.search.specs.Results.{as_begun}
use Rattle.search.specs.Segments.{segment_limit, most_room}
use Rattle.search.specs.Terms.{G, begin_refusal}
use Rattle.search.specs.declared.Terms.{Terms}
use Rattle.search.proofs.Coherence.{begin-given}
use Rattle.search.proofs.Given.{some, few}
use Rattle.search.proofs.SegmentLaws.{log-room-facts}

module _ (terms : Terms) (begins : begin_refusal terms ≡ 0) where
  pub panes_are : is_pane_count terms.kind terms.n ≡ true
  panes_are = (begin-given begins).in-range

  pub kind_is : is_kind terms.kind ≡ true
  kind_is = (begin-given begins).is-kind

  pub set_is : is_group_set terms.kind terms.n terms.groups ≡ true
  set_is = (begin-given begins).of-set

  pub size_some : 0 < terms.size
  size_some = some (begin-given begins)

  pub segments_few : G terms ≤ segment_limit
  segments_few = few (begin-given begins)

  pub area_few : G terms * terms.room ≤ segment_limit * most_room
  area_few = mul-le-mul segments_few (log-room-facts terms.room (begin-given begins).room).most

pub ruleset begun_terms = (panes_are, kind_is, set_is, size_some, segments_few, area_few)

-- a refusal is no begun job
pub begin-err : (terms : Terms) (r : Refusal) → number r ≡ begin_refusal terms → as_begun (Err r) ≡ begin_of terms
unfolding begin_of
begin-err terms r e = rw (← e, ne_eqb (number r) 0 (number-some r))

pub ruleset begin_errs = (begin-err)

-- an error is a refusal that is not 0
pub errs : (r : Result (Unit {0}) Refusal) → is_err r ≡ not (eqb (refusal_of r) 0)
errs (Ok x) = refl
errs (Err r) = rw (ne_eqb (number r) 0 (number-some r))

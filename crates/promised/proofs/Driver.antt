-- Build the whole table: each clause of `build_ends`, for all arguments that are not refused, and `build-finishes`.
use mathlib.Core.Path.{◌≡◌, refl}
use mathlib.Core.Bool.{true}
use mathlib.Core.List.{List}
use Prim.Native.Nat.{ℕ}
use lib.IntN.{ℤ}
use lib.ListN.{length}
use Rattle.stacks.specs.Stack.{is_stack}
use Rattle.stacks.specs.Turn.{all_groups}
use Rattle.stacks.proofs.KindLaws
use Rattle.stacks.proofs.MoveLaws
use Rattle.search.specs.Build.{World}
use Rattle.search.specs.Drive.{build_refusal, build_of, ended, built, Builds}
use Rattle.search.specs.JobState.{is_finished}
use Rattle.search.specs.Promise.{right_lengths, Finishes}
use Rattle.search.specs.PromiseBy.{FewestIn, FinishesBy, AtEnd}
use Rattle.search.specs.Segments.{joined}
use Rattle.search.specs.Terms.{terms_of}
use Rattle.search.specs.declared.Terms.{Terms}
use Rattle.search.proofs.WholeTable

module _ (kind n : ℕ) (wanted : List ℤ) (groups S C : ℕ) (table log list : List ℕ)
    (accepted : build_refusal (terms_of kind n wanted groups S C) (length table) (length log) (length list) ≡ 0) where
  abbrev terms : Terms
  terms = terms_of kind n wanted groups S C

  end : World
  end = built terms table log list

  builds : Builds terms table log list
  builds = WholeTable.build_ends terms table log list accepted

  -- what it leaves in the table, the log area and the list, and its job
  leaves : build_of terms table log list
      ≡ (joined end.segments, end.log, (ended terms table log list).list, record { refusal = 0; job = end.job })
  unfolding end
  leaves = builds.leaves

  -- it has finished where no stack needs exactly 255 turns, and stands at the other end where one does
  finishes : (((s : List ℤ) × (is_stack kind n s ≡ true) × FewestIn kind n groups s wanted 255) → ⊥)
      → (is_finished end.job.phase ≡ true) × FinishesBy terms end
  unfolding end
  finishes = builds.finishes

  stands : (s : List ℤ) → is_stack kind n s ≡ true → FewestIn kind n groups s wanted 255
      → AtEnd terms (right_lengths terms) end
  unfolding end
  stands s stack fewest = builds.stands (s, stack, fewest)

  lengths : (length (joined end.segments) ≡ length table) × (length end.log ≡ length log)
      × (length (ended terms table log list).list ≡ length list)
  unfolding end
  lengths = (builds.table_length, builds.log_length, builds.list_length)

-- by the full set it ends in a finished build, as the kinds that Begin accepts have turns that undo themselves
build-finishes : (kind n : ℕ) (wanted : List ℤ) (S C : ℕ) (table log list : List ℕ)
    → (let terms = terms_of kind n wanted (all_groups kind n) S C in
    build_refusal terms (length table) (length log) (length list) ≡ 0
    → (let w = built terms table log list in (is_finished w.job.phase ≡ true) × Finishes terms w))
build-finishes kind n wanted S C table log list accepted =
    let terms = terms_of kind n wanted (all_groups kind n) S C in
    let given = (WholeTable.build-accepts terms (length table) (length log) (length list) accepted).given in
    WholeTable.build-finishes terms table log list (MoveLaws.undoes-itself kind (KindLaws.kind-low kind given.is-kind)) refl accepted

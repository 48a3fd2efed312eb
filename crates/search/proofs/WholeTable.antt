-- Build the whole table: what it accepts, what a loop that drives a build keeps, and that it ends, by the full set in a finished build.
use mathlib.Core.Path.{◌≡◌, refl, sym, ap, ◌∙◌, subst}
use mathlib.Core.Bool.{true, false}
use mathlib.Core.List.{List}
use Prim.Native.Nat.{ℕ, ◌<◌}
use native.Mathlib.Omega.{arith}
use lib.ListN.{length}
use borrow.Author.Tests.{eq-eqb}
use Rattle.base.proofs.Rows.{first, equal, ◌and_then◌}
use Rattle.search.specs.Begin.{begun}
use Rattle.search.specs.Changed.{list_bytes}
use Rattle.search.specs.Drive.{Store, store_of, advanced, has_ended, drive, most_calls, cut, held, build_refusal, ended, built, build_of, Builds}
use Rattle.search.specs.Entries.{bytes_for}
use Rattle.search.specs.JobState.{is_finished, is_coherent, stack_count_of, stack_count_at}
use Rattle.stacks.specs.Turn.{UndoesItself, all_groups}
use Rattle.search.specs.Promise.{right_bytes, right_words, Finishes}
use Rattle.search.specs.Segments.{joined}
use Rattle.search.specs.Terms.{N, G, m, begin_refusal}
use Rattle.search.specs.declared.Terms.{Terms}
use Rattle.search.proofs.BlankKeeps.{begun-invariant}
use Rattle.search.proofs.BuildCoherent.{invariant-coherent}
use Rattle.search.proofs.Coherence.{begin-given}
use Rattle.search.proofs.CutLaws.{cut-segmented, joined-cut}
use Rattle.search.proofs.Driving.{Stored, drive-done, work-most, advanced-stored, advanced-falls, drive-keeps, drive-advanced}
use Rattle.search.proofs.Given.{Given}
use Rattle.search.proofs.SegmentLaws.{SegmentSizeFacts, segment-size-facts, Segmented}
use Rattle.search.proofs.Shapes.{size_is, count-is, stacks-is}
use Rattle.search.proofs.AllTurns.{none_deep, finishes-all}
use Rattle.search.proofs.WholeBuild.{finishes-is, ended-finished, ended-stands}
use Rattle.search.proofs.WorkLeft.{work_left}

module _ (terms : Terms) (bytes words listed : ℕ) where
  -- what is not refused
  pub record Accepts : Type 0 where
    pub given : Given terms
    pub bytes_fit : bytes ≡ bytes_for (N terms)
    pub words-fit : words ≡ right_words terms
    pub list-fits : listed ≡ list_bytes (m terms 0)

  pub build-accepts : build_refusal terms bytes words listed ≡ 0 → Accepts
  unfolding build_refusal
  build-accepts h =
      let f = (first (begin_refusal terms)
      and_then equal bytes (bytes_for (N terms)) 10 refl
      and_then equal words (right_words terms) 10 refl
      and_then equal listed (list_bytes (m terms 0)) 10 refl).asks h in
      record { given = begin-given f.0; bytes_fit = f.1.0; words-fit = f.1.1.0; list-fits = f.1.1.1 }

-- ---- a loop that drives a build

-- what it keeps: the build is on its way to the store in which it ends
pub record Driving (terms : Terms) (table₀ log₀ list₀ : List ℕ) (s : Store) : Type 0 where
  pub given : Given terms
  pub stored : Stored terms s
  pub same : ended terms table₀ log₀ list₀ ≡ drive (most_calls (N terms) (G terms)) s

module _ {terms : Terms} {table₀ log₀ list₀ : List ℕ} where
  pub driving-begins : Accepts terms (length table₀) (length log₀) (length list₀)
      → Driving terms table₀ log₀ list₀ (store_of (begun terms) table₀ log₀ list₀)
  unfolding ended held begun stack_count_of right_bytes
  driving-begins accepts =
      let g = accepts.given in
      let S = terms.size in
      let facts : SegmentSizeFacts (N terms) S = segment-size-facts (N terms) S g.segments in
      let whole : Segmented (N terms) S (cut (N terms) S table₀) =
      cut-segmented (N terms) S (omega (arith, facts.least)) facts.four table₀ accepts.bytes_fit in
      let changed : List ℕ = (held (store_of (begun terms) table₀ log₀ list₀)).changed in
      record {
        given = g;
        stored = record {
          invariant = begun-invariant terms (cut (N terms) S table₀) log₀ changed
              (record { some = whole.count; each = whole.sizes; area = accepts.words-fit });
          table-long = accepts.bytes_fit;
          list-long = accepts.list-fits;
        };
        same = refl;
      }

  module _ {s : Store} (driving : Driving terms table₀ log₀ list₀ s) where
    -- what a step may rely on
    pub driving-coherent : is_coherent s.job ≡ true
    unfolding held
    driving-coherent = invariant-coherent driving.given driving.stored.invariant

    pub driving-bytes : length s.table ≡ bytes_for (stack_count_of s.job)
    unfolding held
    driving-bytes = driving.stored.table-long ∙ ap bytes_for (sym (count-is driving.stored.invariant.shaped))

    pub driving-list : length s.list ≡ list_bytes (stack_count_at s.job 0)
    unfolding held
    driving-list = driving.stored.list-long ∙ ap list_bytes (sym (stacks-is driving.stored.invariant.shaped 0))

    module _ {next : Store} (step : next ≡ advanced s) where
      pub driving-steps : has_ended s.job ≡ false → Driving terms table₀ log₀ list₀ next
      driving-steps on =
          let most = most_calls (N terms) (G terms) in
          record {
            given = driving.given;
            stored = subst (Stored terms) (sym step) (advanced-stored driving.given driving.stored);
            same = driving.same
                ∙ drive-advanced driving.given most s driving.stored (omega (arith, work-most (N terms) terms.size s.job)) on
                ∙ ap (drive most) (sym step);
          }

      pub driving-falls : has_ended s.job ≡ false → work_left (N terms) terms.size next.job < work_left (N terms) terms.size s.job
      driving-falls on =
          omega (
            arith,
            ap (λ (x : Store). work_left (N terms) terms.size x.job) step,
            advanced-falls driving.given driving.stored on,
          )

    pub driving-ends : has_ended s.job ≡ true → ended terms table₀ log₀ list₀ ≡ s
    driving-ends end = driving.same ∙ drive-done (most_calls (N terms) (G terms)) s end

pub build_ends : (terms : Terms) (table log list : List ℕ)
    → build_refusal terms (length table) (length log) (length list) ≡ 0 → Builds terms table log list
unfolding build_of built right_words held stack_count_of
build_ends terms table log list accepted =
    let accepts : Accepts terms (length table) (length log) (length list) =
    build-accepts terms (length table) (length log) (length list) accepted in
    let first : Store = store_of (begun terms) table log list in
    let start : Driving terms table log list first = driving-begins accepts in
    let g = accepts.given in
    let s : Store = ended terms table log list in
    let most = most_calls (N terms) (G terms) in
    let end : Stored terms s × (has_ended s.job ≡ true) =
    subst (λ (x : Store). Stored terms x × (has_ended x.job ≡ true)) (sym start.same)
    (drive-keeps g most first start.stored (omega (arith, work-most (N terms) terms.size first.job))) in
    let invariant = end.0.invariant in
    let facts : SegmentSizeFacts (N terms) terms.size = segment-size-facts (N terms) terms.size g.segments in
    let whole : joined (held s).segments ≡ s.table =
    rw (count-is invariant.shaped, size_is invariant.shaped) (joined-cut (N terms) terms.size (omega (arith, facts.least)) facts.four s.table end.0.table-long) in
    record {
      leaves = rw (eq-eqb (build_refusal terms (length table) (length log) (length list)) 0 accepted)
          (ap (λ (t : List ℕ). (t, s.log, s.list, record { refusal = 0; job = s.job })) (sym whole));
      finishes = λ none. let finished = ended-finished g invariant end.1 none in (finished, finishes-is g invariant finished);
      stands = ended-stands g invariant end.1;
      table_length = ap length whole ∙ end.0.table-long ∙ sym accepts.bytes_fit;
      log_length = invariant.shaped.log_length ∙ sym accepts.words-fit;
      list_length = end.0.list-long ∙ sym accepts.list-fits;
    }

-- by the full set it ends in a finished build
pub build-finishes : (terms : Terms) (table log list : List ℕ) → UndoesItself terms.kind → terms.groups ≡ all_groups terms.kind terms.n
    → build_refusal terms (length table) (length log) (length list) ≡ 0
    → (is_finished (built terms table log list).job.phase ≡ true) × Finishes terms (built terms table log list)
build-finishes terms table log list itself full accepted =
    let given = (build-accepts terms (length table) (length log) (length list) accepted).given in
    let f = (build_ends terms table log list accepted).finishes (none_deep given itself full) in
    (f.0, finishes-all given itself full f.1)

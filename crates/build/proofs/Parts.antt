-- A segment's part of the whole table and the front of the changed list: where they lie, and what a call that is lent them leaves.
use mathlib.Core.Path.{◌≡◌, sym, ap, ◌∙◌}
use mathlib.Core.Bool.{true}
use mathlib.Core.List.{List, ◌++◌}
use Prim.Native.Nat.{ℕ, ◌+◌, ◌-◌, ◌*◌, ◌/◌, ◌≤◌, ◌<◌}
use native.Mathlib.Omega.{arith}
use borrow.Rule.Slice.PartMut.{mid_of, put_mid, Post-is}
use lib.ListN.{take, drop}
use Rattle.search.specs.Changed.{list_bytes}
use Rattle.search.specs.Drive.{list_bytes_at}
use Rattle.search.specs.Entries.{bytes_for}
use Rattle.search.specs.JobState.{stack_count_of, segment_count_of, stack_count_at, is_coherent}
use Rattle.search.specs.Answers.{Answer}
use Rattle.search.specs.Answers.{Expanded}
use Rattle.search.specs.declared.Job.{Job}
use Rattle.search.specs.Expand.{expand_of}
use Rattle.search.specs.Load.{load_of}
use Rattle.search.specs.Segments.{stack_count_in}
use Rattle.search.specs.Sweep.{sweep_of}
use Rattle.search.proofs.Coherence.{begin-given, coherent-facts}
use Rattle.search.proofs.CutLaws.{segment-within, cut_at, joined-replaced}
use Rattle.search.proofs.SegmentLaws.{SegmentSizeFacts, segment-size-facts}
use Rattle.build.specs.Part.{LiesAt, PartFits, part_of, with_part, expanded_in, loaded_in, swept_in}

pub sizes : (job : Job) → is_coherent job ≡ true → SegmentSizeFacts (stack_count_of job) job.terms.size
unfolding stack_count_of
sizes job coherent =
    segment-size-facts (stack_count_of job) job.terms.size
    (begin-given (coherent-facts job coherent).begins).segments

-- no changed list is longer than that of segment 0
pub list-within : (job : Job) (b : ℕ) → list_bytes_at job b ≤ list_bytes (stack_count_at job 0)
unfolding list_bytes_at list_bytes stack_count_at stack_count_of stack_count_in
list-within job b = omega arith

-- a segment's part lies in the table
pub part-within : (job : Job) (j : ℕ) → is_coherent job ≡ true → j < segment_count_of job
    → j * (job.terms.size / 4) + bytes_for (stack_count_at job j) ≤ bytes_for (stack_count_of job)
unfolding segment_count_of stack_count_at stack_count_of
part-within job j coherent inside =
    let facts = sizes job coherent in
    let some : 0 < job.terms.size = omega (arith, facts.least) in
    segment-within (stack_count_of job) job.terms.size some facts.four j inside

module _ (job : Job) (j : ℕ) (table : List ℕ) (fits : PartFits job j table) (start end : ℕ) (place : LiesAt job j start end) where
  some : 0 < job.terms.size
  some = omega (arith, (sizes job fits.coherent).least)

  part-is : mid_of start (end - start) table ≡ part_of job j table
  unfolding part_of segment_count_of stack_count_at stack_count_of
  part-is =
      ap (λ (k : ℕ). take k (drop start table)) (let e : end - start ≡ bytes_for (stack_count_at job j) = omega (arith, place.starts, place.ends) in e)
      ∙ ap (λ (a : ℕ). take (bytes_for (stack_count_at job j)) (drop a table)) place.starts
      ∙ sym (cut_at (stack_count_of job) job.terms.size some (sizes job fits.coherent).four table j fits.inside)

  put_is : (new : List ℕ) → put_mid start (end - start) table new ≡ with_part job j table new
  unfolding with_part segment_count_of stack_count_at stack_count_of
  put_is new =
      ap (λ (l : List ℕ). take start table ++ (new ++ l)) (Post-is start end table (omega (arith, place.starts, place.ends)))
      ∙ ap (λ (a : ℕ). take a table ++ (new ++ drop end table)) place.starts
      ∙ ap (λ (b : ℕ). take (j * (job.terms.size / 4)) table ++ (new ++ drop b table)) place.ends
      ∙ sym (joined-replaced (stack_count_of job) job.terms.size some (sizes job fits.coherent).four table fits.bytes j new fits.inside)

  -- Blank or Settle on the part
  pub answered-in : (call : List ℕ → List ℕ × Answer) (after : List ℕ) (answer : Answer)
      → (after, answer) ≡ call (mid_of start (end - start) table)
      → ◌≡◌ {A = List ℕ × Answer} (put_mid start (end - start) table after, answer) (with_part job j table (call (part_of job j table)).0, (call (part_of job j table)).1)
  answered-in call after answer e =
      ap (λ (o : List ℕ × Answer). (put_mid start (end - start) table o.0, o.1)) (e ∙ ap call part-is)
      ∙ ap (λ (l : List ℕ). (l, (call (part_of job j table)).1)) (put_is (call (part_of job j table)).0)

  pub expanded-in : (log after log' : List ℕ) (answer : Expanded) → (after, log', answer) ≡ expand_of job j (mid_of start (end - start) table) log
      → (put_mid start (end - start) table after, log', answer) ≡ expanded_in job j table log
  unfolding expanded_in
  expanded-in log after log' answer e =
      let out = expand_of job j (part_of job j table) log in
      ap (λ (o : List ℕ × List ℕ × Expanded). (put_mid start (end - start) table o.0, o.1, o.2))
      (e ∙ ap (λ (l : List ℕ). expand_of job j l log) part-is)
      ∙ ap (λ (l : List ℕ). (l, out.1, out.2)) (put_is out.0)

  module _ (list : List ℕ) (front : ℕ) (after : List ℕ) (answer : Answer) where
    pub loaded-in : front ≡ list_bytes_at job j
        → (after, answer) ≡ load_of job j (mid_of start (end - start) table) (take front list)
        → ◌≡◌ {A = List ℕ × Answer} (after ++ drop front list, answer) (loaded_in job j table list)
    unfolding loaded_in
    loaded-in fits e =
        ap (λ (o : List ℕ × Answer). (o.0 ++ drop front list, o.1)) (e ∙ ap (λ (l : List ℕ). load_of job j l (take front list)) part-is)
        ∙ ap (λ (k : ℕ). let out = load_of job j (part_of job j table) (take k list) in (out.0 ++ drop k list, out.1)) fits

    pub swept-in : front ≡ list_bytes_at job job.loaded
        → (after, answer) ≡ sweep_of job j (mid_of start (end - start) table) (take front list)
        → (put_mid start (end - start) table after, answer) ≡ swept_in job j table list
    unfolding swept_in
    swept-in fits e =
        answered-in (λ segment. sweep_of job j segment (take front list)) after answer e
        ∙ ap (λ (k : ℕ). let out = sweep_of job j (part_of job j table) (take k list) in (with_part job j table out.0, out.1)) fits

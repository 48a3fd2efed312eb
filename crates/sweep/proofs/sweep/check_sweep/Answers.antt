-- `sweep::sweep::check_sweep` meets its contract: the row that the calls on a segment share, and then its own.
use mathlib.Core.Path.{◌≡◌, refl, sym, ap, ◌∙◌}
use mathlib.Core.Bool.{Bool, true, false, not, ◌&&◌}
use Prim.Native.Nat.{ℕ, ◌/◌, ◌%◌, ◌^◌, ◌<◌}
use borrow.Author.Tests.{eq-eqb, ne_eqb}
use lib.Dec.{eqb}
use lib.ListN.{get_or}
use Rattle.std.proofs.lemmas.Result.{err_from_is_err_and}
use Rattle.base.specs.Words.{unless}
use Rattle.stacks.specs.Refusals.{number}
use Rattle.stacks.proofs.Numbers.{row-errs, row-oks}
use Rattle.search.specs.Changed.{list_bytes}
use Rattle.search.specs.Entries.{bytes_for}
use Rattle.search.specs.JobState.{in_reverse, is_loaded, is_swept, swept_of, no_segment, stack_count_at, stack_count_of}
use Rattle.search.specs.Refusals.{call_refusal}
use Rattle.search.specs.Segments.{segment_limit}
use Rattle.search.specs.Sweep.{sweep_refusal}
use Rattle.search.specs.Terms.{m}
use Rattle.search.specs.declared.Job.{Job}
use Rattle.search.proofs.Accepted.{CallFacts, call-row}
use Rattle.search.proofs.Coherence.{coherent-facts}
use Rattle.search.proofs.PairLaws.{loaded-below}
use Rattle.job.proofs.Bounds.{coherent-begins, segment-below}
use Rattle.sweep.proofs.sweep.check_sweep.Goals.{After-lengths_fit, Else-job-eq-NO_SEGMENT, In_ok-check_call}
use Rattle.sweep.proofs.sweep.check_sweep.Goals as goal

-- what is left of the row, by what each test says, in the code's order and in the definition's
long-wide : (long wide : Bool) (rest : ℕ) → unless (long && wide) 10 rest ≡ unless long 10 (unless wide 10 rest)
long-wide true wide rest = refl
long-wide false wide rest = refl

abbrev own : Job → ℕ → ℕ → ℕ → ℕ
own job j bytes listed =
    unless (not (eqb job.loaded no_segment)) 22
    (unless (eqb bytes (bytes_for (m job.terms j)) && eqb listed (list_bytes (m job.terms job.loaded))) 10
    (unless (not (eqb (get_or job.swept job.loaded 0 / 2 ^ j % 2) 1)) 11 0))

-- the row above goes on, and the call's own tests decide
rest : (job : Job) (j bytes listed : ℕ) (reverse : Bool) → reverse ≡ in_reverse job → 0 ≡ call_refusal reverse job j 0
    → own job j bytes listed ≡ sweep_refusal job j bytes listed
unfolding sweep_refusal is_loaded is_swept swept_of stack_count_at stack_count_of
rest job j bytes listed reverse e passes =
    ap (unless (not (eqb job.loaded no_segment)) 22)
    (long-wide (eqb bytes (bytes_for (m job.terms j))) (eqb listed (list_bytes (m job.terms job.loaded))) _)
    ∙ rw (← e) (row-oks (call-row reverse job j) _ passes)

pub returns-in_err-check_call : goal.returns-in_err-check_call
unfolding sweep_refusal
returns-in_err-check_call c =
    let a = c.args in
    let p = err_from_is_err_and c.from_residual.result c.from_residual.ensures.1 in
    rw (p.1, p.2, ← c.in_reverse.ensures) (row-errs (call-row c.in_reverse.result a.job.now a.j) _ _ c.in_err-check_call.ensures)

-- the row above has gone on
passed : (c : In_ok-check_call) → let a = c.args in own a.job.now a.j a.bytes a.listed ≡ sweep_refusal a.job.now a.j a.bytes a.listed
passed c =
    let a = c.args in
    rest a.job.now a.j a.bytes a.listed c.in_reverse.result c.in_reverse.ensures c.in_ok-check_call.ensures

facts : (c : In_ok-check_call) → CallFacts c.in_reverse.result c.args.job.now c.args.j
facts c = (call-row c.in_reverse.result c.args.job.now c.args.j).asks (sym c.in_ok-check_call.ensures)

pub returns-then-job-eq-NO_SEGMENT : goal.returns-then-job-eq-NO_SEGMENT
unfolding number
returns-then-job-eq-NO_SEGMENT c =
    let job = c.args.job.now in
    rw (← passed (goal.at.returns-then-job-eq-NO_SEGMENT c).In_ok-check_call, eq-eqb job.loaded no_segment c.if-job-eq-NO_SEGMENT.true)

pub lengths_fit-requires : goal.lengths_fit-requires
lengths_fit-requires c = coherent-begins c.args.job.now (facts (goal.at.lengths_fit-requires c).In_ok-check_call).coherent

-- a segment is loaded, and the lengths and the pair decide
loaded : (c : After-lengths_fit) → let a = c.args in let job = a.job.now in
    unless c.lengths_fit.result 10 (unless (not (eqb (get_or job.swept job.loaded 0 / 2 ^ a.j % 2) 1)) 11 0) ≡ sweep_refusal job a.j a.bytes a.listed
loaded c =
    let job = c.args.job.now in
    rw (← passed (goal.at.After-lengths_fit c).In_ok-check_call, ne_eqb job.loaded no_segment c.if-job-eq-NO_SEGMENT.false, c.lengths_fit.ensures)

pub returns-then-not-lengths_fit : goal.returns-then-not-lengths_fit
unfolding number
returns-then-not-lengths_fit c = rw (← loaded (goal.at.returns-then-not-lengths_fit c).After-lengths_fit, c.if-not-lengths_fit.true)

within : (c : Else-job-eq-NO_SEGMENT) → let job = c.args.job.now in job.loaded < segment_limit
unfolding is_loaded
within c =
    let job = c.args.job.now in
    let coherent = (facts (goal.at.Else-job-eq-NO_SEGMENT c).In_ok-check_call).coherent in
    segment-below job coherent job.loaded
    (loaded-below job (coherent-facts job coherent).loaded-fits (ap not (ne_eqb job.loaded no_segment c.if-job-eq-NO_SEGMENT.false)))

pub bounds-job-job : goal.bounds-job-job
bounds-job-job c = within (goal.at.bounds-job-job c).Else-job-eq-NO_SEGMENT

pub overflow_shr-job : goal.overflow_shr-job
overflow_shr-job c =
    let f = facts (goal.at.overflow_shr-job c).In_ok-check_call in
    segment-below c.args.job.now f.coherent c.args.j f.inside

pub returns-then-job-j-eq1 : goal.returns-then-job-j-eq1
unfolding number
returns-then-job-j-eq1 c =
    let a = c.args in
    let job = a.job.now in
    rw (← loaded (goal.at.returns-then-job-j-eq1 c).After-lengths_fit, c.if-not-lengths_fit.false, eq-eqb (get_or job.swept job.loaded 0 / 2 ^ a.j % 2) 1 c.if-job-j-eq1.true)

pub returns : goal.returns
returns c =
    let a = c.args in
    let job = a.job.now in
    rw (← loaded (goal.at.returns c).After-lengths_fit, c.if-not-lengths_fit.false, ne_eqb (get_or job.swept job.loaded 0 / 2 ^ a.j % 2) 1 c.if-job-j-eq1.false)

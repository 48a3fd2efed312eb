-- `expand::expand::expand` meets its contract: a refused call, and one that runs.
use mathlib.Core.Path.{refl, sym}
use Prim.Native.Nat.{◌<◌}
use borrow.Author.Rules.{rules}
use lib.ListN.{length}
use Rattle.std.proofs.lemmas.Result.{err_from_is_err_and}
use Rattle.job.proofs.Bounds.{coherent-begins, forward-least, segment-below}
use Rattle.search.specs.JobState.{passed_of, progressed, recounted}
use Rattle.search.specs.Segments.{segment_limit}
use Rattle.search.proofs.Accepted.{LevelFacts}
use Rattle.expand.proofs.Expanding.{call_facts, refused-call, run-given, answer-is}
use Rattle.expand.proofs.expand.expand.Goals.{In_ok-check_expand}
use Rattle.expand.proofs.expand.expand.Goals as goal

pub returns-in_err-check_expand : goal.returns-in_err-check_expand
returns-in_err-check_expand c =
    let a = c.args in
    let p = err_from_is_err_and c.from_residual.result c.from_residual.ensures.1 in
    rw (p.1, p.2) (refused-call a.job.now a.j a.segment.now a.log.now _ c.in_err-check_expand.ensures)

-- what an accepted call was given
given : (c : In_ok-check_expand) → let a = c.args in LevelFacts a.job.now a.j (length a.segment.now) (length a.log.now)
given c =
    let a = c.args in
    call_facts a.job.now a.j a.segment.now a.log.now (sym c.in_ok-check_expand.ensures)

pub scan_of-scan-requires : goal.scan_of-scan-requires
scan_of-scan-requires c =
    let job = c.args.job.now in
    let g = (given (goal.at.scan_of-scan-requires c).In_ok-check_expand).called in
    (coherent-begins job g.coherent, forward-least job g.coherent g.in-phase)

-- segment j has its place among the passed numbers
place : (c : In_ok-check_expand) → let a = c.args in a.j < segment_limit
place c =
    let a = c.args in
    let f = (given c).called in
    segment-below a.job.now f.coherent a.j f.inside

pub bounds-job-j : goal.bounds-job-j
bounds-job-j c = place (goal.at.bounds-job-j c).In_ok-check_expand

pub stack_count_at-stacks-requires : goal.stack_count_at-stacks-requires
stack_count_at-stacks-requires c =
    coherent-begins c.args.job.now (given (goal.at.stack_count_at-stacks-requires c).In_ok-check_expand).called.coherent

pub run-reached-requires : goal.run-reached-requires
unfolding passed_of
run-reached-requires c =
    let a = c.args in
    run-given a.job.now a.j a.segment.now a.log.now (sym c.in_ok-check_expand.ensures) c.scan_of-scan.ensures c.stack_count_at-stacks.ensures
    c.found_at-found.ensures _ refl refl refl refl (search rules)

pub bounds-job-j-2 : goal.bounds-job-j-2
bounds-job-j-2 c = place (goal.at.bounds-job-j-2 c).In_ok-check_expand

-- search follows what the run was lent back to the caller
pub returns : goal.returns
unfolding passed_of progressed recounted
returns c =
    let a = c.args in
    answer-is a.job.now a.j a.segment.now a.log.now (sym c.in_ok-check_expand.ensures) c.scan_of-scan.ensures c.stack_count_at-stacks.ensures
    c.found_at-found.ensures c.run-reached.result c.run-reached.new.self c.run-reached.ensures.ran c.put_found.ensures (search rules) (search rules)

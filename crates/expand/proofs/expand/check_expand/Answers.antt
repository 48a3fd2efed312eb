-- `expand::expand::check_expand` meets its contract: the row above it, and then the stacks passed.
use Rattle.std.proofs.lemmas.Result.{err_from_is_err_and}
use Rattle.stacks.specs.Refusals.{number}
use Rattle.stacks.proofs.Numbers.{row-errs}
use Rattle.search.specs.Expand.{expand_refusal}
use Rattle.search.specs.JobState.{passed_of}
use Rattle.search.proofs.Accepted.{level-row}
use Rattle.job.proofs.Bounds.{coherent-begins, segment-below}
use Rattle.expand.proofs.Expanding.{level_facts, refusal-passed, refusal-none}
use Rattle.expand.proofs.expand.check_expand.Goals as goal

pub returns-in_err-check_level : goal.returns-in_err-check_level
unfolding expand_refusal
returns-in_err-check_level c =
    let a = c.args in
    let p = err_from_is_err_and c.from_residual.result c.from_residual.ensures.1 in
    rw (p.1, p.2) (row-errs (level-row a.job.now a.j a.bytes a.words) _ _ c.in_err-check_level.ensures)

pub stack_count_at-requires : goal.stack_count_at-requires
stack_count_at-requires c =
    let a = c.args in
    coherent-begins a.job.now (level_facts a.job.now a.j a.bytes a.words c.in_ok-check_level.ensures).called.coherent

pub bounds-job-j : goal.bounds-job-j
bounds-job-j c =
    let a = c.args in
    let f = (level_facts a.job.now a.j a.bytes a.words c.in_ok-check_level.ensures).called in
    segment-below a.job.now f.coherent a.j f.inside

pub returns-then-stack_count_at-job : goal.returns-then-stack_count_at-job
unfolding number passed_of
returns-then-stack_count_at-job c =
    let a = c.args in
    refusal-passed a.job.now a.j a.bytes a.words c.in_ok-check_level.ensures c.stack_count_at.ensures c.if-stack_count_at-job.true

pub returns : goal.returns
unfolding passed_of
returns c =
    let a = c.args in
    refusal-none a.job.now a.j a.bytes a.words c.in_ok-check_level.ensures c.stack_count_at.ensures c.if-stack_count_at-job.false

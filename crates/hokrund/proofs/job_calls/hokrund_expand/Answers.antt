-- `hokrund::job_calls::hokrund_expand` meets its contract: refused 7, or the outcome of the operation, its answer converted.
use mathlib.Core.Path.{ap}
use Rattle.stacks.specs.Refusals.{number}
use Rattle.search.specs.Expand.{expand_of}
use Rattle.mirror.specs.Mirror.{expanded_of, two_lent}
use Rattle.hokrund.specs.Calls.{expand_call}
use Rattle.hokrund.proofs.Wrapped.{on_job}
use Rattle.hokrund.proofs.job_calls.hokrund_expand.Goals as goal

pub returns-then-not-is_job : goal.returns-then-not-is_job
unfolding expand_call number
returns-then-not-is_job c = rw (← c.if-not-is_job.ensures, c.into.ensures, c.cleared.ensures)

pub returns : goal.returns
unfolding expand_call
returns c =
    let a = c.args in
    on_job a.job (λ job. expand_of job a.j a.segment.now a.log.now) (two_lent expanded_of) _ c.if-not-is_job.ensures c.from-called.ensures
    c.expand-outcome.ensures (ap (λ r. (c.expand-outcome.new.segment, c.expand-outcome.new.log, r)) c.new.ensures)

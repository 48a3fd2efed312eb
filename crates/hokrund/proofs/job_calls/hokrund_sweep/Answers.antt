-- `hokrund::job_calls::hokrund_sweep` meets its contract: refused 7, or the outcome of the operation, its answer converted.
use mathlib.Core.Path.{ap}
use Rattle.search.specs.Sweep.{sweep_of}
use Rattle.mirror.specs.Mirror.{answer_of, one_lent}
use Rattle.hokrund.specs.Calls.{sweep_call}
use Rattle.hokrund.proofs.Wrapped.{refused-lent, on_job}
use Rattle.hokrund.proofs.job_calls.hokrund_sweep.Goals as goal

pub returns-then-not-is_job : goal.returns-then-not-is_job
unfolding sweep_call
returns-then-not-is_job c = let f = c.refused.ensures in refused-lent c.args.job _ _ c.if-not-is_job.ensures f.refusal f.job

pub returns : goal.returns
unfolding sweep_call
returns c =
    let a = c.args in
    on_job a.job (λ job. sweep_of job a.j a.segment.now a.list.now) (one_lent answer_of) _ c.if-not-is_job.ensures c.from-called.ensures c.sweep-outcome.ensures
    (ap (λ r. (c.sweep-outcome.new.segment, r)) c.new.ensures)

-- `hokrund::job_calls::hokrund_load` meets its contract: refused 7, or the outcome of the operation, its answer converted.
use mathlib.Core.Path.{ap}
use Rattle.search.specs.Load.{load_of}
use Rattle.mirror.specs.Mirror.{answer_of, one_lent}
use Rattle.hokrund.specs.Calls.{load_call}
use Rattle.hokrund.proofs.Wrapped.{refused-lent, on_job}
use Rattle.hokrund.proofs.job_calls.hokrund_load.Goals as goal

pub returns-then-not-is_job : goal.returns-then-not-is_job
unfolding load_call
returns-then-not-is_job c = let f = c.refused.ensures in refused-lent c.args.job _ _ c.if-not-is_job.ensures f.refusal f.job

pub returns : goal.returns
unfolding load_call
returns c =
    let a = c.args in
    on_job a.job (λ job. load_of job a.b a.segment.now a.list.now) (one_lent answer_of) _ c.if-not-is_job.ensures c.from-called.ensures c.load-outcome.ensures
    (ap (λ r. (c.load-outcome.new.list, r)) c.new.ensures)

-- `hokrund::job_calls::hokrund_close` meets its contract: refused 7, or the answer of the operation, converted.
use mathlib.Core.Path.{ap, ◌∙◌}
use Rattle.search.specs.Close.{close_of}
use Rattle.mirror.specs.Mirror.{way_of, answer_of}
use Rattle.hokrund.specs.Calls.{close_call}
use Rattle.hokrund.proofs.Wrapped.{refused, on_job}
use Rattle.hokrund.proofs.job_calls.hokrund_close.Goals as goal

pub returns-then-not-is_job : goal.returns-then-not-is_job
unfolding close_call
returns-then-not-is_job c = let f = c.refused.ensures in refused c.args.job _ c.if-not-is_job.ensures f.refusal f.job

pub returns : goal.returns
unfolding close_call
returns c =
    let a = c.args in
    on_job a.job (λ job. close_of job (way_of a.way)) answer_of _ c.if-not-is_job.ensures c.from-called.ensures
    (c.close-outcome.ensures ∙ ap (λ w. close_of c.from-called.result w) c.way_of.ensures) c.new.ensures

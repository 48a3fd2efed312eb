-- `hokrund::job_calls::hokrund_look` meets its contract: refused 7, or where the part of the operation stands.
use mathlib.Core.Path.{refl, ap, ◌∙◌}
use mathlib.Core.List.{[]}
use Rattle.search.specs.Look.{look_of}
use Rattle.stacks.specs.Refusals.{number}
use Rattle.stacks.proofs.Numbers.{number-some}
use Rattle.mirror.specs.Mirror.{job_of}
use Rattle.hokrund.specs.Calls.{look_call}
use Rattle.hokrund.proofs.LookLaws.{looked, not-looked, no_part}
use Rattle.hokrund.proofs.job_calls.hokrund_look.Goals as goal

pub returns-then-not-is_job : goal.returns-then-not-is_job
unfolding look_call number
returns-then-not-is_job c =
    let f = c.refused.ensures in
    rw (← c.if-not-is_job.ensures) (no_part c.args.log.now f.refusal f.part.0 f.part.1)

pub returns-in-Ok : goal.returns-in-Ok
unfolding look_call job_of
returns-in-Ok c =
    let a = c.args in
    rw (← c.if-not-is_job.ensures)
    (looked (job_of a.job) a.j a.log.now c.in-Ok.part.now 0 (c.in-Ok.ensures ∙ ap (λ job. look_of job a.j a.log.now) c.from.ensures) refl)

pub returns-in-Err : goal.returns-in-Err
unfolding look_call job_of
returns-in-Err c =
    let a = c.args in
    let f = c.refused-in-Err.ensures in
    let n = number c.in-Err.refusal in
    rw (← c.if-not-is_job.ensures)
    (no_part a.log.now f.refusal f.part.0 f.part.1
    ∙ not-looked (job_of a.job) a.j a.log.now [] n (c.in-Err.ensures ∙ ap (λ job. look_of job a.j a.log.now) c.from.ensures) (number-some c.in-Err.refusal))

-- `close::close::close` meets its contract: the refusal and the job as it was, or the job of the next phase.
use mathlib.Core.Path.{sym, ap, ◌∙◌}
use Prim.Native.Nat.{ℕ}
use Rattle.std.proofs.lemmas.Result.{err_from_is_err_and}
use Rattle.stacks.proofs.Numbers.{number-some}
use Rattle.search.specs.Answers.{Answer}
use Rattle.search.specs.declared.Job.{Job}
use Rattle.search.specs.JobState.{recounted, progressed, directed}
use Rattle.search.proofs.Accepted.{close_facts, close-accepted, close-refused}
use Rattle.search.proofs.Coherence.{coherent-facts}
use Rattle.close.proofs.Closing.{closed_is}
use Rattle.close.proofs.close.close.Goals as goal

pub returns-in_err-check_close : goal.returns-in_err-check_close
returns-in_err-check_close c =
    let job = c.args.job.now in
    let e = c.in_err-check_close.ensures in
    let p = err_from_is_err_and c.from_residual.result c.from_residual.ensures.1 in
    rw (p.1, p.2)
    (ap {B = Answer} (λ (r : ℕ). record { refusal = r; job = job }) e ∙ sym (close-refused job c.args.way (λ z. number-some _ (e ∙ z))))

pub next_phase-phase-requires : goal.next_phase-phase-requires
next_phase-phase-requires c =
    let job = c.args.job.now in
    let f = close_facts job (sym c.in_ok-check_close.ensures) in
    ((coherent-facts job f.coherent).phase-fits, f.fits)

pub returns : goal.returns
unfolding recounted progressed directed
returns c =
    let job = c.args.job.now in
    let way = c.args.way in
    ap {B = Answer} (λ (j : Job). record { refusal = 0; job = j }) (closed_is job way _ _ c.next_phase-phase.ensures c.next_counts.ensures)
    ∙ sym (close-accepted job way (sym c.in_ok-check_close.ensures))

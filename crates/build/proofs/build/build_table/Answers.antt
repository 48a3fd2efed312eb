-- `build::build::build_table` meets its contract: the loop drives the build to its end.
use mathlib.Core.Path.{◌≡◌, sym, ◌∙◌}
use mathlib.Core.Bool.{false}
use lib.ListN.{length}
use Rattle.std.proofs.lemmas.Result.{err_from_is_err_and}
use Rattle.search.specs.Drive.{has_ended}
use Rattle.search.proofs.WholeTable.{driving-coherent, driving-bytes, driving-list, driving-steps, driving-falls}
use Rattle.build.proofs.Building.{begin-refused, begin-accepted, begin-refuses, build_begins, build-refused, build_ends}
use Rattle.build.proofs.build.build_table.Goals.{In-loop-job}
use Rattle.build.proofs.build.build_table.Goals as goal

pub returns-in_err-job : goal.returns-in_err-job
returns-in_err-job c =
    let a = c.args in
    let p = err_from_is_err_and c.from_residual.result c.from_residual.ensures.1 in
    rw (p.1, p.2)
    (build-refused a.terms a.table.now a.log.now a.list.now _
    (begin-refuses a.terms (length a.table.now) (length a.log.now) (length a.list.now) _ (begin-refused a.terms _ c.in_err-job.ensures)))

pub check_lent-requires : goal.check_lent-requires
check_lent-requires c = (begin-accepted c.args.terms c.in_ok-job.job c.in_ok-job.ensures).0

pub returns-in_err-check_lent : goal.returns-in_err-check_lent
returns-in_err-check_lent c =
    let a = c.args in
    let out = c.from_residual-in_err-check_lent in
    let p = err_from_is_err_and out.result out.ensures.1 in
    rw (p.1, p.2) (build-refused a.terms a.table.now a.log.now a.list.now _ c.in_err-check_lent.ensures)

pub loop-job-init : goal.loop-job-init
loop-job-init c =
    let a = c.args in
    let job = c.in_ok-job.job in
    build_begins a.terms a.table.now a.log.now a.list.now job (begin-accepted a.terms job c.in_ok-job.ensures).1 c.in_ok-check_lent.ensures

pub advance-requires : goal.advance-requires
advance-requires c =
    let driving = c.loop-job.invariant in
    record { coherent = driving-coherent driving; bytes = driving-bytes driving; listed = driving-list driving }

goes_on : (c : In-loop-job) → has_ended c.loop-job.job ≡ false
goes_on c = sym c.has_ended.ensures ∙ c.loop-job-test.true

pub loop-job-smaller : goal.loop-job-smaller
loop-job-smaller c = driving-falls c.loop-job.invariant c.advance.ensures (goes_on (goal.at.loop-job-smaller c).In-loop-job)

pub loop-job-preserved : goal.loop-job-preserved
loop-job-preserved c = driving-steps c.loop-job.invariant c.advance.ensures (goes_on (goal.at.loop-job-preserved c).In-loop-job)

pub returns : goal.returns
returns c =
    let a = c.args in
    build_ends a.terms a.table.now a.log.now a.list.now c.in_ok-check_lent.ensures c.loop-job.invariant
    (sym c.has_ended.ensures ∙ c.loop-job-test.false)

-- `sweep::sweep::sweep` meets its contract: the refusal and nothing changed, or the marked segment, and the pair noted.
use mathlib.Core.Path.{◌≡◌, sym, ap, ◌∙◌}
use mathlib.Core.List.{List}
use Prim.Native.Nat.{ℕ}
use lib.ListN.{length}
use Rattle.std.proofs.lemmas.Result.{err_from_is_err_and}
use Rattle.stacks.proofs.Numbers.{number-some}
use Rattle.search.specs.JobState.{swept_of, count_of, progressed, recounted, directed}
use Rattle.search.specs.Sweep.{sweep_refusal}
use Rattle.search.specs.Answers.{Answer}
use Rattle.search.proofs.Accepted.{sweep-refused}
use Rattle.sweep.proofs.Sweeping.{sweep-begins, sweep-below, loaded-within, level-some, pair_fits, run_fits, sweep-is}
use Rattle.sweep.proofs.sweep.sweep.Goals.{In_ok-check_sweep}
use Rattle.sweep.proofs.sweep.sweep.Goals as goal

pub returns-in_err-check_sweep : goal.returns-in_err-check_sweep
returns-in_err-check_sweep c =
    let a = c.args in
    let job = a.job.now in
    let e = c.in_err-check_sweep.ensures in
    let p = err_from_is_err_and c.from_residual.result c.from_residual.ensures.1 in
    rw (p.1, p.2)
    (ap {B = List ℕ × Answer} (λ (r : ℕ). (a.segment.now, record { refusal = r; job = job })) e
    ∙ sym (sweep-refused job a.j a.segment.now a.list.now (λ z. number-some _ (e ∙ z))))

-- nothing is refused
accepted : (c : In_ok-check_sweep) → let a = c.args in sweep_refusal a.job.now a.j (length a.segment.now) (length a.list.now) ≡ 0
accepted c = sym c.in_ok-check_sweep.ensures

pub overflow_sub-level : goal.overflow_sub-level
overflow_sub-level c =
    let a = c.args in
    level-some a.job.now a.j a.segment.now a.list.now (accepted (goal.at.overflow_sub-level c).In_ok-check_sweep) c.level-level.result c.level-level.ensures

pub stack_count_at-stacks-requires : goal.stack_count_at-stacks-requires
stack_count_at-stacks-requires c =
    let a = c.args in
    sweep-begins a.job.now a.j a.segment.now a.list.now (accepted (goal.at.stack_count_at-stacks-requires c).In_ok-check_sweep)

pub turns_of-requires : goal.turns_of-requires
turns_of-requires c =
    let a = c.args in
    sweep-begins a.job.now a.j a.segment.now a.list.now (accepted (goal.at.turns_of-requires c).In_ok-check_sweep)

pub sweep_run-marked-requires : goal.sweep_run-marked-requires
unfolding count_of
sweep_run-marked-requires c =
    let a = c.args in
    run_fits a.job.now a.j a.segment.now a.list.now (accepted (goal.at.sweep_run-marked-requires c).In_ok-check_sweep)
    c.turns_of.result c.turns_of.ensures c.level-level.result c.next_entry.result c.stack_count_at-stacks.result
    c.level-level.ensures c.next_entry.ensures c.stack_count_at-stacks.ensures
    c.found_at-found.result c.found_at-found.ensures

pub overflow_shl-job : goal.overflow_shl-job
overflow_shl-job c =
    let a = c.args in
    sweep-below a.job.now a.j a.segment.now a.list.now (accepted (goal.at.overflow_shl-job c).In_ok-check_sweep)

pub bounds-job-job : goal.bounds-job-job
bounds-job-job c =
    let a = c.args in
    loaded-within a.job.now a.j a.segment.now a.list.now (accepted (goal.at.bounds-job-job c).In_ok-check_sweep)

pub overflow_add-job : goal.overflow_add-job
unfolding swept_of
overflow_add-job c =
    let a = c.args in
    record { fits = pair_fits a.job.now a.j a.segment.now a.list.now (accepted (goal.at.overflow_add-job c).In_ok-check_sweep) }

pub bounds-job-job-2 : goal.bounds-job-job-2
bounds-job-job-2 c =
    let a = c.args in
    loaded-within a.job.now a.j a.segment.now a.list.now (accepted (goal.at.bounds-job-job-2 c).In_ok-check_sweep)

pub returns : goal.returns
unfolding count_of swept_of directed progressed recounted
returns c =
    let a = c.args in
    let job = a.job.now in
    sweep-is job a.j a.segment.now a.list.now (accepted (goal.at.returns c).In_ok-check_sweep)
    c.turns_of.result c.turns_of.ensures c.level-level.result c.next_entry.result c.stack_count_at-stacks.result
    c.level-level.ensures c.next_entry.ensures c.stack_count_at-stacks.ensures
    c.found_at-found.result c.found_at-found.ensures
    c.sweep_run-marked.result c.sweep_run-marked.new.segment c.sweep_run-marked.ensures
    (recounted job c.put_found.new.counts) (ap (recounted job) c.put_found.ensures)

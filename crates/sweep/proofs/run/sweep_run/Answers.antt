-- `sweep::run::sweep_run` meets its contract. The loop's invariant: the marks that the stacks before `at` leave.
use mathlib.Core.Path.{◌∙◌}
use Rattle.sweep.proofs.Running.{swept_none, base-fits, swept_same, stack-fits, stack-byte, reach-fits, mark-fits, swept-seen}
use Rattle.sweep.proofs.Running.{swept-unreached, swept-reached}
use Rattle.sweep.proofs.run.sweep_run.Goals.{then-get_entry-eq-UNSEEN+then-is_reached, else-get_entry-eq-UNSEEN}
use Rattle.sweep.proofs.run.sweep_run.Goals.{else-get_entry-eq-UNSEEN-via-then-get_entry-eq-UNSEEN+else-is_reached, else-get_entry-eq-UNSEEN-via-else-get_entry-eq-UNSEEN}
use Rattle.sweep.proofs.run.sweep_run.Goals as goal

pub overflow_mul-base : goal.overflow_mul-base
overflow_mul-base c = record { fits = base-fits c.requires }

pub loop-at-init : goal.loop-at-init
loop-at-init c = swept_none c.requires

pub get_entry-requires : goal.get_entry-requires
get_entry-requires c = stack-byte c.loop-at.invariant c.loop-at-test.true

pub overflow_add-index : goal.overflow_add-index
overflow_add-index c = record { fits = stack-fits c.loop-at.invariant c.loop-at-test.true }

pub is_reached-requires : goal.is_reached-requires
is_reached-requires c = reach-fits c.loop-at.invariant c.loop-at-test.true

pub mark_stack-found-requires : goal.mark_stack-found-requires
mark_stack-found-requires c = mark-fits c.loop-at.invariant c.loop-at-test.true

pub loop-at-preserved : goal.loop-at-preserved
loop-at-preserved c =
    let r = c.loop-at.invariant in
    let more = c.loop-at-test.true in
    elim c.if-get_entry-eq-UNSEEN.branch [
      | then-get_entry-eq-UNSEEN+then-is_reached w ↦
          swept_same (swept-reached r more w.is_reached.ensures w.if-is_reached.true w.mark_stack-found.ensures) w.segment-is w.found-is
      | else-get_entry-eq-UNSEEN w ↦
          swept_same
          (elim w.else-get_entry-eq-UNSEEN.branch [
            | else-get_entry-eq-UNSEEN-via-then-get_entry-eq-UNSEEN+else-is_reached u ↦ swept-unreached r more u.is_reached.ensures u.if-is_reached.false
            | else-get_entry-eq-UNSEEN-via-else-get_entry-eq-UNSEEN u ↦
                swept-seen r more (λ e. u.if-get_entry-eq-UNSEEN.false (c.get_entry.ensures ∙ e))
          ])
          w.segment-is w.found-is
    ]

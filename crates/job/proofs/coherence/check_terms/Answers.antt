-- `job::coherence::check_terms` meets its contract: behind the wanted stack's row the set, and then S and C.
use Rattle.stacks.specs.Refusals.{number}
use Rattle.job.proofs.Refusing.{set-ok}
use Rattle.job.proofs.coherence.check_terms.Goals as goal

pub returns-then-not-is_segment_size : goal.returns-then-not-is_segment_size
unfolding number
returns-then-not-is_segment_size c =
    let told = c.in_ok-panes.ensures in
    rw (← set-ok c.args.terms told.refusal (rw (told.panes.0, told.panes.1) at c.in_ok-new.ensures.refusal), ← told.panes.0, ← told.panes.1, ← c.stack_count.ensures, ← c.is_segment_size.ensures, c.if-not-is_segment_size.true)

pub returns-then-not-is_log_room : goal.returns-then-not-is_log_room
unfolding number
returns-then-not-is_log_room c =
    let told = c.in_ok-panes.ensures in
    rw (← set-ok c.args.terms told.refusal (rw (told.panes.0, told.panes.1) at c.in_ok-new.ensures.refusal), ← told.panes.0, ← told.panes.1, ← c.stack_count.ensures, ← c.is_segment_size.ensures, c.if-not-is_segment_size.false, ← c.is_log_room.ensures, c.if-not-is_log_room.true)

pub returns : goal.returns
returns c =
    let told = c.in_ok-panes.ensures in
    rw (← set-ok c.args.terms told.refusal (rw (told.panes.0, told.panes.1) at c.in_ok-new.ensures.refusal), ← told.panes.0, ← told.panes.1, ← c.stack_count.ensures, ← c.is_segment_size.ensures, c.if-not-is_segment_size.false, ← c.is_log_room.ensures, c.if-not-is_log_room.false)

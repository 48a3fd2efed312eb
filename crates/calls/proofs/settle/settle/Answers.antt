-- `calls::settle::settle` meets its contract: the offsets that wait may be marked, and the marked segment and the empty log are the definition's.
use Rattle.search.specs.JobState.{count_of, progressed, recounted}
use Rattle.calls.proofs.Settling.{settle_fits, settle_oks}
use Rattle.calls.proofs.settle.settle.Goals as goal

pub mark_all-marked-requires : goal.mark_all-marked-requires
unfolding count_of
mark_all-marked-requires c =
    let a = c.args in
    settle_fits a.job.now a.j a.segment.now a.log.now c.in_ok-check_settle.ensures c.waiting_part-offsets.result.now
    c.waiting_part-offsets.ensures
    c.level-level.result
    c.next_entry-label.result
    c.found_at-found.result
    c.next_entry-label.ensures
    c.found_at-found.ensures

pub returns : goal.returns
unfolding count_of progressed recounted
returns c =
    let a = c.args in
    settle_oks a.job.now a.j a.segment.now a.log.now c.in_ok-check_settle.ensures c.waiting_part-offsets.result.now
    c.waiting_part-offsets.ensures
    c.level-level.result
    c.next_entry-label.result
    c.found_at-found.result
    c.next_entry-label.ensures
    c.found_at-found.ensures
    c.mark_all-marked.result
    c.mark_all-marked.new.segment
    c.put_found.new.counts
    c.level-level.ensures
    c.mark_all-marked.ensures
    c.put_found.ensures

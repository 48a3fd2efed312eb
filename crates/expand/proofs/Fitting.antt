-- What a scan that fits says of its numbers.
use Prim.Native.Nat.{◌^◌, ◌<◌, ◌≤◌}
use native.Mathlib.Omega.{arith}
use Rattle.stacks.proofs.KindLaws.{count_fits}
use Rattle.search.specs.JobState.{stack_count_of}
use Rattle.search.specs.Segments.{segment_limit, most_size, most_room}
use Rattle.search.proofs.SegmentLaws.{SegmentSizeFacts, LogRoomFacts, segment-size-facts, log-room-facts}
use Rattle.search.proofs.Turning.{Moves, set-turns}
use Rattle.perm.specs.Moves.{most_moves}
use Rattle.perm.specs.Panes.{kind_of}
use Rattle.expand.specs.Scan.{ScanFits, scan_job, moves_in}
use Rattle.expand.specs.declared.scan.Scan.{Scan}

-- the moves of a scan are moves, and few
pub scan-moves : (scan : Scan) → Moves (kind_of scan.set.panes) scan.set.panes.n (moves_in scan.set)
scan-moves scan = set-turns (kind_of scan.set.panes) scan.set.panes.n scan.set.panes.in_range scan.set.groups scan.set.named

pub record ScanFacts (scan : Scan) : Type 0 where
  pub some : 0 < scan.size
  pub panes-most : scan.size ≤ most_size
  pub few : scan.segments ≤ segment_limit
  pub room_most : scan.room ≤ most_room
  pub turns-few : scan.turns ≤ most_moves
  pub count_fits : stack_count_of (scan_job scan) < 2 ^ 32

pub scan-facts : (scan : Scan) → ScanFits scan → ScanFacts scan
unfolding stack_count_of scan_job
scan-facts scan fit =
    let sizes : SegmentSizeFacts (stack_count_of (scan_job scan)) scan.size = segment-size-facts (stack_count_of (scan_job scan)) scan.size fit.size_fits in
    let rooms : LogRoomFacts scan.room = log-room-facts scan.room fit.room_fits in
    record {
      some = omega arith;
      panes-most = sizes.most;
      few = omega arith;
      room_most = rooms.most;
      turns-few = omega (arith, (scan-moves scan).few);
      count_fits = count_fits (kind_of scan.set.panes) scan.set.panes.n scan.set.panes.in_range;
    }

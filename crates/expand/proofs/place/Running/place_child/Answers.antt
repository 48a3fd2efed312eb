-- `expand::place::Running::place_child` meets its contract: a child of this segment, and a child of another.
use mathlib.Core.Path.{refl}
use native.Mathlib.Omega.{arith}
use lib.ListN.{length-take, length-drop}
use Rattle.expand.specs.Scan.{scan_job}
use Rattle.expand.proofs.Fitting.{scan-facts}
use Rattle.expand.proofs.Placing.{LogPlace, child-marks, log-place, placed-here, placed-elsewhere}
use Rattle.expand.proofs.place.Running.place_child.Goals.{Else-t-scan}
use Rattle.expand.proofs.place.Running.place_child.Goals as goal

-- a child of another segment
place : (c : Else-t-scan)
    → let a = c.args in LogPlace a.scan a.child a.self.now.log.now a.self.now.waiting.now
place c = log-place c.requires c.if-t-scan.false

pub nonzero_div-t : goal.nonzero_div-t
nonzero_div-t c = (scan-facts c.args.scan c.requires.fit).some

pub nonzero_rem-offset : goal.nonzero_rem-offset
nonzero_rem-offset c = (scan-facts c.args.scan c.requires.fit).some

pub mark_stack-self-requires : goal.mark_stack-self-requires
mark_stack-self-requires c =
    child-marks c.requires c.if-t-scan.true

pub returns-then-t-scan-clause-placed : goal.returns-then-t-scan-clause-placed
unfolding scan_job
returns-then-t-scan-clause-placed c =
    placed-here c.requires c.if-t-scan.true (c.mark_stack-self.ensures (scan_job c.args.scan).terms refl)

pub bounds-self-t : goal.bounds-self-t
bounds-self-t c = omega (arith, place (goal.at.bounds-self-t c).Else-t-scan)

pub offset_bounds-self-start : goal.offset_bounds-self-start
offset_bounds-self-start c = omega (arith, place (goal.at.offset_bounds-self-start c).Else-t-scan)

pub slice_bounds-append-start : goal.slice_bounds-append-start
slice_bounds-append-start c = omega (arith, place (goal.at.slice_bounds-append-start c).Else-t-scan)

pub slice_bounds-append-count : goal.slice_bounds-append-count
slice_bounds-append-count c = omega (arith, place (goal.at.slice_bounds-append-count c).Else-t-scan)

pub append-requires : goal.append-requires
append-requires c = simp (length-take, length-drop) (omega (arith, place (goal.at.append-requires c).Else-t-scan))

pub overflow_add-self : goal.overflow_add-self
overflow_add-self c = omega (arith, place (goal.at.overflow_add-self c).Else-t-scan)

pub bounds-self-t-2 : goal.bounds-self-t-2
bounds-self-t-2 c = omega (arith, place (goal.at.bounds-self-t-2 c).Else-t-scan)

pub returns-clause-placed : goal.returns-clause-placed
returns-clause-placed c =
    placed-elsewhere c.requires c.if-t-scan.false c.append.ensures

-- `expand::place::Running::run` meets its contract. The loop's invariant: what is left to run from stack `at` on is what there was to run.
use mathlib.Core.Path.{◌≡◌, sym, ◌∙◌}
use Prim.Native.Nat.{◌+◌, ◌*◌}
use native.Mathlib.Omega.{arith}
use lib.ListN.{take, length-take}
use Rattle.stacks.proofs.KindLaws.{count_fits}
use Rattle.perm.specs.Panes.{kind_of}
use Rattle.expand.proofs.Fitting.{scan-facts}
use Rattle.expand.proofs.Running.{base-inside, children_at, array-children, array-long, run_end, run-same, run-byte, run_inside, run-skipped, run-blocked, run-children, run-placed}
use Rattle.expand.proofs.place.Running.run.Goals.{After-children_of-children, then-entry-scan+in_default, else-entry-scan}
use Rattle.expand.proofs.place.Running.run.Goals as goal

pub overflow_mul-base : goal.overflow_mul-base
overflow_mul-base c =
    omega (arith, base-inside c.args.scan c.requires.fit, scan-facts c.args.scan c.requires.fit)

pub entry-requires : goal.entry-requires
entry-requires c = run-byte c.loop-at.invariant c.loop-at-test.true

pub overflow_add-base : goal.overflow_add-base
overflow_add-base c =
    let scan = c.args.scan in
    omega (arith, run_inside c.loop-at.invariant c.loop-at-test.true, count_fits (kind_of scan.set.panes) scan.set.panes.n scan.set.panes.in_range)

pub children_of-children-requires : goal.children_of-children-requires
children_of-children-requires c = run_inside c.loop-at.invariant c.loop-at-test.true

pub slice_bounds-children-end : goal.slice_bounds-children-end
slice_bounds-children-end c =
    let scan = c.args.scan in
    array-long scan c.requires.fit (scan.j * scan.size + c.loop-at.at) c.children_of-children.result c.children_of-children.ensures

pub slice_bounds-children-end-then-entry-scan : goal.slice_bounds-children-end-then-entry-scan
slice_bounds-children-end-then-entry-scan c =
    let scan = c.args.scan in
    let array = c.children_of-children.result in
    omega (arith, length-take scan.turns array, array-long scan c.requires.fit (scan.j * scan.size + c.loop-at.at) array c.children_of-children.ensures)

-- the slice of the array is the stack's children
are : (c : After-children_of-children) → let scan = c.args.scan in
    take scan.turns c.children_of-children.result ≡ children_at scan c.loop-at.at
are c =
    let scan = c.args.scan in
    array-children scan c.requires.fit (scan.j * scan.size + c.loop-at.at) c.children_of-children.result c.children_of-children.ensures

pub returns-in-Some-clause-ran : goal.returns-in-Some-clause-ran
returns-in-Some-clause-ran c =
    run-blocked c.loop-at.invariant c.loop-at-test.true (sym c.entry.ensures ∙ c.if-entry-scan.true)
    (are (goal.at.returns-in-Some-clause-ran c).After-children_of-children) c.in-Some.ensures

pub place_all-requires : goal.place_all-requires
place_all-requires c =
    run-children c.loop-at.invariant c.loop-at-test.true (sym c.entry.ensures ∙ c.if-entry-scan.true)
    (are (goal.at.place_all-requires c).After-children_of-children) c.in_default.ensures

pub loop-at-preserved : goal.loop-at-preserved
loop-at-preserved c =
    let r = c.loop-at.invariant in
    let scan = c.args.scan in
    let more = c.loop-at-test.true in
    elim c.if-entry-scan.branch [
      | then-entry-scan+in_default w ↦ run-same
          (run-placed r more (sym c.entry.ensures ∙ w.if-entry-scan.true)
          (array-children scan c.requires.fit (scan.j * scan.size + c.loop-at.at) w.children_of-children.result w.children_of-children.ensures)
          w.in_default.ensures w.place_all.ensures.same w.place_all.ensures.placed)
          w.self-is
      | else-entry-scan w ↦ run-same (run-skipped r more (λ e. w.if-entry-scan.false (c.entry.ensures ∙ e))) w.self-is
    ]

pub returns-clause-ran : goal.returns-clause-ran
returns-clause-ran c = run_end c.loop-at.invariant c.loop-at-test.false

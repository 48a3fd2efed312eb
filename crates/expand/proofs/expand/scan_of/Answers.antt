-- `expand::expand::scan_of` meets its contract.
use mathlib.Core.Path.{ap, ◌∙◌}
use Prim.Native.Nat.{ℕ}
use Rattle.expand.specs.Scan.{scan_for}
use Rattle.expand.proofs.Expanding.{scan-is}
use Rattle.expand.proofs.expand.scan_of.Goals as goal

pub returns : goal.returns
returns c =
    let a = c.args in (
      scan-is c.turns_of-set.result a.job.now.terms c.level-level.result a.j c.segment_count_of.ensures.0 c.count.ensures
          (rw c.level-level.ensures c.requires.1) c.next_entry.ensures
          ∙ ap (λ (d : ℕ). scan_for c.turns_of-set.result a.job.now.terms d a.j) c.level-level.ensures,
      c.turns_of-set.ensures,
    )

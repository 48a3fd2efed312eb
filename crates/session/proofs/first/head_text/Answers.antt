-- `session::first::head_text` meets its contract.
use mathlib.Core.Path.{subst}
use mathlib.Core.List.{◌++◌}
use Prim.Native.Nat.{ℕ}
use Rattle.base.specs.Words.{total}
use Rattle.text.specs.Output.{level_counts, level_lines, deepest_line, total_line}
use Rattle.text.specs.Written.{Wrote}
use Rattle.text.specs.Report.{printed_total, head_text}
use Rattle.session.proofs.first.head_text.Goals as goal

pub returns : goal.returns
unfolding head_text printed_total
returns c =
    let a = c.args in
    subst
    (λ (d : ℕ). (let counts = a.job.now.counts in
    Wrote (level_lines d counts ++ deepest_line d ++ total_line (total (level_counts d counts))) a.out.now c.write_head.new.out c.write_head.result))
    c.level.ensures c.write_head.ensures

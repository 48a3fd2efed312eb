-- `close::close::check_close` meets its contract.
use mathlib.Core.Path.{sym, ◌∙◌}
use Rattle.job.proofs.Bounds.{coherent-begins}
use Rattle.close.proofs.close.check_close.Goals as goal

pub is_ready-requires : goal.is_ready-requires
is_ready-requires c = coherent-begins c.args.job.now (sym c.is_coherent.ensures ∙ c.if-not-is_coherent.false)

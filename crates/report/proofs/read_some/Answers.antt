-- `report::read_some` meets its contract: where nothing could be read, the table is as no character left it.
use Rattle.std.proofs.Common.{[], refl}
use Rattle.text.specs.Reader.{read_all}
use Rattle.report.proofs.Feeding.{on-err}
use Rattle.report.proofs.read_some.Goals as goal

pub returns-in_err-got-clause-err : goal.returns-in_err-got-clause-err
unfolding read_all
returns-in_err-got-clause-err g c = on-err c.from_residual.result ([], refl)

-- The number of the interface that include/hokrund.h declares.
use Rattle.std.specs.Prelude.{ℕ}

abbrev pub interface_version : ℕ
interface_version = 6

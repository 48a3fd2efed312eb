-- Rounding to the penny, halves up (document 02, F-1). Only its own law and the proof of the code's one leaf look into it.
use Rattle.std.specs.Prelude.{cond, ℕ, ◌+◌, ◌/◌, ◌%◌, leb}

-- the whole pennies, and one more where half a penny or more is left
unfoldable pub rounded : ℕ → ℕ
rounded thousandths = thousandths / 1000 + cond (leb 500 (thousandths % 1000)) 1 0

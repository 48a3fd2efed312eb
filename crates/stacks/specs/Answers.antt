-- What the definitions of the operations on stacks answer. refusal is the refusal's number, and 0 where the call did its work.
use Rattle.std.specs.Prelude.{List, ℕ, ℤ}

-- of Index of a stack: 0 stands beside a refusal
pub record Indexed : Type 0 where
  pub refusal : ℕ
  pub index : ℕ

-- of Stack at an index and of Turn: zeros stand beside a refusal
pub record Stacked : Type 0 where
  pub refusal : ℕ
  pub stack : List ℤ

-- What the definition of Price answers: the refusal's number, 0 where the call did its work; how many turns stand at the front of the list, and what they
-- cost in pennies, zeros beside a refusal.
use Rattle.std.specs.Prelude.{ℕ}

pub record Priced : Type 0 where
  pub refusal : ℕ
  pub turns : ℕ
  pub pennies : ℕ

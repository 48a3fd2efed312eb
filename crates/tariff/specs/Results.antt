-- Price's result as the answer that its definition speaks of: the refusal's number, 0 for none, and what stands beside it.
use Rattle.std.specs.Prelude.{Result, Ok, Err}
use Rattle.stacks.specs.Refusals.{number}
use Rattle.stacks.specs.declared.refusal.Refusal.{Refusal}
use Rattle.tariff.specs.declared.Cost.{Cost}
use Rattle.tariff.specs.Answers.{Priced}

abbrev pub as_priced : Result Cost Refusal → Priced
as_priced (Ok cost) = record { refusal = 0; turns = cost.turns; pennies = cost.pennies }
as_priced (Err r) = record { refusal = number r; turns = 0; pennies = 0 }

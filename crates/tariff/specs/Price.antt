-- Price: what it leaves in the turn list, and its answer (document 02, F-1).
use Rattle.std.specs.Prelude.{cond, List, map, ℕ, eqb, ℤ, length, take}
use Rattle.base.specs.Words.{total}
use Rattle.stacks.specs.Turn.{last_turn}
use Rattle.search.specs.Plan.{plan_refusal, plan_of}
use Rattle.tariff.specs.Rounding.{rounded}
use Rattle.tariff.specs.Tariffs.{tariff_lines, tariff_refusal, price_at}
use Rattle.tariff.specs.Answers.{Priced}
use Rattle.tariff.specs.declared.Tariff.{Tariff}

-- what some turns cost, by the price of each size: the sum, in thousandths of a penny, rounded once
unfoldable pub cost_of : (ℕ → ℕ) → List ℕ → ℕ
cost_of price turns = rounded (total (map price turns))

-- Plan's refusals, and then 17, 18, 19: the sizes are those from 1 to the last turn of that kind and n
unfoldable pub price_refusal : ℕ → ℕ → List ℤ → List ℤ → ℕ → List ℕ → ℕ → Tariff → ℕ
price_refusal kind n wanted given groups table slots tariff =
    plan_refusal kind n wanted given groups table slots (tariff_refusal (last_turn kind n) tariff)

-- Plan's plan, its list and its number of turns, and what these turns cost; refused, the list as it was and zeros
unfoldable pub price_of : ℕ → ℕ → List ℤ → List ℤ → ℕ → List ℕ → List ℕ → Tariff → List ℕ × Priced
price_of kind n wanted given groups table list tariff =
    let r = price_refusal kind n wanted given groups table (length list) tariff in
    let plan = plan_of kind n wanted given groups table list in
    cond (eqb r 0)
    (plan.0, record { refusal = 0; turns = plan.1.turns; pennies = cost_of (price_at (tariff_lines tariff)) (take plan.1.turns plan.0) })
    (list, record { refusal = r; turns = 0; pennies = 0 })

-- The answers of Price: what Plan refuses, what the tariff refuses, and the priced plan.
use mathlib.Core.Path.{◌≡◌, refl, sym, ap, ◌∙◌}
use mathlib.Core.Bool.{cond}
use mathlib.Core.List.{List, ◌++◌, map}
use Prim.Native.Nat.{ℕ}
use lib.Dec.{eqb}
use lib.IntN.{ℤ}
use lib.ListN.{length, take, drop}
use lib.Seq.{take_at}
use borrow.Author.Tests.{ne_eqb}
use Rattle.base.specs.Words.{total}
use Rattle.stacks.specs.Refusals.{number}
use Rattle.stacks.specs.Turn.{last_turn, turns_in}
use Rattle.stacks.specs.declared.refusal.Refusal.{Refusal}
use Rattle.stacks.proofs.Numbers.{number-some}
use Rattle.search.specs.Answers.{Planned}
use Rattle.search.specs.Plan.{plan_refusal, route_from}
use Rattle.plan.proofs.Answers.{plan-accepted}
use Rattle.tariff.specs.Price.{cost_of, price_refusal, price_of}
use Rattle.tariff.specs.Rounding.{rounded}
use Rattle.tariff.specs.Tariffs.{tariff_lines, tariff_refusal, price_at}
use Rattle.tariff.specs.Answers.{Priced}
use Rattle.tariff.specs.declared.Tariff.{Tariff}
use Rattle.tariff.proofs.PriceLaws.{price-accepted, price-refused, refusal-order}

module _ (kind n : ℕ) (wanted given : List ℤ) (groups : ℕ) (table list : List ℕ) (tariff : Tariff) where
  abbrev answer : List ℕ × Priced
  answer = price_of kind n wanted given groups table list tariff

  abbrev refusal : ℕ
  refusal = price_refusal kind n wanted given groups table (length list) tariff

  -- what Plan refuses by itself
  abbrev by_plan : ℕ
  by_plan = plan_refusal kind n wanted given groups table (length list) 0

  abbrev untaken : ℕ
  untaken = tariff_refusal (last_turn kind n) tariff

  -- whatever Price refuses
  refused : (r : Refusal) → number r ≡ refusal → ◌≡◌ {A = List ℕ × Priced} (list, record { refusal = number r; turns = 0; pennies = 0 }) answer
  refused r e =
      rw e (sym (price-refused kind n wanted given groups table list tariff (λ z. number-some r (e ∙ z))))

  -- Plan's refusals come first
  order : refusal ≡ cond (eqb by_plan 0) untaken by_plan
  order = refusal-order kind n wanted given groups table list tariff

  pub plan-refuses : (r : Refusal) → number r ≡ by_plan
      → ◌≡◌ {A = List ℕ × Priced} (list, record { refusal = number r; turns = 0; pennies = 0 }) answer
  plan-refuses r e =
      let f : refusal ≡ number r = order ∙ rw (← e, ne_eqb (number r) 0 (number-some r)) refl in
      refused r (sym f)

  -- Plan refuses nothing
  module _ (turns : List ℕ) (d : (0 ≡ by_plan) × (turns ≡ (route_from kind n table wanted (turns_in kind n groups) given).turns)) where
    decides : refusal ≡ untaken
    decides = order ∙ rw (← d.0) refl

    pub tariff-refuses : (r : Refusal) → number r ≡ untaken
        → ◌≡◌ {A = List ℕ × Priced} (list, record { refusal = number r; turns = 0; pennies = 0 }) answer
    tariff-refuses r e = refused r (e ∙ sym decides)

    pub priced : untaken ≡ 0 → (after : List ℕ) → after ≡ turns ++ drop (length turns) list
        → (sum pennies : ℕ) → sum ≡ total (map (price_at (tariff_lines tariff)) turns) → pennies ≡ rounded sum
        → ◌≡◌ {A = List ℕ × Priced} (after, record { refusal = 0; turns = length turns; pennies = pennies }) answer
    unfolding cost_of
    priced t after a sum pennies s p =
        let front : take (length turns) after ≡ turns = rw a (take_at turns (drop (length turns) list) (length turns) refl) in
        let plan = plan-accepted kind n wanted given groups table list turns d after a in
        rw (p, s)
        (ap (λ (ts : List ℕ). (after, record { refusal = 0; turns = length turns; pennies = cost_of (price_at (tariff_lines tariff)) ts })) (sym front)
        ∙ ap (λ (out : List ℕ × Planned). (out.0, record { refusal = 0; turns = out.1.turns; pennies = cost_of (price_at (tariff_lines tariff)) (take out.1.turns out.0) })) plan
        ∙ sym (price-accepted kind n wanted given groups table list tariff (decides ∙ t)))

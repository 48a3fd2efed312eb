-- Price for plain 3: the example and the refusals compute, and the rest is drawn from the theorems by name.
use mathlib.Core.Path.{refl}
use mathlib.Core.List.{[], ◌∷◌}
use Prim.Native.Nat.{ℕ}
use native.Mathlib.Omega.{arith}
use Rattle.stacks.specs.Stack.{ordered}
use Rattle.search.specs.Plan.{plan_limit}
use Rattle.tariff.specs.Promise.{PlanFirst, PricePlans, Prices, PriceFinished, OnePriceEach, PricedTurns, RoundedOnce, swap, AnyOrder, SplitAlike}
use Rattle.tariff.specs.Rounding.{rounded}
use Rattle.tariff.specs.Tariffs.{tariff_line, tariff_lines, price_at}
use Rattle.tariff.specs.declared.Tariff.{Tariff}
use Rattle.search.proofs.AllTurns.{full-road, full-fewest}
use Rattle.tariff.proofs.PriceLaws.{plan_first, price-plans, price-finished, priced-turns}
use Rattle.tariff.proofs.Rearranging.{any_order, split-alike}
use Rattle.tariff.proofs.Rounding.{rounded-once}
use Rattle.tariff.proofs.TariffLaws.{one-price-each}
use Rattle.worked.specs.Cases.{plain, any_list}
use Rattle.worked.specs.PlainThree.{all, terms, start, end, calls, given, table}
use Rattle.worked.specs.Pricing.{example, swapped, single, Pricing}
use Rattle.worked.proofs.Open.{all-open}
use Rattle.worked.proofs.PlainThree.{buffers, finished}

module _ (slots : ℕ → ℕ) (first second : ℕ) (words : ℕ → ℕ) where
  prices : (tariff : Tariff) → Prices terms (end first second words) given (any_list slots plan_limit) tariff
  unfolding all-open PriceFinished
  prices tariff =
      (price-finished terms (start first second words).segments (start first second words).log [] refl (buffers first second words) calls
      (finished first second words) given (any_list slots plan_limit) tariff refl (omega arith)).0 (3 ∷ 2 ∷ []) (record { turns = refl; arrives = refl })

  pub pricing : Pricing slots first second words
  unfolding all-open rounded PlanFirst PricePlans OnePriceEach PricedTurns RoundedOnce AnyOrder SplitAlike
  pricing =
      record {
        costs = refl;
        front = refl;
        below_half = refl;
        above_half = refl;
        once = rounded-once (price_at (tariff_lines example));
        thirteen = refl;
        from_0 = refl;
        backward = refl;
        above_n = refl;
        too_dear = refl;
        dearest = refl;
        no_line = refl;
        no_size_1 = refl;
        two_lines = refl;
        line_first = refl;
        gap_first = refl;
        road_first = plan_first plain 3 (ordered 3) given all (0xff ∷ 0xff ∷ []) (any_list slots plan_limit);
        plan_first = plan_first plain 3 (ordered 3) given all (0x91 ∷ 0xf6 ∷ []) (any_list slots plan_limit);
        kept = refl;
        plans = price-plans plain 3 (ordered 3) given all table (any_list slots plan_limit) example refl;
        one_price = one-price-each 3 example refl 2 (omega arith) (omega arith);
        turns_priced = priced-turns plain 3 (ordered 3) given all table (any_list slots plan_limit) example refl;
        any_order = any_order example swapped refl (swap (tariff_line 1 2 1250) (tariff_line 3 3 1250) []);
        in_parts = split-alike single example
            (record {
              before = [];
              later = [];
              first = 1;
              middle = 2;
              last = 3;
              price = 1250;
              whole = refl;
              parts = refl;
              starts = omega arith;
              ends = omega arith;
              more = refl;
              fits = omega arith;
            });
        refused = λ tariff. (prices tariff).refuses;
        arrives = full-road plain 3 all refl refl ((prices example).arrives refl);
        fewest = full-fewest plain 3 all refl refl ((prices example).shortest refl);
      }

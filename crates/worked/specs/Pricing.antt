-- Price for plain 3: document 02's example, its refusals in their order, and what the theorems on tariffs and prices say of it.
--   tariff_of    the tariff of some lines, in twelve places
--   example     1,250 thousandths of a penny for sizes 1 to 2, and for size 3
--   priced      Price for 3 1 2 over the finished table, by the tariff of some lines
use Rattle.std.specs.Prelude.{◌≡◌, List, [], ◌∷◌, ◌++◌, map, ℕ, ◌+◌, ◌*◌, ◌≤◌, ◌<◌, length, get_or, take, replicate}
use Rattle.base.specs.Words.{total}
use Rattle.stacks.specs.Turn.{Road, Fewest}
use Rattle.stacks.specs.Stack.{ordered}
use Rattle.search.specs.Plan.{plan_limit, plan_of}
use Rattle.tariff.specs.Price.{cost_of, price_of}
use Rattle.tariff.specs.Promise.{unpriced, price_in, OnePrice, PricedAlike}
use Rattle.tariff.specs.Rounding.{rounded}
use Rattle.tariff.specs.Tariffs.{line_limit, tariff_line, tariff_lines, tariff_refusal, price_at}
use Rattle.tariff.specs.declared.Line.{Line}
use Rattle.tariff.specs.Answers.{Priced}
use Rattle.tariff.specs.declared.Tariff.{Tariff}
use Rattle.worked.specs.Cases.{plain, any_list}
use Rattle.worked.specs.PlainThree.{all, given, table, end}

abbrev pub tariff_of : List Line → Tariff
tariff_of lines = record { count = length lines; lines = take line_limit (lines ++ replicate line_limit (tariff_line 0 0 0)) }

abbrev pub example : Tariff
example = tariff_of (tariff_line 1 2 1250 ∷ tariff_line 3 3 1250 ∷ [])

-- its lines in the other order, and both as one
abbrev pub swapped : Tariff
swapped = tariff_of (tariff_line 3 3 1250 ∷ tariff_line 1 2 1250 ∷ [])

abbrev pub single : Tariff
single = tariff_of (tariff_line 1 3 1250 ∷ [])

-- slots are what the turn list held before
module _ (slots : ℕ → ℕ) where
  abbrev pub priced : List Line → List ℕ × Priced
  priced lines = price_of plain 3 (ordered 3) given all table (any_list slots plan_limit) (tariff_of lines)

  -- first, second and words are what the buffers of the build held before
  pub record Pricing (first second : ℕ) (words : ℕ → ℕ) : Type 0 where
    -- the plan 3, 2 costs 3: 2,500 thousandths, rounded once, halves up
    pub costs : (price_of plain 3 (ordered 3) given all table (any_list slots plan_limit) example).1 ≡ record { refusal = 0; turns = 2; pennies = 3 }
    pub front : take 2 (price_of plain 3 (ordered 3) given all table (any_list slots plan_limit) example).0 ≡ 3 ∷ 2 ∷ []
    pub below_half : rounded 2499 ≡ 2
    pub above_half : rounded 2501 ≡ 3
    pub once : (turns : List ℕ)
        → (let sum = total (map (price_at (tariff_lines example)) turns) in
        let pennies = cost_of (price_at (tariff_lines example)) turns in
        (1000 * pennies ≤ sum + 500) × (sum + 500 < 1000 * (pennies + 1)))
    -- 17: thirteen lines; a line from 0, one that ends before it starts, one that ends above n, one that is too dear
    pub thirteen : tariff_refusal 3 (record { count = 13; lines = example.lines }) ≡ 17
    pub from_0 : (priced (tariff_line 0 3 1250 ∷ [])).1.refusal ≡ 17
    pub backward : (priced (tariff_line 1 3 1250 ∷ tariff_line 3 2 1250 ∷ [])).1.refusal ≡ 17
    pub above_n : (priced (tariff_line 1 4 1250 ∷ [])).1.refusal ≡ 17
    pub too_dear : (priced (tariff_line 1 3 1000001 ∷ [])).1.refusal ≡ 17
    pub dearest : (priced (tariff_line 1 3 1000000 ∷ [])).1 ≡ record { refusal = 0; turns = 2; pennies = 2000 }
    -- 18 when a size has no line: no line at all, and size 1, which is no turn
    pub no_line : (priced []).1.refusal ≡ 18
    pub no_size_1 : (priced (tariff_line 2 3 1250 ∷ [])).1.refusal ≡ 18
    -- 19 when a size has two
    pub two_lines : (priced (tariff_line 1 3 1250 ∷ tariff_line 3 3 1250 ∷ [])).1.refusal ≡ 19
    -- 17 before 18, 18 before 19, and 20 and 15 before them all, whatever the tariff; refused, the list is as it was
    pub line_first : (priced (tariff_line 2 3 1250 ∷ tariff_line 2 4 1250 ∷ [])).1.refusal ≡ 17
    pub gap_first : (priced (tariff_line 1 2 1250 ∷ tariff_line 2 2 1250 ∷ [])).1.refusal ≡ 18
    pub road_first : (tariff : Tariff) → (price_of plain 3 (ordered 3) given all (0xff ∷ 0xff ∷ []) (any_list slots plan_limit) tariff).1.refusal ≡ 20
    pub plan_first : (tariff : Tariff) → (price_of plain 3 (ordered 3) given all (0x91 ∷ 0xf6 ∷ []) (any_list slots plan_limit) tariff).1.refusal ≡ 15
    pub kept : priced [] ≡ (any_list slots plan_limit, record { refusal = 18; turns = 0; pennies = 0 })
    -- the plan is Plan's
    pub plans : unpriced (price_of plain 3 (ordered 3) given all table (any_list slots plan_limit) example) ≡ plan_of plain 3 (ordered 3) given all table (any_list slots plan_limit)
    -- each size has one price, and so has each of the plan's turns
    pub one_price : OnePrice (tariff_lines example) 2
    pub turns_priced : (i : ℕ) → i < 2 → OnePrice (tariff_lines example) (get_or (price_of plain 3 (ordered 3) given all table (any_list slots plan_limit) example).0 i 0)
    -- the other order, and the two lines as one, change nothing, whatever is priced
    pub any_order : PricedAlike example swapped
    pub in_parts : PricedAlike single example
    -- after the build Price is refused for its tariff alone, and its plan is shortest
    pub refused : (tariff : Tariff) → (price_in (end first second words) given (any_list slots plan_limit) tariff).1.refusal ≡ tariff_refusal 3 tariff
    pub arrives : Road plain 3 (3 ∷ 2 ∷ []) given (ordered 3)
    pub fewest : Fewest plain 3 given (ordered 3) 2

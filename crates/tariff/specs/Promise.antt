-- What we promise of Price and of tariffs, besides that Price is what its definition gives.
--   PlanFirst        Plan's refusals come first, then 17, 18, 19
--   PriceKeeps       a refused Price leaves the list as it was, and answers its number alone
--   PricePlans       the plan is Plan's
--   PriceFinished    after a finished build Price of a stack that has a road is refused for its tariff alone, and its plan is shortest
--   OnePriceEach     a tariff that is not refused gives each size exactly one price
--   PricedTurns      so has each turn of an accepted plan
--   RoundedOnce      the price is the sum, rounded once
--   AnyOrder         the order of the lines does not matter
--   SplitAlike       a line in two parts costs what it did
use Rattle.std.specs.Prelude.{◌≡◌, true, cond, List, [], ◌∷◌, ◌++◌, map, ℕ, suc, ◌+◌, ◌*◌, ◌≤◌, ◌<◌, eqb, ℤ, length, get_or, take}
use Rattle.base.specs.Words.{total}
use Rattle.stacks.specs.Turn.{last_turn}
use Rattle.search.specs.Build.{World, Call, after}
use Rattle.search.specs.JobState.{is_finished}
use Rattle.search.specs.Plan.{plan_limit, plan_of}
use Rattle.search.specs.Promise.{right_lengths, IsStack, Buffers, start_of}
use Rattle.search.specs.PromiseBy.{RoadTo, FewestTo, NoRoad}
use Rattle.search.specs.PromiseCalls.{StandsAlone}
use Rattle.search.specs.Segments.{joined}
use Rattle.search.specs.Terms.{begin_refusal}
use Rattle.search.specs.Answers.{Planned}
use Rattle.search.specs.declared.Terms.{Terms}
use Rattle.tariff.specs.Price.{cost_of, price_of}
use Rattle.tariff.specs.Tariffs.{line_limit, tariff_line, tariff_lines, covers, lines_at, tariff_refusal, price_at}
use Rattle.tariff.specs.declared.Line.{Line}
use Rattle.tariff.specs.Answers.{Priced}
use Rattle.tariff.specs.declared.Tariff.{Tariff}

-- ---- the plan is Plan's

-- Plan's refusals come first; where it has none, the tariff's
unfoldable pub PlanFirst : Type 0
PlanFirst =
    (kind n : ℕ) (wanted given : List ℤ) (groups : ℕ) (table list : List ℕ) (tariff : Tariff)
    → (let r = (plan_of kind n wanted given groups table list).1.refusal in
    (price_of kind n wanted given groups table list tariff).1.refusal ≡ cond (eqb r 0) (tariff_refusal (last_turn kind n) tariff) r)

unfoldable pub PriceKeeps : Type 0
PriceKeeps =
    (kind n : ℕ) (wanted given : List ℤ) (groups : ℕ) (table list : List ℕ) (tariff : Tariff)
    → StandsAlone (λ o. o.1.refusal) (λ r. (list, record { refusal = r; turns = 0; pennies = 0 })) (price_of kind n wanted given groups table list tariff)

-- an outcome of Price without the price
abbrev pub unpriced : List ℕ × Priced → List ℕ × Planned
unpriced out = (out.0, record { refusal = out.1.refusal; turns = out.1.turns })

-- whatever the arguments: where 17, 18 and 19 are not given, Price leaves and answers what Plan does
unfoldable pub PricePlans : Type 0
PricePlans =
    (kind n : ℕ) (wanted given : List ℤ) (groups : ℕ) (table list : List ℕ) (tariff : Tariff)
    → tariff_refusal (last_turn kind n) tariff ≡ 0
    → unpriced (price_of kind n wanted given groups table list tariff) ≡ plan_of kind n wanted given groups table list

-- Price as a finished build is asked for it: the job's own kind, n, wanted stack and set, and its segments joined
abbrev pub price_in : World → List ℤ → List ℕ → Tariff → List ℕ × Priced
price_in w given list tariff =
    let terms = w.job.terms in price_of terms.kind terms.n terms.wanted given terms.groups (joined w.segments) list tariff

-- it is refused for its tariff alone; not refused, it arrives, and no road is shorter
pub record Prices (terms : Terms) (w : World) (given : List ℤ) (list : List ℕ) (tariff : Tariff) : Type 0 where
  pub refuses : (price_in w given list tariff).1.refusal ≡ tariff_refusal (last_turn terms.kind terms.n) tariff
  pub arrives : (price_in w given list tariff).1.refusal ≡ 0
      → RoadTo terms (take (price_in w given list tariff).1.turns (price_in w given list tariff).0) given
  pub shortest : (price_in w given list tariff).1.refusal ≡ 0 → FewestTo terms given (price_in w given list tariff).1.turns

-- whatever kind, n, wanted stack, set, S, C, buffers and list of calls have finished a build; for any stack, any turn list that 10 lets by and
-- any tariff: so it is where the stack has a road, and 20 where it has none
unfoldable pub PriceFinished : Type 0
PriceFinished =
    (terms : Terms) (segments : List (List ℕ)) (log changed : List ℕ)
    → begin_refusal terms ≡ 0
    → Buffers terms segments log
    → (calls : List (Call (right_lengths terms)))
    → (let w = after (start_of terms segments log changed) calls in
    is_finished w.job.phase ≡ true
    → (given : List ℤ) (list : List ℕ) (tariff : Tariff)
    → IsStack terms given
    → plan_limit ≤ length list
    → ((ks : List ℕ) → RoadTo terms ks given → Prices terms w given list tariff)
    × (NoRoad terms given → (price_in w given list tariff).1.refusal ≡ 20))

-- ---- what a tariff says of a size

-- one line covers it and no other, and its price is the line's
pub record OnePrice (lines : List Line) (k : ℕ) : Type 0 where
  pub before : List Line
  pub line : Line
  pub later : List Line
  pub place : lines ≡ before ++ (line ∷ later)
  pub covered : covers k line ≡ true
  pub none_before : lines_at before k ≡ 0
  pub none_later : lines_at later k ≡ 0
  pub price : price_at lines k ≡ line.price

unfoldable pub OnePriceEach : Type 0
OnePriceEach =
    (last : ℕ) (tariff : Tariff)
    → tariff_refusal last tariff ≡ 0
    → (k : ℕ) → 1 ≤ k → k ≤ last
    → OnePrice (tariff_lines tariff) k

-- so each turn of a plan that Price accepts has exactly one
unfoldable pub PricedTurns : Type 0
PricedTurns =
    (kind n : ℕ) (wanted given : List ℤ) (groups : ℕ) (table list : List ℕ) (tariff : Tariff)
    → (let out = price_of kind n wanted given groups table list tariff in
    out.1.refusal ≡ 0 → (i : ℕ) → i < out.1.turns → OnePrice (tariff_lines tariff) (get_or out.0 i 0))

-- ---- what a plan costs

-- the sum over its turns, rounded once to the penny: no other whole penny is nearer, and a half goes up
unfoldable pub RoundedOnce : Type 0
RoundedOnce =
    (price : ℕ → ℕ) (turns : List ℕ)
    → (let sum = total (map price turns) in
    let pennies = cost_of price turns in
    (1000 * pennies ≤ sum + 500) × (sum + 500 < 1000 * (pennies + 1)))

-- ---- tariffs that say the same

-- the same lines in another order: neighbours change places, as often as it takes
pub data Rearranged : List Line → List Line → Type 0 where
  empty : Rearranged [] []
  keep : {a b : List Line} (line : Line) → Rearranged a b → Rearranged (line ∷ a) (line ∷ b)
  swap : (x y : Line) (a : List Line) → Rearranged (x ∷ y ∷ a) (y ∷ x ∷ a)
  again : {a b c : List Line} → Rearranged a b → Rearranged b c → Rearranged a c

-- Price leaves and answers the same by both, refusals too
abbrev pub PricedAlike : Tariff → Tariff → Type 0
PricedAlike one other =
    (kind n : ℕ) (wanted given : List ℤ) (groups : ℕ) (table list : List ℕ)
    → price_of kind n wanted given groups table list one ≡ price_of kind n wanted given groups table list other

unfoldable pub AnyOrder : Type 0
AnyOrder =
    (one other : Tariff)
    → one.count ≡ other.count
    → Rearranged (tariff_lines one) (tariff_lines other)
    → PricedAlike one other

-- one line of the first tariff stands in the other as two neighbours of its price, and there is room for both
pub record Splits (one other : Tariff) : Type 0 where
  pub before : List Line
  pub later : List Line
  pub first : ℕ
  pub middle : ℕ
  pub last : ℕ
  pub price : ℕ
  pub whole : tariff_lines one ≡ before ++ (tariff_line first last price ∷ later)
  pub parts : tariff_lines other ≡ before ++ (tariff_line first middle price ∷ tariff_line (suc middle) last price ∷ later)
  pub starts : first ≤ middle
  pub ends : middle < last
  pub more : other.count ≡ suc one.count
  pub fits : other.count ≤ line_limit

unfoldable pub SplitAlike : Type 0
SplitAlike = (one other : Tariff) → Splits one other → PricedAlike one other

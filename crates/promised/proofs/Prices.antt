-- What we promise of tariffs and of Price, clause by clause: the theorems of `tariff`.
use mathlib.Core.Path.{◌≡◌, refl, sym, ap, ◌∙◌}
use mathlib.Core.Bool.{true, ◌&&◌, cond}
use mathlib.Core.List.{List, [], ◌∷◌, ◌++◌, map}
use Prim.Native.Nat.{ℕ, suc, ◌+◌, ◌*◌, ◌≤◌, ◌<◌}
use lib.Dec.{leb, eqb}
use lib.IntN.{ℤ}
use lib.ListN.{length, get_or, take}
use Rattle.base.specs.Words.{unless, all, tally, total, from}
use Rattle.graph.specs.Walks.{is_move}
use Rattle.stacks.specs.Stack.{is_stack, stack_count}
use Rattle.stacks.specs.Turn.{last_turn, turns_in, moves_from}
use Rattle.search.specs.Begin.{begun}
use Rattle.search.specs.Build.{World, Call, after}
use Rattle.search.specs.Entries.{bytes_for}
use Rattle.search.specs.JobState.{is_finished}
use Rattle.search.specs.Plan.{plan_of}
use Rattle.search.specs.Promise.{right_bytes, right_words, right_lengths}
use Rattle.search.specs.PromiseBy.{RoadIn, FewestIn}
use Rattle.search.specs.Segments.{segment_count, stack_count_in, joined}
use Rattle.search.specs.Terms.{begin_refusal, terms_of}
use Rattle.search.specs.Answers.{Planned}
use Rattle.search.specs.declared.Terms.{Terms}
use Rattle.tariff.specs.Price.{cost_of, price_of}
use Rattle.tariff.specs.Promise.{PlanFirst, PriceKeeps, PricePlans, Prices, PriceFinished, OnePrice, OnePriceEach, PricedTurns, RoundedOnce, Rearranged, empty, keep, swap, again, AnyOrder, SplitAlike}
use Rattle.tariff.specs.Tariffs.{tariff_lines, is_line, covers, lines_at, has_line, has_no_second, cover_refusal, tariff_refusal, price_at}
use Rattle.tariff.specs.declared.Line.{Line}
use Rattle.tariff.specs.Answers.{Priced}
use Rattle.tariff.specs.declared.Tariff.{Tariff}
use Rattle.tariff.proofs.PriceLaws
use Rattle.tariff.proofs.Rearranging
use Rattle.tariff.proofs.Rounding
use Rattle.tariff.proofs.TariffLaws

-- ---- tariffs

-- 17 when there are over 12 lines, or a line starts at 0, ends before it starts, ends above the last size or exceeds 1,000,000; 18 when a size has
-- no line; 19 when a size has two
tariff-refusal : (last : ℕ) (tariff : Tariff)
    → (let lines = take tariff.count tariff.lines in
    tariff_refusal last tariff
    ≡ unless (leb tariff.count 12) 17
    (unless (all (λ line. leb 1 line.first && leb line.first line.last && leb line.last last && leb line.price 1000000) lines) 17
    (unless (all (λ k. leb 1 (lines_at lines k)) (from 1 last)) 18 (unless (all (λ k. leb (lines_at lines k) 1) (from 1 last)) 19 0))))
unfolding tariff_refusal cover_refusal tariff_lines is_line has_line has_no_second
tariff-refusal last tariff = refl

-- how many lines cover a size, and the price of the line that does
lines_at-is : (lines : List Line) (k : ℕ) → lines_at lines k ≡ tally (λ line. leb line.first k && leb k line.last) lines
unfolding lines_at covers
lines_at-is lines k = refl

price-at : (line : Line) (lines : List Line) (k : ℕ)
    → price_at (line ∷ lines) k ≡ cond (leb line.first k && leb k line.last) line.price (price_at lines k)
unfolding price_at covers
price-at line lines k = refl

-- one line covers size k and no other, and the size costs what that line says
abbrev OneLine : List Line → ℕ → Type 0
OneLine lines k =
    (before : List Line) × (line : Line) × (later : List Line) × (lines ≡ before ++ (line ∷ later))
    × (leb line.first k && leb k line.last ≡ true)
    × (tally (λ other. leb other.first k && leb k other.last) before ≡ 0)
    × (tally (λ other. leb other.first k && leb k other.last) later ≡ 0)
    × (price_at lines k ≡ line.price)

one_line : {lines : List Line} {k : ℕ} → OnePrice lines k → OneLine lines k
unfolding lines_at covers
one_line o = (o.before, o.line, o.later, o.place, o.covered, o.none_before, o.none_later, o.price)

-- by a tariff that is not refused each size has one price
one-price-each : (last : ℕ) (tariff : Tariff) → tariff_refusal last tariff ≡ 0 → (k : ℕ) → 1 ≤ k → k ≤ last
    → OneLine (take tariff.count tariff.lines) k
unfolding OnePriceEach tariff_lines
one-price-each last tariff h k l m = one_line (TariffLaws.one-price-each last tariff h k l m)

-- ---- tariffs that say the same

-- the lines in another order
data Reordered : List Line → List Line → Type 0 where
  nothing : Reordered [] []
  first-kept : {a b : List Line} (line : Line) → Reordered a b → Reordered (line ∷ a) (line ∷ b)
  exchanged : (x y : Line) (a : List Line) → Reordered (x ∷ y ∷ a) (y ∷ x ∷ a)
  twice : {a b c : List Line} → Reordered a b → Reordered b c → Reordered a c

rearranged : {a b : List Line} → Reordered a b → Rearranged a b
rearranged nothing = empty
rearranged (first-kept line r) = keep line (rearranged r)
rearranged (exchanged x y a) = swap x y a
rearranged (twice r s) = again (rearranged r) (rearranged s)

module _ (one other : Tariff) where
  any_order : one.count ≡ other.count → Reordered (take one.count one.lines) (take other.count other.lines)
      → (kind n : ℕ) (wanted given : List ℤ) (groups : ℕ) (table list : List ℕ)
      → price_of kind n wanted given groups table list one ≡ price_of kind n wanted given groups table list other
  unfolding AnyOrder tariff_lines
  any_order same r = Rearranging.any_order one other same (rearranged r)

  -- a line in two parts
  split-alike : (before later : List Line) (first middle last price : ℕ)
      → take one.count one.lines ≡ before ++ (record { first = first; last = last; price = price } ∷ later)
      → take other.count other.lines
      ≡ before ++ (record { first = first; last = middle; price = price } ∷ record { first = suc middle; last = last; price = price } ∷ later)
      → first ≤ middle → middle < last → other.count ≡ suc one.count → other.count ≤ 12
      → (kind n : ℕ) (wanted given : List ℤ) (groups : ℕ) (table list : List ℕ)
      → price_of kind n wanted given groups table list one ≡ price_of kind n wanted given groups table list other
  unfolding SplitAlike tariff_lines
  split-alike before later first middle last price whole parts starts ends more fits =
      Rearranging.split-alike one other
      (record {
        before = before;
        later = later;
        first = first;
        middle = middle;
        last = last;
        price = price;
        whole = whole;
        parts = parts;
        starts = starts;
        ends = ends;
        more = more;
        fits = fits;
      })

-- ---- Price

-- what some turns cost: the sum, rounded once to the penny, halves up
rounded-once : (price : ℕ → ℕ) (turns : List ℕ)
    → (1000 * cost_of price turns ≤ total (map price turns) + 500) × (total (map price turns) + 500 < 1000 * (cost_of price turns + 1))
unfolding RoundedOnce
rounded-once = Rounding.rounded-once

module _ (kind n : ℕ) (wanted given : List ℤ) (groups : ℕ) (table list : List ℕ) (tariff : Tariff) where
  abbrev priced : List ℕ × Priced
  priced = price_of kind n wanted given groups table list tariff

  abbrev planned : List ℕ × Planned
  planned = plan_of kind n wanted given groups table list

  -- Plan's refusals come first, and then the tariff's
  plan_first : priced.1.refusal ≡ cond (eqb planned.1.refusal 0) (tariff_refusal (last_turn kind n) tariff) planned.1.refusal
  unfolding PlanFirst
  plan_first = PriceLaws.plan_first kind n wanted given groups table list tariff

  -- refused, it leaves the list as it was, and answers its number alone
  price-keeps : (priced.1.refusal ≡ 0 → ⊥) → priced ≡ (list, record { refusal = priced.1.refusal; turns = 0; pennies = 0 })
  unfolding PriceKeeps
  price-keeps = PriceLaws.price-keeps kind n wanted given groups table list tariff

  -- the plan is Plan's: its list, its refusal and its number of turns
  price-plans : tariff_refusal (last_turn kind n) tariff ≡ 0
      → ◌≡◌ {A = List ℕ × Planned} (priced.0, record { refusal = priced.1.refusal; turns = priced.1.turns }) planned
  unfolding PricePlans
  price-plans = PriceLaws.price-plans kind n wanted given groups table list tariff

  module _ (accepted : priced.1.refusal ≡ 0) where
    -- each turn of the plan has one price
    priced-turns : (i : ℕ) → i < priced.1.turns → OneLine (take tariff.count tariff.lines) (get_or priced.0 i 0)
    unfolding PricedTurns tariff_lines
    priced-turns i l = one_line (PriceLaws.priced-turns kind n wanted given groups table list tariff accepted i l)

    -- and the plan costs what its turns do
    pennies : priced.1.pennies ≡ cost_of (price_at (take tariff.count tariff.lines)) (take priced.1.turns priced.0)
    unfolding tariff_lines
    pennies =
        let same = PriceLaws.price-accepted kind n wanted given groups table list tariff
        (sym (PriceLaws.price-refusal-is kind n wanted given groups table list tariff) ∙ accepted) in
        ap (λ (o : List ℕ × Priced). o.1.pennies) same
        ∙ sym (ap (λ (o : List ℕ × Priced). cost_of (price_at (tariff_lines tariff)) (take o.1.turns o.0)) same)

-- ---- Price after a finished build

-- by any set, in any segments and with any calls
module _ (kind n : ℕ) (wanted : List ℤ) (groups S C : ℕ) (segments : List (List ℕ)) (log changed : List ℕ)
    (begins : begin_refusal (terms_of kind n wanted groups S C) ≡ 0)
    (some : length segments ≡ segment_count (stack_count kind n) S)
    (each : (j : ℕ) → j < segment_count (stack_count kind n) S → length (get_or segments j []) ≡ bytes_for (stack_count_in (stack_count kind n) S j))
    (area : length log ≡ segment_count (stack_count kind n) S * C) (calls : List (Call (right_lengths (terms_of kind n wanted groups S C)))) where
  abbrev terms : Terms
  terms = terms_of kind n wanted groups S C

  abbrev w : World
  w = after (record { job = begun terms; segments = segments; log = log; changed = changed }) calls

  -- for any stack, any list of at least 254 turns and any tariff
  module _ (finished : is_finished w.job.phase ≡ true) (given : List ℤ) (list : List ℕ) (tariff : Tariff) (stack : is_stack kind n given ≡ true)
      (long : 254 ≤ length list) where
    abbrev out : List ℕ × Priced
    out = price_of w.job.terms.kind w.job.terms.n w.job.terms.wanted given w.job.terms.groups (joined w.segments) list tariff

    -- 20 where no turns of the set lead to the wanted stack
    refused-20 : ((ks : List ℕ) → all (is_move (turns_in kind n groups)) ks ≡ true → moves_from kind n ks given ≡ wanted → ⊥) → out.1.refusal ≡ 20
    unfolding PriceFinished right_bytes right_words
    refused-20 none =
        (PriceLaws.price-finished terms segments log changed begins (record { some = some; each = each; area = area }) calls finished
        given list tariff stack long).1 (λ ks road. none ks road.turns road.arrives)

    -- where some do
    module _ (ks : List ℕ) (moves : all (is_move (turns_in kind n groups)) ks ≡ true) (leads : moves_from kind n ks given ≡ wanted) where
      prices : Prices terms w given list tariff
      unfolding PriceFinished right_bytes right_words
      prices =
          (PriceLaws.price-finished terms segments log changed begins (record { some = some; each = each; area = area }) calls finished
          given list tariff stack long).0 ks (record { turns = moves; arrives = leads })

      -- it is refused for its tariff alone
      refused : out.1.refusal ≡ tariff_refusal (last_turn kind n) tariff
      refused = prices.refuses

      module _ (accepted : out.1.refusal ≡ 0) where
        -- its plan arrives
        arrives : RoadIn kind n groups (take out.1.turns out.0) given wanted
        arrives = prices.arrives accepted

        -- and none is shorter
        shortest : FewestIn kind n groups given wanted out.1.turns
        shortest = prices.shortest accepted

        least : (other : List ℕ) → all (is_move (turns_in kind n groups)) other ≡ true → moves_from kind n other given ≡ wanted
            → out.1.turns ≤ length other
        least other moves' leads' = (prices.shortest accepted).least other (record { turns = moves'; arrives = leads' })

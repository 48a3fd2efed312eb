-- Laws of Price: its plan is Plan's, after a finished build too, and two tariffs by which it is the same.
use mathlib.Core.Path.{◌≡◌, refl, sym, ap, ◌∙◌, subst}
use mathlib.Core.Logic.{◌⊎◌, inl, inr}
use mathlib.Core.Bool.{cond}
use mathlib.Core.List.{List}
use Prim.Native.Nat.{ℕ, ◌≤◌, ◌<◌}
use native.Mathlib.Omega.{arith}
use lib.Dec.{eqb}
use lib.IntN.{ℤ}
use lib.ListN.{length, get_or, take, drop, get_or-append}
use borrow.Author.Tests.{eq-eqb, ne_eqb}
use Rattle.base.proofs.Counting.{all-at}
use Rattle.base.proofs.Rows.{row-facts}
use Rattle.base.proofs.Tests.{eq-or-ne}
use Rattle.graph.specs.Walks.{is_move}
use Rattle.stacks.specs.Turn.{last_turn, turns_in}
use Rattle.stacks.proofs.TurnLaws.{turn-first, turn_last, first_pos}
use Rattle.search.specs.Plan.{plan_limit, route_from, plan_refusal, plan_of}
use Rattle.search.specs.Build.{World, after}
use Rattle.search.specs.Promise.{plan_in, IsStack, start_of}
use Rattle.search.specs.PromiseBy.{RoadIn, RoadTo, FewestTo, NoRoad, FinishesBy, WholeBuildBy}
use Rattle.search.specs.Segments.{joined}
use Rattle.search.specs.Answers.{Planned}
use Rattle.search.specs.declared.Terms.{Terms}
use Rattle.search.proofs.Accepted.{names-refusal}
use Rattle.search.proofs.Finishing.{plan-accepted, plan-refused, plan-refusal-is}
use Rattle.search.proofs.PlanLaws.{plan-row, route-arrives}
use Rattle.search.proofs.Refused.{alone}
use Rattle.search.proofs.Turning.{Moves, set-turns}
use Rattle.search.proofs.WholeBuild.{whole-build-by}
use Rattle.tariff.specs.Price.{cost_of, price_refusal, price_of}
use Rattle.tariff.specs.Promise.{PlanFirst, PriceKeeps, unpriced, PricePlans, price_in, Prices, PriceFinished, OnePriceEach, PricedTurns, PricedAlike}
use Rattle.tariff.specs.Tariffs.{tariff_lines, tariff_refusal, price_at}
use Rattle.tariff.specs.Answers.{Priced}
use Rattle.tariff.specs.declared.Tariff.{Tariff}
use Rattle.tariff.proofs.TariffLaws.{one-price-each}

module _ (kind n : ℕ) (wanted given : List ℤ) (groups : ℕ) (table list : List ℕ) (tariff : Tariff) where
  -- Price's refusal, and Plan's outcome
  abbrev refusal : ℕ
  refusal = price_refusal kind n wanted given groups table (length list) tariff

  abbrev plan : List ℕ × Planned
  plan = plan_of kind n wanted given groups table list

  pub price-accepted : refusal ≡ 0
      → price_of kind n wanted given groups table list tariff ≡ (plan.0, record { refusal = 0; turns = plan.1.turns; pennies = cost_of (price_at (tariff_lines tariff)) (take plan.1.turns plan.0) })
  unfolding price_of
  price-accepted h = rw (eq-eqb refusal 0 h)

  pub price-refused : (refusal ≡ 0 → ⊥) → price_of kind n wanted given groups table list tariff ≡ (list, record { refusal = refusal; turns = 0; pennies = 0 })
  unfolding price_of
  price-refused h = rw (ne_eqb refusal 0 h)

  pub price-refusal-is : (price_of kind n wanted given groups table list tariff).1.refusal ≡ refusal
  price-refusal-is = names-refusal (λ o. o.1.refusal) refusal price-accepted price-refused refl refl

  -- Plan's, and where it has none the tariff's
  pub refusal-order : refusal
      ≡ cond (eqb (plan_refusal kind n wanted given groups table (length list) 0) 0) (tariff_refusal (last_turn kind n) tariff) (plan_refusal kind n wanted given groups table (length list) 0)
  unfolding price_refusal
  refusal-order = (plan-row kind n wanted given groups table (length list)).says (tariff_refusal (last_turn kind n) tariff)

-- ---- the plan is Plan's

pub plan_first : PlanFirst
unfolding PlanFirst
plan_first kind n wanted given groups table list tariff =
    price-refusal-is kind n wanted given groups table list tariff
    ∙ rw (plan-refusal-is kind n wanted given groups table list) (refusal-order kind n wanted given groups table list tariff)

pub price-keeps : PriceKeeps
unfolding PriceKeeps price_of
price-keeps kind n wanted given groups table list tariff =
    alone (λ o. o.1.refusal) (λ r. (list, record { refusal = r; turns = 0; pennies = 0 }))
    (price_refusal kind n wanted given groups table (length list) tariff) (price_of kind n wanted given groups table list tariff)
    (λ h. rw h refl) (λ h. rw h) refl

pub price-plans : PricePlans
unfolding PricePlans price_refusal
price-plans kind n wanted given groups table list tariff h = go (eq-or-ne (plan_refusal kind n wanted given groups table (length list) 0) 0)
  where
    same : price_refusal kind n wanted given groups table (length list) tariff ≡ plan_refusal kind n wanted given groups table (length list) 0
    same = ap (plan_refusal kind n wanted given groups table (length list)) h

    go : (plan_refusal kind n wanted given groups table (length list) 0 ≡ 0) ⊎ (plan_refusal kind n wanted given groups table (length list) 0 ≡ 0 → ⊥)
        → unpriced (price_of kind n wanted given groups table list tariff) ≡ plan_of kind n wanted given groups table list
    go (inl e) =
        ap unpriced (price-accepted kind n wanted given groups table list tariff (same ∙ e))
        ∙ rw (plan-accepted kind n wanted given groups table list e)
    go (inr e) =
        ap unpriced (price-refused kind n wanted given groups table list tariff (λ z. e (sym same ∙ z)))
        ∙ rw (plan-refused kind n wanted given groups table list e, same)

module _ (terms : Terms) (w : World) (f : FinishesBy terms w) (given : List ℤ) (list : List ℕ) (tariff : Tariff)
    (h : IsStack terms given) (l : plan_limit ≤ length list) where
  -- the job's own
  abbrev own : Terms
  own = w.job.terms

  first-refused : (let r = (plan_in w given list).1.refusal in
      (price_in w given list tariff).1.refusal ≡ cond (eqb r 0) (tariff_refusal (last_turn own.kind own.n) tariff) r)
  unfolding PlanFirst
  first-refused = plan_first own.kind own.n own.wanted given own.groups (joined w.segments) list tariff

  finishes-prices : (ks : List ℕ) → RoadTo terms ks given → Prices terms w given list tariff
  unfolding PricePlans
  finishes-prices ks road =
      let p = f.plans given list h l ks road in
      let refuses : (price_in w given list tariff).1.refusal ≡ tariff_refusal (last_turn own.kind own.n) tariff =
      rw p.accepts at first-refused in
      let plans : (price_in w given list tariff).1.refusal ≡ 0 → unpriced (price_in w given list tariff) ≡ plan_in w given list =
      λ e. price-plans own.kind own.n own.wanted given own.groups (joined w.segments) list tariff (sym refuses ∙ e) in
      record {
        refuses = refuses ∙ ap (λ (t : Terms). tariff_refusal (last_turn t.kind t.n) tariff) f.given_terms;
        arrives = λ e. subst (λ (out : List ℕ × Planned). RoadTo terms (take out.1.turns out.0) given) (sym (plans e)) p.arrives;
        shortest = λ e. subst (λ (out : List ℕ × Planned). FewestTo terms given out.1.turns) (sym (plans e)) p.shortest;
      }

  finishes-refuses : NoRoad terms given → (price_in w given list tariff).1.refusal ≡ 20
  finishes-refuses none =
      first-refused
      ∙ ap (λ (r : ℕ). cond (eqb r 0) (tariff_refusal (last_turn own.kind own.n) tariff) r) (f.refuses given list h l none)

pub price-finished : PriceFinished
unfolding PriceFinished WholeBuildBy
price-finished terms segments log changed accepted buffers calls h given list tariff stack l =
    let w : World = after (start_of terms segments log changed) calls in
    let f : FinishesBy terms w = (whole-build-by terms segments log changed accepted buffers calls).finishes h in
    (finishes-prices terms w f given list tariff stack l, finishes-refuses terms w f given list tariff stack l)

-- ---- what is priced

pub priced-turns : PricedTurns
unfolding PricedTurns OnePriceEach price_refusal
priced-turns kind n wanted given groups table list tariff h i l =
    let accepts = sym (price-refusal-is kind n wanted given groups table list tariff) ∙ h in
    let asked = plan-row kind n wanted given groups table (length list) in
    let f = row-facts asked (tariff_refusal (last_turn kind n) tariff) accepts in
    let row = f.0.row in
    let turns : List ℕ = (route_from kind n table wanted (turns_in kind n groups) given).turns in
    let plan = plan-accepted kind n wanted given groups table list (asked.accepts f.0) in
    let out = price-accepted kind n wanted given groups table list tariff accepts in
    let laws : Moves kind n (turns_in kind n groups) = set-turns kind n row.of-panes groups row.of-set in
    let road : RoadIn kind n groups turns given wanted =
    route-arrives kind n table wanted given row.of-panes laws row.goal row.start f.0.plan in
    let inside : i < length turns = subst (λ (m : ℕ). i < m) (ap (λ (o : List ℕ × Priced). o.1.turns) out ∙ ap (λ (o : List ℕ × Planned). o.1.turns) plan) l in
    let here : get_or (price_of kind n wanted given groups table list tariff).0 i 0 ≡ get_or turns i 0 =
    ap (λ (o : List ℕ × Priced). get_or o.0 i 0) out
    ∙ ap (λ (o : List ℕ × Planned). get_or o.0 i 0) plan
    ∙ get_or-append turns (drop (length turns) list) 0 i inside in
    let turn = laws.turns (get_or turns i 0) (all-at (is_move (turns_in kind n groups)) turns i 0 road.turns inside) in
    rw here (one-price-each (last_turn kind n) tariff f.1 (get_or turns i 0) (omega (arith, turn-first kind n (get_or turns i 0) turn, first_pos kind))
    (turn_last kind n (get_or turns i 0) turn))

-- ---- two tariffs by which Price is the same

-- they are refused alike, and where they are not, each size costs the same
pub same-priced : (one other : Tariff) → ((last : ℕ) → tariff_refusal last one ≡ tariff_refusal last other)
    → ((last : ℕ) → tariff_refusal last one ≡ 0 → (k : ℕ) → price_at (tariff_lines one) k ≡ price_at (tariff_lines other) k) → PricedAlike one other
unfolding price_refusal
same-priced one other refused costs kind n wanted given groups table list = go (eq-or-ne (price_refusal kind n wanted given groups table (length list) one) 0)
  where
    same : price_refusal kind n wanted given groups table (length list) one ≡ price_refusal kind n wanted given groups table (length list) other
    same = ap (plan_refusal kind n wanted given groups table (length list)) (refused (last_turn kind n))

    go : (price_refusal kind n wanted given groups table (length list) one ≡ 0) ⊎ (price_refusal kind n wanted given groups table (length list) one ≡ 0 → ⊥)
        → price_of kind n wanted given groups table list one ≡ price_of kind n wanted given groups table list other
    go (inl e) =
        let none = (row-facts (plan-row kind n wanted given groups table (length list)) (tariff_refusal (last_turn kind n) one) e).1 in
        let turns = take (plan_of kind n wanted given groups table list).1.turns (plan_of kind n wanted given groups table list).0 in
        let cost : cost_of (price_at (tariff_lines one)) turns ≡ cost_of (price_at (tariff_lines other)) turns = λ i. cost_of (λ k. costs (last_turn kind n) none k i) turns in
        price-accepted kind n wanted given groups table list one e
        ∙ rw cost (sym (price-accepted kind n wanted given groups table list other (sym same ∙ e)))
    go (inr e) =
        price-refused kind n wanted given groups table list one e
        ∙ rw same (sym (price-refused kind n wanted given groups table list other (λ z. e (same ∙ z))))

-- Laws of Plan: an accepted plan is a road to the wanted stack whatever the table holds, and over a right table it is there and has the fewest turns.
use mathlib.Core.Path.{◌≡◌, refl, sym, ap, ◌∙◌, subst}
use mathlib.Core.Logic.{◌⊎◌, inl, inr}
use mathlib.Core.Bool.{Bool, true, false, not, cond}
use mathlib.Core.List.{List, [], ◌∷◌, ◌++◌}
use Prim.Native.Nat.{ℕ, zero, suc, ◌+◌, ◌-◌, ◌%◌, ◌<◌, ◌≤◌, zero-le}
use native.Mathlib.Omega.{arith}
use lib.Dec.{eqb}
use lib.IntN.{ℤ}
use lib.ListN.{length, length-append}
use borrow.Author.Tests.{eqb-true, eq-eqb, ne_eqb}
use Rattle.base.specs.Words.{all, filter}
use Rattle.base.proofs.Rows.{Row, row_on, check, equal, at_most, asking, ◌and_then◌}
use Rattle.base.proofs.Tests.{and_left, and_right, and_both, eq-or-ne, never}
use Rattle.graph.specs.Walks.{is_move}
use Rattle.graph.proofs.Moves.{is_move-filter, largest-move, move-largest}
use Rattle.graph.proofs.Depths.{Depths, nearer-label}
use Rattle.stacks.specs.Stack.{is_kind, is_pane_count, is_stack, stack_count}
use Rattle.stacks.specs.Index.{rank_of}
use Rattle.stacks.specs.Turn.{is_group_set, turns_in, move_of, moves_from, RoadBy, FewestBy}
use Rattle.stacks.proofs.Numbering.{rank_lt, rank-injective}
use Rattle.stacks.proofs.TurnLaws.{turn-first, first_pos}
use Rattle.stacks.proofs.MoveLaws.{moves-stack}
use Rattle.stacks.proofs.Refusals.{stack-row}
use Rattle.stacks.proofs.Roads.{road-none, road-append}
use Rattle.search.specs.Entries.{bytes_for, entry_at, unseen, next_entry}
use Rattle.search.specs.Plan.{plan_limit, Route, entry_of, leads_to, turn_to, nearer_entry, follow, is_wanted, plan_step, plan_run, route_from, has_plan, plan_row, plan_refusal}
use Rattle.search.proofs.Turning.{child_at, Moves, child-rank, moved-stack}
use Rattle.search.proofs.Fewest.{depth, move-depths, depth-fewest}

-- ---- what an accepted call was given

-- by its row of refusals up to 15
pub record RowFacts (kind n : ℕ) (wanted given : List ℤ) (groups bytes slots : ℕ) : Type 0 where
  pub of-kind : is_kind kind ≡ true
  pub of-panes : is_pane_count kind n ≡ true
  pub goal : is_stack kind n wanted ≡ true
  pub start : is_stack kind n given ≡ true
  pub of-set : is_group_set kind n groups ≡ true
  pub long : bytes ≡ bytes_for (stack_count kind n)
  pub wide : plan_limit ≤ slots

module _ (kind n : ℕ) (wanted given : List ℤ) (groups bytes slots : ℕ) where
  pub given-row : Row (plan_row kind n wanted given groups bytes slots) (RowFacts kind n wanted given groups bytes slots)
  unfolding plan_row
  given-row =
      asking
      (stack-row kind n wanted
      and_then check (is_stack kind n given) 3 refl
      and_then check (is_group_set kind n groups) 21 refl
      and_then equal bytes (bytes_for (stack_count kind n)) 10 refl
      and_then at_most plan_limit slots 10 refl)
      (λ f. record {
        of-kind = f.0.0.0;
        of-panes = f.0.0.1;
        goal = f.0.1;
        start = f.1.0;
        of-set = f.1.1.0;
        long = f.1.1.1.0;
        wide = f.1.1.1.1;
      })
      (λ f. (((f.of-kind, f.of-panes), f.goal), (f.start, (f.of-set, (f.long, f.wide)))))

pub record PlanFacts (kind n : ℕ) (wanted given : List ℤ) (groups : ℕ) (table : List ℕ) (slots : ℕ) : Type 0 where
  pub row : RowFacts kind n wanted given groups (length table) slots
  pub seen : not (eqb (entry_of kind n table given) unseen) ≡ true
  pub plan : has_plan kind n table wanted (turns_in kind n groups) given ≡ true

module _ (kind n : ℕ) (wanted given : List ℤ) (groups : ℕ) (table : List ℕ) (slots : ℕ) where
  pub plan-row : Row (plan_refusal kind n wanted given groups table slots) (PlanFacts kind n wanted given groups table slots)
  unfolding plan_refusal
  plan-row =
      asking
      (given-row kind n wanted given groups (length table) slots
      and_then check (not (eqb (entry_of kind n table given) unseen)) 20 refl
      and_then check (has_plan kind n table wanted (turns_in kind n groups) given) 15 refl)
      (λ f. record { row = f.0; seen = f.1.0; plan = f.1.1 })
      (λ f. (f.row, (f.seen, f.plan)))

  -- a given stack that the table has not seen is refused
  pub plan-unseen : RowFacts kind n wanted given groups (length table) slots → entry_of kind n table given ≡ unseen
      → (rest : ℕ) → plan_refusal kind n wanted given groups table slots rest ≡ 20
  unfolding plan_refusal
  plan-unseen f h rest =
      row_on (given-row kind n wanted given groups (length table) slots) f _ ∙ rw (eq-eqb (entry_of kind n table given) unseen h)

-- ---- the turn that leads to an entry. Lengths and arrival rest on `turn-taken` and `turn-there`, which hold whichever turn that leads there is
-- taken.

module _ (kind n : ℕ) (table : List ℕ) (s : List ℤ) (v : ℕ) (moves : List ℕ) where
  abbrev leads : ℕ → Bool
  leads = leads_to kind n table s v

  abbrev leading : List ℕ
  leading = filter leads moves

  -- no move that leads there is larger than the one that is taken
  pub turn-largest : (j : ℕ) → is_move moves j ≡ true → leads j ≡ true → j ≤ turn_to kind n table s v moves
  unfolding turn_to
  turn-largest j m l = move-largest leading j (is_move-filter leads moves j ∙ and_both (is_move moves j) (leads j) m l)

  -- what is taken is a move, and it leads there
  pub turn-taken : (k : ℕ) → k ≡ turn_to kind n table s v moves → (k ≡ 0 → ⊥) → (is_move moves k ≡ true) × (leads k ≡ true)
  unfolding turn_to
  turn-taken k e h =
      let left = subst (λ (x : ℕ). is_move leading x ≡ true) (sym e) (largest-move leading (λ z. h (e ∙ z))) in
      let m = sym (is_move-filter leads moves k) ∙ left in
      (and_left (is_move moves k) (leads k) m, and_right (is_move moves k) (leads k) m)

  -- one is taken where some move leads there, as 0 is no move
  turn-there : (j : ℕ) → (is_move moves 0 ≡ true → ⊥) → is_move moves j ≡ true → leads j ≡ true → turn_to kind n table s v moves ≡ 0 → ⊥
  turn-there j none m l e =
      let z : j ≡ 0 = omega (arith, turn-largest j m l) in
      none (subst (λ (k : ℕ). is_move moves k ≡ true) z m)

-- ---- a plan in the making, whatever the table holds

-- the route with one more turn
abbrev onward : ℕ → ℕ → ℕ → Route → Route
onward kind n k route = record { stack = move_of kind n k route.stack; turns = route.turns ++ (k ∷ []) }

module _ (kind n : ℕ) (table moves : List ℕ) (route : Route) where
  -- the turn that is taken from here
  abbrev turn_nearer : ℕ
  turn_nearer = turn_to kind n table route.stack (nearer_entry kind n table route.stack) moves

  -- it is followed, and where none is taken the route stays
  pub follow-turn : (k : ℕ) → k ≡ turn_nearer → (k ≡ 0 → ⊥) → follow kind n table moves route ≡ onward kind n k route
  unfolding follow
  follow-turn k e h = rw (← e, ne_eqb k 0 h)

  pub follow-none : 0 ≡ turn_nearer → follow kind n table moves route ≡ route
  unfolding follow
  follow-none e = rw (← e)

-- a route from the given stack, of at most m moves
abbrev pub RouteWithin : ℕ → ℕ → List ℕ → List ℤ → ℕ → Route → Type 0
RouteWithin kind n moves given m route = RoadBy kind n (is_move moves) route.turns given route.stack × (length route.turns ≤ m)

module _ (kind n : ℕ) (moves table : List ℕ) (wanted given : List ℤ) where
  onward-within : (k m : ℕ) (route : Route) → is_move moves k ≡ true → RouteWithin kind n moves given m route
      → RouteWithin kind n moves given (suc m) (onward kind n k route)
  unfolding moves_from all
  onward-within k m route t u =
      (road-append u.0 (record { turns = and_both (is_move moves k) true t refl; arrives = refl }), rw length-append (omega (arith, u.1)))

  follow-within : (m : ℕ) (route : Route) → RouteWithin kind n moves given m route
      → RouteWithin kind n moves given (suc m) (follow kind n table moves route)
  follow-within m route u = go (eq-or-ne k 0)
    where
      s : List ℤ
      s = route.stack

      k : ℕ
      k = turn_nearer kind n table moves route

      go : (k ≡ 0) ⊎ (k ≡ 0 → ⊥) → RouteWithin kind n moves given (suc m) (follow kind n table moves route)
      go (inl e) = rw (follow-none kind n table moves route (sym e)) (u.0, omega (arith, u.1))
      go (inr h) =
          rw (follow-turn kind n table moves route k refl h)
          (onward-within k m route (turn-taken kind n table s (nearer_entry kind n table s) moves k refl h).0 u)

  step-within : (m : ℕ) (route : Route) → RouteWithin kind n moves given m route
      → RouteWithin kind n moves given (suc m) (plan_step kind n table wanted moves route)
  unfolding plan_step
  step-within m route u = go (is_wanted kind n table wanted route.stack)
    where
      go : (b : Bool) → RouteWithin kind n moves given (suc m) (cond b route (follow kind n table moves route))
      go true = (u.0, omega (arith, u.1))
      go false = follow-within m route u

  run-within : (left m : ℕ) (route : Route) → RouteWithin kind n moves given m route
      → RouteWithin kind n moves given (left + m) (plan_run kind n table wanted moves left route)
  unfolding plan_run
  run-within zero m route u = (u.0, omega (arith, u.1))
  run-within (suc left) m route u =
      let r = run-within left (suc m) (plan_step kind n table wanted moves route) (step-within m route u) in
      (r.0, omega (arith, r.1))

  pub route-within : RouteWithin kind n moves given plan_limit (route_from kind n table wanted moves given)
  unfolding route_from
  route-within =
      let r = run-within plan_limit 0 (record { stack = given; turns = [] }) (road-none given, zero-le) in
      (r.0, omega (arith, r.1))

-- where there is a plan, its moves lead from the given stack to the wanted one
pub route-arrives : (kind n : ℕ) {moves : List ℕ} (table : List ℕ) (wanted given : List ℤ) → is_pane_count kind n ≡ true → Moves kind n moves
    → is_stack kind n wanted ≡ true → is_stack kind n given ≡ true → has_plan kind n table wanted moves given ≡ true
    → RoadBy kind n (is_move moves) (route_from kind n table wanted moves given).turns given wanted
unfolding has_plan is_wanted
route-arrives kind n {moves} table wanted given in-range laws goal start plan =
    let route : Route = route_from kind n table wanted moves given in
    let r : RouteWithin kind n moves given plan_limit route = route-within kind n moves table wanted given in
    let stack : is_stack kind n route.stack ≡ true =
    subst (λ (s : List ℤ). is_stack kind n s ≡ true) r.0.arrives
    (moves-stack kind n in-range laws.turns route.turns given r.0.turns start) in
    let same : rank_of kind n route.stack ≡ rank_of kind n wanted =
    eqb-true (rank_of kind n route.stack) (rank_of kind n wanted)
    (and_right (eqb (entry_of kind n table wanted) 0) (is_wanted kind n table wanted route.stack) plan) in
    subst (RoadBy kind n (is_move moves) route.turns given) (rank-injective kind n route.stack wanted in-range stack goal same) r.0

-- ---- over a right table

-- each entry of a stack that has a road is the fewest moves modulo 3
abbrev pub RightTable : ℕ → ℕ → List ℕ → List ℤ → ℕ → List ℕ → Type 0
RightTable kind n moves wanted b table =
    (s : List ℤ) → is_stack kind n s ≡ true → depth kind n moves wanted b (rank_of kind n s) < b
    → entry_at table (rank_of kind n s) ≡ depth kind n moves wanted b (rank_of kind n s) % 3

module _ (kind n : ℕ) (wanted : List ℤ) (b : ℕ) (table : List ℕ) (in-range : is_pane_count kind n ≡ true) (goal : is_stack kind n wanted ≡ true)
    {moves : List ℕ} (laws : Moves kind n moves) (room : suc plan_limit < b) (right : RightTable kind n moves wanted b table) where
  -- the depth of a stack
  abbrev far : List ℤ → ℕ
  far s = depth kind n moves wanted b (rank_of kind n s)

  depths : Depths (stack_count kind n) moves (child_at kind n) (rank_of kind n wanted) b (depth kind n moves wanted b)
  depths = move-depths kind n wanted b in-range goal laws (omega arith)

  module _ (s : List ℤ) (stack : is_stack kind n s ≡ true) where
    child-far : (k : ℕ) → depth kind n moves wanted b (child_at kind n k (rank_of kind n s)) ≡ far (move_of kind n k s)
    child-far k = ap (depth kind n moves wanted b) (child-rank kind n in-range k s stack)

    -- a child of a stack that a plan may start from has a road too
    module _ (near : far s ≤ plan_limit) where
      child-near : (k : ℕ) → is_move moves k ≡ true → far (move_of kind n k s) < b
      child-near k m = omega (arith, depths.grows k (rank_of kind n s) m (rank_lt kind n s in-range stack), child-far k)

      -- a move leads on just where it leads one nearer
      leads-nearer : (k : ℕ) → is_move moves k ≡ true → leads_to kind n table s (nearer_entry kind n table s) k ≡ true
          → suc (far (move_of kind n k s)) ≡ far s
      unfolding leads_to nearer_entry entry_of next_entry
      leads-nearer k m l =
          let e = eqb-true (entry_of kind n table (move_of kind n k s)) (nearer_entry kind n table s) l in
          let c = child-far k in
          let here = right s stack (omega arith) in
          let there = right (move_of kind n k s) (moved-stack kind n in-range laws k s m stack) (child-near k m) in
          let nearer = nearer-label depths k (rank_of kind n s) m (rank_lt kind n s in-range stack) (omega arith) in
          omega arith

      nearer-leads : (k : ℕ) → is_move moves k ≡ true → suc (far (move_of kind n k s)) ≡ far s
          → leads_to kind n table s (nearer_entry kind n table s) k ≡ true
      unfolding leads_to nearer_entry entry_of next_entry
      nearer-leads k m e =
          let here = right s stack (omega arith) in
          let there = right (move_of kind n k s) (moved-stack kind n in-range laws k s m stack) (child-near k m) in
          eq-eqb (entry_of kind n table (move_of kind n k s)) (nearer_entry kind n table s) (omega arith)

      -- some move leads nearer, unless the stack is the wanted one
      nearer-move : 0 < far s → (k : ℕ) × (is_move moves k ≡ true) × (suc (far (move_of kind n k s)) ≡ far s)
      nearer-move h =
          let c = depths.closer (rank_of kind n s) h (omega arith) in
          (c.0, c.1, omega (arith, c.2, child-far c.0))

    wanted-near : is_wanted kind n table wanted s ≡ true → far s ≡ 0
    unfolding is_wanted
    wanted-near e = ap (depth kind n moves wanted b) (eqb-true (rank_of kind n s) (rank_of kind n wanted) e) ∙ depths.goal

    near-wanted : far s ≡ 0 → is_wanted kind n table wanted s ≡ true
    unfolding is_wanted
    near-wanted e = eq-eqb (rank_of kind n s) (rank_of kind n wanted) (depths.only-goal (rank_of kind n s) e)

  -- from one route to another that is m moves nearer, or at the wanted stack
  abbrev Nearer : ℕ → Route → Route → Type 0
  Nearer m r t =
      (is_stack kind n t.stack ≡ true) × (far t.stack ≡ far r.stack - m) × (length t.turns + far t.stack ≡ length r.turns + far r.stack)

  step-nearer : (route : Route) → is_stack kind n route.stack ≡ true → far route.stack ≤ plan_limit
      → Nearer 1 route (plan_step kind n table wanted moves route)
  unfolding plan_step
  step-nearer route stack near = go (is_wanted kind n table wanted s) refl
    where
      s : List ℤ
      s = route.stack

      near-entry : ℕ
      near-entry = nearer_entry kind n table s

      go : (t : Bool) → is_wanted kind n table wanted s ≡ t → Nearer 1 route (cond t route (follow kind n table moves route))
      go true e = (stack, omega (arith, wanted-near s stack e), refl)
      go false e =
          let away : far s ≡ 0 → ⊥ = λ z. never (near-wanted s stack z) e in
          let c = nearer-move s stack near (omega arith) in
          let none : is_move moves 0 ≡ true → ⊥ = λ m. omega (arith, turn-first kind n 0 (laws.turns 0 m), first_pos kind) in
          let k : ℕ = turn_nearer kind n table moves route in
          let some : k ≡ 0 → ⊥ = turn-there kind n table s near-entry moves c.0 none c.1 (nearer-leads s stack near c.0 c.1 c.2) in
          let t = turn-taken kind n table s near-entry moves k refl some in
          let nearer = leads-nearer s stack near k t.0 t.1 in
          subst (Nearer 1 route) (sym (follow-turn kind n table moves route k refl some))
          (moved-stack kind n in-range laws k s t.0 stack, omega arith, omega (arith, length-append route.turns (k ∷ [])))

  run-nearer : (left : ℕ) (route : Route) → is_stack kind n route.stack ≡ true → far route.stack ≤ plan_limit
      → Nearer left route (plan_run kind n table wanted moves left route)
  unfolding plan_run
  run-nearer zero route stack near = (stack, omega arith, refl)
  run-nearer (suc left) route stack near =
      let a = step-nearer route stack near in
      let r = run-nearer left (plan_step kind n table wanted moves route) a.0 (omega (arith, a.1)) in
      (r.0, omega (arith, a.1, r.1), omega (arith, a.2, r.2))

  -- from a stack that has a road of at most as many moves as a plan may have
  module _ (given : List ℤ) (start : is_stack kind n given ≡ true) (near : far given ≤ plan_limit) where
    route-nearer : Nearer plan_limit (record { stack = given; turns = [] }) (route_from kind n table wanted moves given)
    unfolding route_from
    route-nearer = run-nearer plan_limit (record { stack = given; turns = [] }) start near

    route-ends : far (route_from kind n table wanted moves given).stack ≡ 0
    route-ends = let r = route-nearer in omega (arith, r.1)

    -- the given stack is seen, and the plan is there
    pub plan-seen : not (eqb (entry_of kind n table given) unseen) ≡ true
    unfolding entry_of unseen
    plan-seen = ap not (ne_eqb (entry_at table (rank_of kind n given)) 3 (λ e. omega (arith, right given start (omega arith))))

    pub plan-there : has_plan kind n table wanted moves given ≡ true
    unfolding has_plan entry_of
    plan-there =
        rw (
          eq-eqb (entry_at table (rank_of kind n wanted)) 0 (omega (arith, right wanted goal (omega (arith, depths.goal)), depths.goal)),
          near-wanted (route_from kind n table wanted moves given).stack route-nearer.0 route-ends,
        )

    plan-length : length (route_from kind n table wanted moves given).turns ≡ far given
    plan-length = omega (arith, route-nearer.2, route-ends)

    -- so no road is shorter than the plan
    pub plan-fewest : FewestBy kind n (is_move moves) given wanted (length (route_from kind n table wanted moves given).turns)
    plan-fewest =
        subst (FewestBy kind n (is_move moves) given wanted) (sym plan-length)
        (depth-fewest kind n wanted b in-range goal laws given start (omega arith))

-- Routes as the code makes them: the turns of a set tried from the last one down, and a run that goes on from where it has come to.
use mathlib.Core.Path.{◌≡◌, refl, sym, ap, ◌∙◌, subst}
use mathlib.Core.Logic.{◌⊎◌, inl, inr}
use mathlib.Core.Bool.{Bool, true}
use mathlib.Core.List.{List, [], ◌∷◌, ◌++◌}
use Prim.Native.Nat.{ℕ, zero, suc, ◌+◌, ◌-◌, ◌/◌, ◌≤◌, ◌<◌}
use native.Mathlib.Omega.{arith}
use lib.IntN.{ℤ}
use lib.ListN.{length, length-append}
use borrow.Author.Tests.{eqb-true, eq-eqb, ne_eqb}
use Rattle.base.proofs.Tests.{eq-or-ne}
use Rattle.graph.specs.Walks.{is_move}
use Rattle.stacks.specs.Stack.{is_stack, stack_count}
use Rattle.stacks.specs.Turn.{first_turn, last_turn, is_turn, lifts}
use Rattle.stacks.proofs.Numbering.{rank_lt}
use Rattle.stacks.proofs.TurnLaws.{turn-first, turn_last}
use Rattle.stacks.proofs.MoveLaws.{moves-stack}
use Rattle.search.specs.Entries.{entry_at, next_entry}
use Rattle.search.specs.Plan.{plan_limit, Route, entry_of, leads_to, nearer_entry, follow, is_wanted, plan_step, plan_run, route_from}
use Rattle.search.proofs.EntryLaws.{byte_inside, entry_lt, next-lt}
use Rattle.search.proofs.PlanLaws.{turn-taken, turn-largest, follow-turn, follow-none, route-within}
use Rattle.search.proofs.Turning.{in-set, turn-in-set, Moves, moved-stack, set-turns}
use Rattle.plan.specs.Questions.{StandsAt, kind_in, index_in, moved_in, entry_in, moves_in, turn_of, way_of}
use Rattle.plan.specs.declared.question.Question.{Question}

-- the entry of a stack stands in the table
pub entry_inside : (q : Question) (s : List ℤ) (i : ℕ) → StandsAt q s i → i / 4 < length q.table.now
entry_inside q s i f =
    rw (f.at, q.long)
    (byte_inside (index_in q s) (stack_count (kind_in q) q.set.panes.n) (rank_lt (kind_in q) q.set.panes.n s q.set.panes.in_range f.is-stack))

-- a stack of a route stands there
pub stands : (q : Question) (s : List ℤ) (i : ℕ) → is_stack (kind_in q) q.set.panes.n s ≡ true → i ≡ index_in q s → StandsAt q s i
stands q s i h e = record { is-stack = h; at = e }

-- they are moves of a search
pub laws_of : (q : Question) → Moves (kind_in q) q.set.panes.n (moves_in q)
laws_of q = set-turns (kind_in q) q.set.panes.n q.set.panes.in_range q.set.groups q.set.named

-- ---- the largest turn of a set that leads to an entry, tried from the last turn down

module _ (q : Question) (s : List ℤ) (v : ℕ) where
  abbrev leads : ℕ → Bool
  leads = leads_to (kind_in q) q.set.panes.n q.table.now s v

  abbrev taken : ℕ
  taken = turn_of q s v

  -- turn k leads there just where its child's entry, w, is v
  module _ (k child w : ℕ) (c : child ≡ index_in q (moved_in q k s)) (e : w ≡ entry_at q.table.now child) where
    entry-is : entry_in q (moved_in q k s) ≡ w
    unfolding entry_of
    entry-is = rw (e, c)

    pub read-leads : w ≡ v → leads k ≡ true
    unfolding leads_to
    read-leads h = eq-eqb (entry_in q (moved_in q k s)) v (entry-is ∙ h)

    pub leads-read : leads k ≡ true → w ≡ v
    unfolding leads_to
    leads-read l = sym entry-is ∙ eqb-true (entry_in q (moved_in q k s)) v l

  -- no turn above k leads there
  abbrev pub NoneAbove : ℕ → Type 0
  NoneAbove k = (j : ℕ) → is_move (moves_in q) j ≡ true → leads j ≡ true → j ≤ k

  pub none-past-last : (k : ℕ) → last_turn (kind_in q) q.set.panes.n ≤ k → NoneAbove k
  none-past-last k e j m l = omega (arith, turn_last (kind_in q) q.set.panes.n j (in-set (kind_in q) q.set.panes.n q.set.groups j m).0)

  module _ (k : ℕ) (above : NoneAbove k) where
    taken-low : taken ≤ k
    taken-low = go (eq-or-ne taken 0)
      where
        go : (taken ≡ 0) ⊎ (taken ≡ 0 → ⊥) → taken ≤ k
        go (inl e) = omega arith
        go (inr h) = let t = turn-taken (kind_in q) q.set.panes.n q.table.now s v (moves_in q) taken refl h in above taken t.0 t.1

    -- k is tried: the set names it and it leads there, or not
    pub tried-hit : is_turn (kind_in q) q.set.panes.n k ≡ true → lifts q.set.groups k ≡ true → leads k ≡ true → k ≡ taken
    tried-hit turn named hit =
        let move = turn-in-set (kind_in q) q.set.panes.n q.set.groups k turn named in
        omega (arith, taken-low, turn-largest (kind_in q) q.set.panes.n q.table.now s v (moves_in q) k move hit)

    pub tried-miss : (lifts q.set.groups k ≡ true → leads k ≡ true → ⊥) → NoneAbove (k - 1)
    tried-miss miss j m l = go (eq-or-ne j k)
      where
        go : (j ≡ k) ⊎ (j ≡ k → ⊥) → j ≤ k - 1
        go (inl e) = absurd (miss (ap (lifts q.set.groups) (sym e) ∙ (in-set (kind_in q) q.set.panes.n q.set.groups j m).1) (ap leads (sym e) ∙ l))
        go (inr h) = omega (arith, above j m l)

    -- all are tried
    pub tried-all : k < first_turn (kind_in q) → taken ≡ 0
    tried-all low = go (eq-or-ne taken 0)
      where
        go : (taken ≡ 0) ⊎ (taken ≡ 0 → ⊥) → taken ≡ 0
        go (inl e) = e
        go (inr h) =
            let t = turn-taken (kind_in q) q.set.panes.n q.table.now s v (moves_in q) taken refl h in
            absurd (omega (arith, taken-low, turn-first (kind_in q) q.set.panes.n taken (in-set (kind_in q) q.set.panes.n q.set.groups taken t.0).0))

-- what is found is a turn
pub turn-found : (q : Question) (s : List ℤ) (v k : ℕ) → k ≡ turn_of q s v → 1 ≤ k → is_turn (kind_in q) q.set.panes.n k ≡ true
turn-found q s v k e some =
    (laws_of q).turns k (turn-taken (kind_in q) q.set.panes.n q.table.now s v (moves_in q) k e (λ z. omega arith)).0

-- it leads one nearer, by the entries as they are read
pub found-nearer : (q : Question) (s : List ℤ) (index v next near : ℕ) → index ≡ index_in q s → v ≡ entry_at q.table.now index
    → next ≡ next_entry v → near ≡ next_entry next → near ≡ nearer_entry (kind_in q) q.set.panes.n q.table.now s
unfolding nearer_entry entry_of
found-nearer q s index v next near a b c d = rw (← a, ← b, ← c) d

-- what the loops over turns and along a route ask for
pub ruleset entries_read = (entry_inside, stands, turn-found, entry_lt, next-lt)

-- ---- the run

module _ (q : Question) where
  abbrev step : Route → Route
  step = plan_step (kind_in q) q.set.panes.n q.table.now q.wanted (moves_in q)

  abbrev run : ℕ → Route → Route
  run = plan_run (kind_in q) q.set.panes.n q.table.now q.wanted (moves_in q)

  module _ (route : Route) where
    step-arrived : index_in q route.stack ≡ index_in q q.wanted → step route ≡ route
    unfolding plan_step is_wanted
    step-arrived h = rw (eq-eqb (index_in q route.stack) (index_in q q.wanted) h)

    -- before the wanted stack
    step-on : (index_in q route.stack ≡ index_in q q.wanted → ⊥) → step route ≡ follow (kind_in q) q.set.panes.n q.table.now (moves_in q) route
    unfolding plan_step is_wanted
    step-on h = rw (ne_eqb (index_in q route.stack) (index_in q q.wanted) h)

    -- a run stays where a step leads nowhere
    run-stays : (m : ℕ) → step route ≡ route → run m route ≡ route
    unfolding plan_run
    run-stays zero h = refl
    run-stays (suc m) h = rw h (run-stays m h)

    run-steps : (m : ℕ) → 0 < m → run m route ≡ run (m - 1) (step route)
    unfolding plan_run
    run-steps zero h = absurd (omega arith)
    run-steps (suc m) h = let e : m ≡ suc m - 1 = omega arith in ap (λ (l : ℕ). run l (step route)) e

  -- what it comes to is a stack
  pub route-stack : is_stack (kind_in q) q.set.panes.n (way_of q).stack ≡ true
  route-stack =
      let r = (route-within (kind_in q) q.set.panes.n (moves_in q) q.table.now q.wanted q.given).0 in
      subst (λ (s : List ℤ). is_stack (kind_in q) q.set.panes.n s ≡ true) r.arrives
      (moves-stack (kind_in q) q.set.panes.n q.set.panes.in_range (laws_of q).turns (way_of q).turns q.given r.turns q.start)

-- ---- the loop that makes a route

-- the route that the loop has come to
abbrev pub route_at : List ℤ → List ℕ → Route
route_at stack turns = record { stack = stack; turns = turns }

-- the run goes on from the route here, of so many turns
pub record Travelled (q : Question) (stack : List ℤ) (index : ℕ) (turns : List ℕ) (taken : ℕ) : Type 0 where
  pub is-stack : is_stack (kind_in q) q.set.panes.n stack ≡ true
  pub at : index ≡ index_in q stack
  pub long : length turns ≡ taken
  pub goes_on : run q (plan_limit - taken) (route_at stack turns) ≡ way_of q

pub travelled-start : (q : Question) (index : ℕ) → index ≡ index_in q q.given → Travelled q q.given index [] 0
unfolding route_from
travelled-start q index i = record { is-stack = q.start; at = i; long = refl; goes_on = refl }

module _ (q : Question) {stack : List ℤ} {index : ℕ} {turns : List ℕ} {taken : ℕ} (t : Travelled q stack index turns taken) where
  -- the whole run, as soon as a step leads nowhere
  stays : step q (route_at stack turns) ≡ route_at stack turns → route_at stack turns ≡ way_of q
  stays h = sym (run-stays q (route_at stack turns) (plan_limit - taken) h) ∙ t.goes_on

  pub travelled-end : plan_limit ≤ taken → route_at stack turns ≡ way_of q
  unfolding plan_run
  travelled-end h = let e : 0 ≡ plan_limit - taken = omega arith in ap (λ (m : ℕ). run q m (route_at stack turns)) e ∙ t.goes_on

  module _ (goal : ℕ) (g : goal ≡ index_in q q.wanted) where
    pub travelled-arrived : index ≡ goal → route_at stack turns ≡ way_of q
    travelled-arrived h = stays (step-arrived q (route_at stack turns) (sym t.at ∙ h ∙ g))

    -- the move that is found from here, by the entries of this stack
    module _ (h : index ≡ goal → ⊥) (near : ℕ) (n : near ≡ nearer_entry (kind_in q) q.set.panes.n q.table.now stack) where
      goes : step q (route_at stack turns) ≡ follow (kind_in q) q.set.panes.n q.table.now (moves_in q) (route_at stack turns)
      goes = step-on q (route_at stack turns) (λ e. h (t.at ∙ e ∙ sym g))

      pub travelled-stuck : turn_of q stack near ≡ 0 → route_at stack turns ≡ way_of q
      travelled-stuck z =
          stays
          (goes ∙ follow-none (kind_in q) q.set.panes.n q.table.now (moves_in q) (route_at stack turns) (sym (sym (ap (turn_of q stack) n) ∙ z)))

      pub travelled-step : taken < plan_limit → (k : ℕ) → k ≡ turn_of q stack near → (k ≡ 0 → ⊥) → (child : List ℤ) → child ≡ moved_in q k stack
          → (next : ℕ) → next ≡ index_in q (moved_in q k stack)
          → Travelled q child next (turns ++ k ∷ []) (taken + 1)
      travelled-step l k e z child c next i =
          let e : k ≡ turn_of q stack (nearer_entry (kind_in q) q.set.panes.n q.table.now stack) = e ∙ ap (turn_of q stack) n in
          record {
            is-stack = rw c
                (moved-stack (kind_in q) q.set.panes.n q.set.panes.in_range (laws_of q) k stack
                (turn-taken (kind_in q) q.set.panes.n q.table.now stack (nearer_entry (kind_in q) q.set.panes.n q.table.now stack) (moves_in q)
                k e z).0 t.is-stack);
            at = rw c i;
            long = omega (arith, length-append turns (k ∷ []), t.long);
            goes_on =
                let a : plan_limit - (taken + 1) ≡ plan_limit - taken - 1 = omega arith in
                rw (a, c)
                (sym
                (run-steps q (route_at stack turns) (plan_limit - taken) (omega arith)
                ∙ ap (run q (plan_limit - taken - 1))
                (goes ∙ follow-turn (kind_in q) q.set.panes.n q.table.now (moves_in q) (route_at stack turns) k e z)))
                ∙ t.goes_on;
          }

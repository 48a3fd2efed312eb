-- Plan's refusals as its steps meet them, the row up to 10, the given stack's entry, and whether there is a plan; and its answers, by its draft.
use mathlib.Core.Path.{◌≡◌, refl, sym, ap, ◌∙◌}
use mathlib.Core.Bool.{Bool, true, false, not}
use mathlib.Core.List.{List, ◌++◌}
use Prim.Native.Nat.{ℕ, ◌≤◌}
use native.Mathlib.Omega.{arith}
use lib.Dec.{eqb}
use lib.IntN.{ℤ}
use lib.ListN.{length, drop}
use borrow.Author.Tests.{eq-eqb, ne_eqb}
use Rattle.base.specs.Words.{unless}
use Rattle.base.proofs.Tests.{and-fails-left, and-fails-right}
use Rattle.stacks.specs.Refusals.{number}
use Rattle.stacks.specs.Turn.{turns_in}
use Rattle.stacks.specs.declared.refusal.Refusal.{Refusal}
use Rattle.stacks.proofs.Numbers.{number-some, row-errs, row-oks}
use Rattle.search.specs.Answers.{Planned}
use Rattle.search.specs.Entries.{unseen}
use Rattle.search.specs.Plan.{is_wanted, has_plan, plan_row, plan_refusal, route_from, plan_of}
use Rattle.search.proofs.PlanLaws.{given-row, plan-row, route-within}
use Rattle.plan.proofs.Routes.{stands}
use Rattle.std.specs.Prelude.{Result, Ok, Err}
use Rattle.plan.specs.Drafts.{Drafts, DraftsPlan, DraftsTurns, DraftsPlanTurns}
use Rattle.plan.specs.Questions.{kind_in, index_in, entry_in, moves_in, route_refusal, way_of}
use Rattle.plan.specs.Turns.{turns_listed}
use Rattle.plan.specs.declared.question.Question.{Question}
use Rattle.plan.specs.declared.turns.Turns.{Turns}

-- ---- what the draft meets
module _ (q : Question) where
  -- whether the turns of the set have a plan
  abbrev planned : Bool
  planned = has_plan (kind_in q) q.set.panes.n q.table.now q.wanted (moves_in q) q.given

  pub is-unseen : entry_in q q.given ≡ 3 → route_refusal q ≡ 20
  unfolding unseen
  is-unseen h = rw h

  module _ (there : entry_in q q.given ≡ 3 → ⊥) where
    planned-is : unless planned 15 0 ≡ route_refusal q
    unfolding unseen
    planned-is =
        ap (λ (t : Bool). unless (not t) 20 (unless planned 15 0)) (sym (ne_eqb (entry_in q q.given) 3 there))

    abbrev rooted : Bool
    rooted = eqb (entry_in q q.wanted) 0

    abbrev arrives : Bool
    arrives = is_wanted (kind_in q) q.set.panes.n q.table.now q.wanted (way_of q).stack

    pub is-rootless : (entry_in q q.wanted ≡ 0 → ⊥) → route_refusal q ≡ 15
    unfolding has_plan
    is-rootless h =
        let f : planned ≡ false = and-fails-left rooted arrives (ne_eqb (entry_in q q.wanted) 0 h) in
        rw (← planned-is, f)

    -- the route comes to the stack s
    module _ (s : List ℤ) (c : s ≡ (way_of q).stack) where
      pub is-lost : (index_in q s ≡ index_in q q.wanted → ⊥) → route_refusal q ≡ 15
      unfolding has_plan is_wanted
      is-lost h =
          let f : planned ≡ false =
          and-fails-right rooted arrives (rw (← c) (ne_eqb (index_in q s) (index_in q q.wanted) h)) in
          rw (← planned-is, f)

      pub is-planned : entry_in q q.wanted ≡ 0
          → index_in q s ≡ index_in q q.wanted
          → route_refusal q ≡ 0
      unfolding has_plan is_wanted
      is-planned k l =
          let f : planned ≡ true = rw (← c, k, eq-eqb (index_in q s) (index_in q q.wanted) l) in
          rw (← planned-is, f)

pub ruleset draft_rows = (is-unseen, is-rootless, is-lost, is-planned, stands)

-- ---- Plan's answers

module _ (kind n : ℕ) (wanted given : List ℤ) (groups : ℕ) (table : List ℕ) (slots : ℕ) where
  abbrev row : ℕ
  row = plan_row kind n wanted given groups (length table) slots 0

  abbrev refusal : ℕ
  refusal = plan_refusal kind n wanted given groups table slots 0

  abbrev turns_of_way : List ℕ
  turns_of_way = (route_from kind n table wanted (turns_in kind n groups) given).turns

  -- the row refuses
  pub row-refused : (r : Refusal) → number r ≡ row → number r ≡ refusal
  unfolding plan_refusal
  row-refused r e = row-errs (given-row kind n wanted given groups (length table) slots) _ r e

  -- it refuses nothing, and the question is of these arguments
  module _ (e : 0 ≡ row) (q : Question) (s : (kind_in q ≡ kind) × (q.set.panes.n ≡ n) × (q.set.groups ≡ groups))
      (t : (q.wanted ≡ wanted) × (q.given ≡ given) × (q.table.now ≡ table)) where
    route-decides : route_refusal q ≡ refusal
    unfolding plan_refusal
    route-decides = rw (s.0, s.1, s.2, t.0, t.1, t.2) (row-oks (given-row kind n wanted given groups (length table) slots) _ e)

    draft-refused : (r : Refusal) → number r ≡ route_refusal q → number r ≡ refusal
    draft-refused r h = h ∙ route-decides

    drafted : (turns : List ℕ) → (0 ≡ route_refusal q) × (turns ≡ (way_of q).turns) → (0 ≡ refusal) × (turns ≡ turns_of_way)
    drafted turns d = (d.0 ∙ route-decides, rw (s.0, s.1, s.2, t.0, t.1, t.2) at d.1)

    pub draft-is : (result : Result (List ℕ) Refusal) → Drafts q result → DraftsPlan kind n wanted given groups table slots result
    draft-is (Ok turns) d = drafted turns d
    draft-is (Err r) h = draft-refused r h

    pub draft-turns-is : (result : Result Turns Refusal) → DraftsTurns q result → DraftsPlanTurns kind n wanted given groups table slots result
    draft-turns-is (Ok turns) d = draft-is (Ok (turns_listed turns)) d
    draft-turns-is (Err r) h = draft-is (Err r) h

module _ (kind n : ℕ) (wanted given : List ℤ) (groups : ℕ) (table list : List ℕ) where
  abbrev answer : List ℕ × Planned
  answer = plan_of kind n wanted given groups table list

  pub plan-refused : (r : Refusal) → number r ≡ plan_refusal kind n wanted given groups table (length list) 0 → ◌≡◌ {A = List ℕ × Planned} (list, record { refusal = number r; turns = 0 }) answer
  unfolding plan_of
  plan-refused r e = rw (← e, ne_eqb (number r) 0 (number-some r)) refl

  module _ (turns : List ℕ) (d : (0 ≡ plan_refusal kind n wanted given groups table (length list) 0) × (turns ≡ (route_from kind n table wanted (turns_in kind n groups) given).turns)) where
    pub draft-short : length turns ≤ 254
    draft-short = rw d.1 (route-within kind n (turns_in kind n groups) table wanted given).1

    -- an accepted list has room for the turns of a draft
    pub draft-fits : length turns ≤ length list
    draft-fits =
        let f = (plan-row kind n wanted given groups table (length list)).asks (sym d.0) in
        omega (arith, f.row.wide, draft-short)

    -- they stand at its front
    pub plan-accepted : (after : List ℕ) → after ≡ turns ++ drop (length turns) list
        → ◌≡◌ {A = List ℕ × Planned} (after, record { refusal = 0; turns = length turns }) answer
    unfolding plan_of
    plan-accepted after e = rw (← d.0, ← d.1, e)

-- Plans in a local list, as the contract of Plan's core speaks of them.
use Rattle.std.specs.Prelude.{◌≡◌, List, ℕ, ℤ, Result, Ok, Err, MatchResult}
use Rattle.stacks.specs.Turn.{turns_in}
use Rattle.search.specs.Plan.{plan_refusal, route_from}
use Rattle.stacks.specs.Refusals.{number}
use Rattle.stacks.specs.declared.refusal.Refusal.{Refusal}
use Rattle.plan.specs.Questions.{route_refusal, way_of}
use Rattle.plan.specs.Turns.{turns_listed}
use Rattle.plan.specs.declared.question.Question.{Question}
use Rattle.plan.specs.declared.turns.Turns.{Turns}

-- the turns of the route where nothing refuses them, and else its refusal
abbrev pub Drafts : Question → Result (List ℕ) Refusal → Type 0
Drafts q result =
    MatchResult result (λ turns. (0 ≡ route_refusal q) × (turns ≡ (way_of q).turns)) (λ r. number r ≡ route_refusal q)

-- the same of what Plan is given, with every refusal of Plan, for a list of so many slots
abbrev pub DraftsPlan : ℕ → ℕ → List ℤ → List ℤ → ℕ → List ℕ → ℕ → Result (List ℕ) Refusal → Type 0
DraftsPlan kind n wanted given groups table slots result =
    let refusal = plan_refusal kind n wanted given groups table slots 0 in
    MatchResult result
    (λ turns. (0 ≡ refusal) × (turns ≡ (route_from kind n table wanted (turns_in kind n groups) given).turns))
    (λ r. number r ≡ refusal)

-- both of turns in a local list
abbrev pub DraftsTurns : Question → Result Turns Refusal → Type 0
DraftsTurns q result = MatchResult result (λ turns. Drafts q (Ok (turns_listed turns))) (λ r. Drafts q (Err r))

abbrev pub DraftsPlanTurns : ℕ → ℕ → List ℤ → List ℤ → ℕ → List ℕ → ℕ → Result Turns Refusal → Type 0
DraftsPlanTurns kind n wanted given groups table slots result =
    let plans = DraftsPlan kind n wanted given groups table slots in
    MatchResult result (λ turns. plans (Ok (turns_listed turns))) (λ r. plans (Err r))

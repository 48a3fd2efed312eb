-- Plan: what it leaves in the turn list, and its answer.
use Rattle.std.specs.Prelude.{Bool, not, ◌&&◌, cond, List, [], ◌∷◌, ◌++◌, ℕ, zero, suc, leb, eqb, ℤ, length, drop}
use Rattle.base.specs.Words.{unless, filter, largest}
use Rattle.stacks.specs.Index.{rank_of}
use Rattle.stacks.specs.Stack.{is_stack, stack_count}
use Rattle.stacks.specs.Turn.{is_group_set, turns_in, move_of}
use Rattle.stacks.specs.Operations.{kind_refusal}
use Rattle.search.specs.Entries.{bytes_for, entry_at, unseen, next_entry}
use Rattle.search.specs.Answers.{Planned}

-- as many turns as a plan may have, and as the list must hold
abbrev pub plan_limit : ℕ
plan_limit = 254

-- a plan in the making: the stack that it has come to, and its turns so far
pub record Route : Type 0 where
  pub stack : List ℤ
  pub turns : List ℕ

module _ (kind n : ℕ) (table : List ℕ) where
  -- the entry of a stack
  unfoldable pub entry_of : List ℤ → ℕ
  entry_of s = entry_at table (rank_of kind n s)

  -- move k leads from s to a child with entry v
  unfoldable pub leads_to : List ℤ → ℕ → ℕ → Bool
  leads_to s v k = eqb (entry_of (move_of kind n k s)) v

  -- of the moves that lead from s to a child with entry v the largest, 0 where none does
  unfoldable pub turn_to : List ℤ → ℕ → List ℕ → ℕ
  turn_to s v moves = largest (filter (leads_to s v) moves)

  -- the entry of the stacks that are one nearer than s: (v + 2) mod 3 where that of s is v
  unfoldable pub nearer_entry : List ℤ → ℕ
  nearer_entry s = next_entry (next_entry (entry_of s))

  -- the route with the move that leads one nearer, unchanged where none does
  unfoldable pub follow : List ℕ → Route → Route
  follow moves route =
      let s = route.stack in
      let k = turn_to s (nearer_entry s) moves in
      cond (eqb k 0) route (record { stack = move_of kind n k s; turns = route.turns ++ (k ∷ []) })

  module _ (wanted : List ℤ) where
    unfoldable pub is_wanted : List ℤ → Bool
    is_wanted s = eqb (rank_of kind n s) (rank_of kind n wanted)

    module _ (moves : List ℕ) where
      -- it ends at the wanted stack
      unfoldable pub plan_step : Route → Route
      plan_step route = cond (is_wanted route.stack) route (follow moves route)

      unfoldable pub plan_run : ℕ → Route → Route
      plan_run zero route = route
      plan_run (suc left) route = plan_run left (plan_step route)

      unfoldable pub route_from : List ℤ → Route
      route_from given = plan_run plan_limit (record { stack = given; turns = [] })

      -- 15 when the wanted entry is not 0, no k leads on or 254 turns do not suffice
      unfoldable pub has_plan : List ℤ → Bool
      has_plan given = eqb (entry_of wanted) 0 && is_wanted (route_from given).stack

-- 1, 2, 3 for the wanted stack, 3 for the given one, 21 for the set, 10 for the table, 10 for the turn list, and then the rest
unfoldable pub plan_row : ℕ → ℕ → List ℤ → List ℤ → ℕ → ℕ → ℕ → ℕ → ℕ
plan_row kind n wanted given groups bytes slots rest =
    kind_refusal kind n
    (unless (is_stack kind n wanted) 3
    (unless (is_stack kind n given) 3
    (unless (is_group_set kind n groups) 21
    (unless (eqb bytes (bytes_for (stack_count kind n))) 10 (unless (leb plan_limit slots) 10 rest)))))

-- then 20 when the given stack's entry is 3, then 15, and then the rest
unfoldable pub plan_refusal : ℕ → ℕ → List ℤ → List ℤ → ℕ → List ℕ → ℕ → ℕ → ℕ
plan_refusal kind n wanted given groups table slots rest =
    plan_row kind n wanted given groups (length table) slots
    (unless (not (eqb (entry_of kind n table given) unseen)) 20
    (unless (has_plan kind n table wanted (turns_in kind n groups) given) 15 rest))

-- the moves are the turns of the set; the bytes of the list past the plan are unchanged
unfoldable pub plan_of : ℕ → ℕ → List ℤ → List ℤ → ℕ → List ℕ → List ℕ → List ℕ × Planned
plan_of kind n wanted given groups table list =
    let r = plan_refusal kind n wanted given groups table (length list) 0 in
    let turns = (route_from kind n table wanted (turns_in kind n groups) given).turns in
    cond (eqb r 0)
    (turns ++ drop (length turns) list, record { refusal = 0; turns = length turns })
    (list, record { refusal = r; turns = 0 })

-- A frame that lifts only some groups (document 02, F-2), for plain 3: a whole table, plans, the refusals of sets and their order.
--   only_2      the set of size 2 alone, by which 1 2 3 and 2 1 3 have roads to the ordered stack, and the other four have none
--   limited     Build the whole table for the ordered stack by a set, in one segment
--   planned     Plan for the ordered stack
use Rattle.std.specs.Prelude.{◌≡◌, true, List, [], ◌∷◌, ℕ, ◌≤◌, ℤ, length, take, replicate}
use Rattle.stacks.specs.Stack.{is_stack, ordered}
use Rattle.search.specs.Drive.{build_of}
use Rattle.search.specs.Plan.{plan_limit, plan_of}
use Rattle.search.specs.PromiseBy.{FewestIn, CountsIn, NoRoad}
use Rattle.search.specs.Answers.{Answer}
use Rattle.search.specs.declared.Phase.TheVariants.{Finished}
use Rattle.search.specs.Answers.{Planned}
use Rattle.search.specs.Terms.{begin_refusal, terms_of}
use Rattle.search.specs.declared.Terms.{Terms}
use Rattle.worked.specs.Cases.{plain, coated, up, places, any_list}
use Rattle.worked.specs.PlainThree.{given}

abbrev pub only_2 : ℕ
only_2 = 2

-- plain 2 1 3
abbrev pub near : List ℤ
near = places (up 2 ∷ up 1 ∷ up 3 ∷ [])

-- what the frame's build is given
abbrev pub frame : ℕ → Terms
frame groups = terms_of plain 3 (ordered 3) groups 8 16

abbrev pub limited : ℕ → List ℕ × List ℕ × List ℕ × Answer
limited groups = build_of (frame groups) (0 ∷ 0 ∷ []) (replicate 16 0) (0 ∷ [])

-- slots are what the turn list held before
module _ (slots : ℕ → ℕ) where
  abbrev pub planned : List ℤ → ℕ → List ℕ → List ℕ × Planned
  planned s groups table = plan_of plain 3 (ordered 3) s groups table (any_list slots plan_limit)

  pub record Limited : Type 0 where
    -- the table: 3 where there is no road
    pub finished : (limited only_2).3.job.phase ≡ Finished 1
    pub table : (limited only_2).0 ≡ 0xdc ∷ 0xff ∷ []
    pub counts : take 3 (limited only_2).3.job.counts ≡ 1 ∷ 1 ∷ 0 ∷ []
    pub kept : (limited only_2).3.job.terms.groups ≡ only_2
    -- a plan by turns of the set, and 20 where there is no road, also where the given stack is the wanted one
    pub plan : (planned near only_2 (0xdc ∷ 0xff ∷ [])).1 ≡ record { refusal = 0; turns = 1 }
    pub front : take 1 (planned near only_2 (0xdc ∷ 0xff ∷ [])).0 ≡ 2 ∷ []
    pub no_plan : (planned given only_2 (0xdc ∷ 0xff ∷ [])).1 ≡ record { refusal = 20; turns = 0 }
    pub unseen : (planned (ordered 3) only_2 (0xff ∷ 0xff ∷ [])).1.refusal ≡ 20
    -- 20 before 15: nothing is seen; 15: the wanted entry is not 0, and a turn outside the set would lead nearer
    pub road_first : (planned near only_2 (0xff ∷ 0xff ∷ [])).1.refusal ≡ 20
    pub goal_spoilt : (planned near only_2 (0xdd ∷ 0xff ∷ [])).1.refusal ≡ 15
    pub outside : (planned (places (up 3 ∷ up 2 ∷ up 1 ∷ [])) only_2 (0xdc ∷ 0xf7 ∷ [])).1.refusal ≡ 15
    -- 21: size 1 of plain panes, sizes above n, none although there are turns; plain 1 has no turn, and its set is empty
    pub size_1 : begin_refusal (terms_of plain 3 (ordered 3) 1 4 16) ≡ 21
    pub size_4 : begin_refusal (terms_of plain 3 (ordered 3) 8 4 16) ≡ 21
    pub size_32 : begin_refusal (terms_of plain 3 (ordered 3) 0x80000002 4 16) ≡ 21
    pub empty : begin_refusal (terms_of plain 3 (ordered 3) 0 4 16) ≡ 21
    pub plain_1 : begin_refusal (terms_of plain 1 (ordered 1) 0 4 16) ≡ 0
    pub plain_1_size : begin_refusal (terms_of plain 1 (ordered 1) 1 4 16) ≡ 21
    pub coated_1 : begin_refusal (terms_of coated 1 (ordered 1) 1 4 16) ≡ 0
    pub coated_1_empty : begin_refusal (terms_of coated 1 (ordered 1) 0 4 16) ≡ 21
    -- 3 before 21, 21 before 5 and before 10
    pub stack_first : begin_refusal (terms_of plain 3 (ordered 2) 1 4 16) ≡ 3
    pub set_first : begin_refusal (terms_of plain 3 (ordered 3) 1 6 16) ≡ 21
    pub set_first_in_plan : (planned near 1 []).1.refusal ≡ 21
    -- what the theorem says of this build: no turns of the set lead from 3 1 2 to the ordered stack, and one does from 2 1 3
    pub no_road : NoRoad (frame only_2) given
    pub fewest : FewestIn plain 3 only_2 near (ordered 3) 1
    -- 20 into any turn list that is long enough, one stack at one turn, and none at more
    pub refused : (list : List ℕ) → 254 ≤ length list → (plan_of plain 3 (ordered 3) given only_2 (0xdc ∷ 0xff ∷ []) list).1.refusal ≡ 20
    pub at_1 : CountsIn plain 3 only_2 (ordered 3) 1 1
    pub greatest : (s : List ℤ) (d : ℕ) → is_stack plain 3 s ≡ true → FewestIn plain 3 only_2 s (ordered 3) d → d ≤ 1

-- The starred cases of document 01's "At the edges": a clause for each, in its order.
use Rattle.std.specs.Prelude.{◌≡◌, List, [], ◌∷◌, ℕ, suc, take}
use Rattle.stacks.specs.Operations.{indexed, stacked, index_of, stack_of, turned_of}
use Rattle.stacks.specs.Stack.{ordered}
use Rattle.search.specs.Segments.{joined}
use Rattle.search.specs.declared.Phase.TheVariants.{Finished}
use Rattle.worked.specs.Cases.{plain, coated, up, down, places, end_of}

-- a build for the ordered stack is finished by the level after the deepest, and leaves this table; or these counts
pub record Table (kind n S deepest : ℕ) (table : List ℕ) : Type 0 where
  pub finished : (end_of kind n S (suc deepest)).job.phase ≡ Finished deepest
  pub leaves : joined (end_of kind n S (suc deepest)).segments ≡ table

pub record LevelCounts (kind n S deepest : ℕ) (counts : List ℕ) : Type 0 where
  pub finished : (end_of kind n S (suc deepest)).job.phase ≡ Finished deepest
  pub counted : take (suc deepest) (end_of kind n S (suc deepest)).job.counts ≡ counts

pub record Starred : Type 0 where
  -- plain 3 1 2 is index 4; index 5 is 3 2 1; index 6 is refused 4
  pub plain_312 : index_of plain 3 (places (up 3 ∷ up 1 ∷ up 2 ∷ [])) ≡ indexed 0 4
  pub plain_at_5 : stack_of plain 3 5 ≡ stacked 0 (places (up 3 ∷ up 2 ∷ up 1 ∷ []))
  pub plain_at_6 : (stack_of plain 3 6).refusal ≡ 4
  -- coated +2 -1 is index 5; -1 -2 is 3
  pub coated_2_1 : index_of coated 2 (places (up 2 ∷ down 1 ∷ [])) ≡ indexed 0 5
  pub coated_1_2 : index_of coated 2 (places (down 1 ∷ down 2 ∷ [])) ≡ indexed 0 3
  -- turn 2 of coated +1 +2 is -2 -1; plain turn 1 is refused 4
  pub turn_coated : turned_of coated 2 (places (up 1 ∷ up 2 ∷ [])) 2 ≡ stacked 0 (places (down 2 ∷ down 1 ∷ []))
  pub turn_plain_1 : (turned_of plain 3 (ordered 3) 1).refusal ≡ 4
  -- tables for the ordered wanted stack: plain 1 is fc, coated 1 is f4, plain 3 is 90 f6, also of two segments with logs between them
  pub table_plain_1 : Table plain 1 4 0 (0xfc ∷ [])
  pub table_coated_1 : Table coated 1 4 1 (0xf4 ∷ [])
  pub table_plain_3 : Table plain 3 8 3 (0x90 ∷ 0xf6 ∷ [])
  pub table_plain_3_logs : Table plain 3 4 3 (0x90 ∷ 0xf6 ∷ [])
  -- coated 2 has counts 1 2 2 2 1
  pub counts_coated_2 : LevelCounts coated 2 8 4 (1 ∷ 2 ∷ 2 ∷ 2 ∷ 1 ∷ [])

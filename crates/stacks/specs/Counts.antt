-- How many stacks have a property, and how many are at a number of turns from a wanted one.
--   TellsWhere    a test that tells exactly the stacks with the property
--   CountsWhere   count is the number of those stacks: some test tells them, and whichever does, count is its tally over all stacks
--   CountsBy      of the stacks at d turns by some moves; CountsAt, by all turns
use Rattle.std.specs.Prelude.{◌≡◌, Bool, true, List, ℕ, ℤ}
use Rattle.base.specs.Words.{tally}
use Rattle.stacks.specs.Index.{all_stacks}
use Rattle.stacks.specs.Stack.{is_stack}
use Rattle.stacks.specs.Turn.{is_turn, FewestBy}

module _ (kind n : ℕ) (property : List ℤ → Type 0) where
  pub record TellsWhere (test : List ℤ → Bool) : Type 0 where
    pub only : (s : List ℤ) → is_stack kind n s ≡ true → test s ≡ true → property s
    pub every : (s : List ℤ) → is_stack kind n s ≡ true → property s → test s ≡ true

  pub record CountsWhere (count : ℕ) : Type 0 where
    pub test : List ℤ → Bool
    pub tells : TellsWhere test
    pub tallied : (other : List ℤ → Bool) → TellsWhere other → count ≡ tally other (all_stacks kind n)

abbrev pub CountsBy : ℕ → ℕ → (ℕ → Bool) → List ℤ → ℕ → ℕ → Type 0
CountsBy kind n is_move wanted d = CountsWhere kind n (λ s. FewestBy kind n is_move s wanted d)

-- by all turns
abbrev pub CountsAt : ℕ → ℕ → List ℤ → ℕ → ℕ → Type 0
CountsAt kind n = CountsBy kind n (is_turn kind n)

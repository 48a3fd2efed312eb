-- The results of the operations on stacks as their answers, by the number of their row of refusals.
use mathlib.Core.Path.{◌≡◌}
use mathlib.Core.List.{List}
use Rattle.std.specs.Prelude.{Ok, Err}
use Prim.Native.Nat.{ℕ}
use lib.IntN.{ℤ}
use borrow.Author.Tests.{ne_eqb}
use Rattle.stacks.specs.Operations.{indexed, stacked}
use Rattle.stacks.specs.Refusals.{number, as_indexed, as_stacked}
use Rattle.stacks.specs.declared.refusal.Refusal.{Refusal}
use Rattle.stacks.proofs.Numbers.{number-some}

module _ (q : ℕ) where
  pub no_index : (r : Refusal) → number r ≡ q → (i : ℕ) → as_indexed (Err r) ≡ indexed q i
  no_index r e i = rw (← e, ne_eqb (number r) 0 (number-some r))

  pub an-index : 0 ≡ q → (i j : ℕ) → j ≡ i → as_indexed (Ok j) ≡ indexed q i
  an-index e i j k = rw (← e, k)

  pub no_stack : (r : Refusal) → number r ≡ q → (s : List ℤ) → as_stacked (Err r) ≡ stacked q s
  no_stack r e s = rw (← e, ne_eqb (number r) 0 (number-some r))

  pub a-stack : 0 ≡ q → (s t : List ℤ) → t ≡ s → as_stacked (Ok t) ≡ stacked q s
  a-stack e s t k = rw (← e, k)

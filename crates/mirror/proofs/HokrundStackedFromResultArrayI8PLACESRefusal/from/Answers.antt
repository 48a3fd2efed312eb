-- The answer of Stack at an index and of Turn: beside a refusal, whose number is not 0, stand zeros.
use mathlib.Core.Path.{◌≡◌, refl}
use mathlib.Core.List.{List}
use Prim.Native.Nat.{ℕ}
use lib.IntN.{ℤ, pos}
use lib.ListN.{replicate}
use borrow.Author.Tests.{ne_eqb}
use Rattle.std.specs.Prelude.{Result, Ok, Err, MatchResult}
use Rattle.stacks.specs.Refusals.{number, as_stacked}
use Rattle.stacks.specs.declared.refusal.Refusal.{Refusal}
use Rattle.stacks.proofs.Numbers.{number-some}
use Rattle.mirror.specs.Mirror.{stacked_of}
use Rattle.mirror.specs.declared.HokrundStacked.{HokrundStacked}
use Rattle.mirror.proofs.HokrundStackedFromResultArrayI8PLACESRefusal.from.Goals as goal

parted : (outcome : Result (List ℤ) Refusal) (p : ℕ × List ℤ)
    → MatchResult outcome (λ s. p ≡ (0, s)) (λ r. p ≡ (number r, replicate 12 (pos 0)))
    → ◌≡◌ {A = HokrundStacked} (record { refusal = p.0; stack = record { places = p.1 } }) (stacked_of (as_stacked outcome))
unfolding stacked_of
parted (Ok s) p e = rw e refl
parted (Err r) p e = rw (e, ne_eqb (number r) 0 (number-some r)) refl

pub returns : goal.returns
returns c = parted c.args.outcome c.parted-refusal.result c.parted-refusal.ensures

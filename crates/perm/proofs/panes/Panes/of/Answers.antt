-- `perm::panes::Panes::of` meets its contract: neither row refuses.
use mathlib.Core.Path.{◌≡◌, refl, ◌∙◌}
use Rattle.std.specs.Prelude.{Result, Ok, Err}
use Rattle.std.specs.Result.{IsOk}
use Rattle.stacks.specs.Operations.{kind_refusal}
use Rattle.stacks.specs.Refusals.{refusal_of}
use Rattle.stacks.specs.declared.refusal.Refusal.{Refusal}
use Rattle.stacks.proofs.Numbers.{number-some}
use Rattle.perm.proofs.panes.Panes.of.Goals as goal

taken : {A : Type 0} (r : Result A Refusal) → refusal_of r ≡ 0 → IsOk r
taken (Ok x) e = refl
taken (Err r) e = absurd (number-some r e)

none : (c : goal.After-new) → kind_refusal c.args.kind c.args.n 0 ≡ 0
unfolding kind_refusal
none c = rw (c.requires.kinds, c.requires.panes)

pub unwrap-requires : goal.unwrap-requires
unwrap-requires c = taken c.new.result (c.new.ensures.refusal ∙ none c)

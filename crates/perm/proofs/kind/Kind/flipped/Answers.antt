-- `perm::kind::Kind::flipped` meets its contract: a pane of at most 12 is negated within the type's range.
use mathlib.Core.Path.{subst⁻¹}
use native.Mathlib.Omega.{arith}
use mir.Syntax.{w8}
use mir.Val.{SFits}
use mir.Facts.{to_z-of_z}
use Rattle.stacks.specs.Stack.{is_coated}
use Rattle.stacks.specs.Turn.{flip}
use Rattle.perm.proofs.Signed.{neg-fits, neg-read, neg-back}
use Rattle.perm.proofs.kind.Kind.flipped.Goals as goal

pub overflow_sub-result : goal.overflow_sub-result
overflow_sub-result c = subst⁻¹ (SFits w8) (neg-read c.ranges.x) (neg-fits w8 c.args.x (omega arith))

pub returns-in-Plain : goal.returns-in-Plain
unfolding flip is_coated
returns-in-Plain c = rw c.in-Plain.is (to_z-of_z c.ranges.x)

pub returns-in-Coated : goal.returns-in-Coated
unfolding flip is_coated
returns-in-Coated c = rw c.in-Coated.is (neg-back c.ranges.x (omega arith))

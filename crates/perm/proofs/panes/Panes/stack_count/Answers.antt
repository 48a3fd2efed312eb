-- `perm::panes::Panes::stack_count` meets its contract: every count fits 32 bits.
use mathlib.Core.Path.{◌≡◌, ap₂}
use Prim.Native.Nat.{ℕ, ◌*◌}
use native.Mathlib.Omega.{arith}
use Rattle.stacks.specs.Stack.{stack_count}
use Rattle.stacks.proofs.KindLaws.{panes-twelve, count_fits}
use Rattle.perm.specs.Panes.{kind_of}
use Rattle.perm.proofs.panes.Panes.stack_count.Goals as goal

pub factorial-requires : goal.factorial-requires
factorial-requires c = panes-twelve (kind_of c.args.self) c.args.self.n c.args.self.in_range

pub coatings-requires : goal.coatings-requires
coatings-requires c = panes-twelve (kind_of c.args.self) c.args.self.n c.args.self.in_range

product : (c : goal.After-coatings) → c.factorial.result * c.coatings.result ≡ stack_count (kind_of c.args.self) c.args.self.n
unfolding stack_count
product c = ap₂ (λ (x y : ℕ). x * y) c.factorial.ensures c.coatings.ensures

pub overflow_mul-result : goal.overflow_mul-result
overflow_mul-result c = record { fits = omega (arith, product c, count_fits (kind_of c.args.self) c.args.self.n c.args.self.in_range) }

pub returns : goal.returns
returns c = product c

-- `expand::logs::falling_in` meets its contract.
use mathlib.Core.Path.{◌≡◌, ◌∙◌}
use Prim.Native.Nat.{◌/◌}
use lib.Dec.{eqb}
use Rattle.std.specs.List.{count_by}
use borrow.Author.Rules.{rules}
use Rattle.expand.proofs.Lowest.{falling-counted}
use Rattle.expand.proofs.logs.falling_in.Goals as goal

pub returns : goal.returns
returns c =
    let a = c.args in
    let counted : c.count.result ≡ count_by (λ x. eqb (x / a.size) a.t) a.children.now = search rules in
    counted ∙ falling-counted a.size a.t a.children.now

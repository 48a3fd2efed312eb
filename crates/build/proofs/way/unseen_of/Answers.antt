-- `build::way::unseen_of` meets its contract: each count is taken off what the ones before it left.
use mathlib.Core.Path.{◌≡◌, ◌∙◌, ap}
use Prim.Native.Nat.{ℕ, ◌-◌}
use borrow.Author.Rules.{rules}
use Rattle.base.specs.Words.{total}
use Rattle.std.specs.List.{fold}
use Rattle.build.proofs.Ways.{taken_off}
use Rattle.build.proofs.way.unseen_of.Goals as goal

pub returns : goal.returns
returns c =
    let folds : c.fold.result ≡ fold (λ left count. left - count) c.from.result c.args.counts.now = search rules in
    folds ∙ taken_off c.args.counts.now c.from.result ∙ ap (λ (n : ℕ). n - total c.args.counts.now) c.from.ensures

-- `perm::panes::Panes::rank` meets its contract. The loop's invariant: what is met above place p is ranked.
use mathlib.Core.Path.{◌≡◌, sym, ap, subst, ◌∙◌}
use Prim.Native.Nat.{ℕ, ◌+◌, ◌*◌, ◌<◌}
use native.Mathlib.Nat.{lt_trans}
use native.Mathlib.Omega.{arith}
use lib.IntN.{ℤ, pos}
use lib.ListN.{get_or}
use mir.Syntax.{w8}
use mir.Val.{to_z, of_z}
use Rattle.stacks.specs.Index.{rank_of}
use Rattle.stacks.proofs.KindLaws.{panes-twelve, count_fits}
use Rattle.stacks.proofs.Numbering.{rank_lt}
use Rattle.perm.specs.Panes.{kind_of}
use Rattle.perm.specs.declared.numbering.Ranking.{Ranking}
use Rattle.perm.proofs.Signed.{place-back}
use Rattle.perm.proofs.Ranking.{Ranked, is-nothing, ranked-start, ranked-fits, ranked-step, ranked-end}
use Rattle.perm.proofs.panes.Panes.rank.Goals.{After-coatings}
use Rattle.perm.proofs.panes.Panes.rank.Goals as goal

pub loop-p-init : goal.loop-p-init
loop-p-init c =
    rw (is-nothing c.default-above.result c.default-above.ensures) (ranked-start c.args.self.n c.args.stack)

pub bounds-stack-p : goal.bounds-stack-p
bounds-stack-p c = omega (arith, panes-twelve (kind_of c.args.self) c.args.self.n c.args.self.in_range)

pub with_place-above-requires : goal.with_place-above-requires
with_place-above-requires c =
    let a = c.before.before in
    let s = a.args.stack in
    let x : ℤ = get_or s a.loop-p.p (pos 0) in
    ranked-fits (kind_of a.args.self) a.args.self.n s a.args.self.in_range a.requires a.loop-p.above a.loop-p.p a.loop-p.invariant
    (omega arith) (to_z w8 (of_z w8 x)) (place-back x c.with_place-arg-1.given)

pub loop-p-preserved : goal.loop-p-preserved
loop-p-preserved c =
    let a = c.before.before.before in
    let n = a.args.self.n in
    let s = a.args.stack in
    let x : ℤ = get_or s a.loop-p.p (pos 0) in
    subst (λ (r : Ranking). Ranked n s r (a.loop-p.p + 1)) (sym c.with_place-above.ensures)
    (ranked-step (kind_of a.args.self) n s a.args.self.in_range a.requires a.loop-p.above a.loop-p.p a.loop-p.invariant
    (omega arith) (to_z w8 (of_z w8 x)) (place-back x c.with_place-arg-1.given))

pub coatings-requires : goal.coatings-requires
coatings-requires c = panes-twelve (kind_of c.args.self) c.args.self.n c.args.self.in_range

-- what is added up is the index, which is below the count
whole : (c : After-coatings)
    → let a = c.before.before in
    a.loop-p.above.order * c.coatings.result + a.loop-p.above.coats ≡ rank_of (kind_of a.args.self) a.args.self.n a.args.stack
whole c =
    let a = c.before.before in
    ap (λ (w : ℕ). a.loop-p.above.order * w + a.loop-p.above.coats) c.coatings.ensures
    ∙ ranked-end (kind_of a.args.self) a.args.self.n a.args.stack a.args.self.in_range a.requires
    a.loop-p.above a.loop-p.p a.loop-p.invariant (omega arith)

fits : (c : After-coatings)
    → c.loop-p.above.order * c.coatings.result + c.loop-p.above.coats < 4294967296
fits c =
    let a = c.before.before.before in
    rw (whole c)
    (lt_trans (rank_lt (kind_of a.args.self) a.args.self.n a.args.stack a.args.self.in_range a.requires) (count_fits (kind_of a.args.self) a.args.self.n a.args.self.in_range))

pub overflow_mul-result : goal.overflow_mul-result
overflow_mul-result c = record { fits = omega (arith, fits (goal.at.overflow_mul-result c).After-coatings) }

pub overflow_add-result : goal.overflow_add-result
overflow_add-result c = record { fits = fits (goal.at.overflow_add-result c).After-coatings }

pub returns : goal.returns
returns c = whole (goal.at.returns c).After-coatings

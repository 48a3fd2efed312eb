-- `frames::output::write_levels` meets its contract. The loop's invariant: the lines of the levels below this one are written.
use Rattle.std.proofs.Common.{◌≡◌, ℕ, suc, ◌+◌, List, sym, refl, ap, ◌∙◌, subst, add-one, arith}
use Rattle.text.specs.Output.{level_line, levels_below, line_at, level_lines}
use Rattle.text.specs.Written.{over, Put, Wrote}
use Rattle.text.proofs.Writing.{wrote, put-after, levels-none, levels-more, levels-length, level-length}
use Rattle.frames.proofs.output.write_levels.Goals as goal

pub loop-level-init : goal.loop-level-init
unfolding over
loop-level-init c =
    let none = levels-none (line_at c.args.counts.now) in
    wrote (levels_below (line_at c.args.counts.now) 0) c.args.out.now c.args.out.now 0 (rw none refl) (rw none refl)

pub put_number-at-requires : goal.put_number-at-requires
put_number-at-requires c =
    omega (arith, c.loop-level.invariant.count, levels-length (line_at c.args.counts.now) 11 (level-length c.args.counts.now) c.loop-level.level)

-- a line more
one_more : (line : ℕ → List ℕ) (out₀ out out' : List ℕ) (at level r : ℕ) → Wrote (levels_below line level) out₀ out at
    → Put (line level) at out out' r → Wrote (levels_below line (level + 1)) out₀ out' r
one_more line out₀ out out' at level r l p =
    subst (λ (t : List ℕ). Wrote t out₀ out' r) (sym (levels-more line level) ∙ ap (levels_below line) (sym (add-one level)))
    (put-after (levels_below line level) (line level) out₀ out out' at r l.count l.front p)

pub loop-level-preserved : goal.loop-level-preserved
unfolding level_line
loop-level-preserved c =
    one_more (line_at c.args.counts.now) c.args.out.now c.loop-level.out c.put_number-at.new.out c.loop-level.at c.loop-level.level
    c.put_number-at.result c.loop-level.invariant c.put_number-at.ensures

pub returns-2 : goal.returns-2
unfolding level_lines level_line
returns-2 c =
    subst (λ (levels : ℕ). Wrote (levels_below (line_at c.args.counts.now) levels) c.args.out.now c.put_number-at.new.out c.put_number-at.result)
    (let e : c.loop-level.level + 1 ≡ suc c.args.deepest = omega arith in e)
    (one_more (line_at c.args.counts.now) c.args.out.now c.loop-level.out c.put_number-at.new.out c.loop-level.at c.loop-level.level
    c.put_number-at.result c.loop-level.invariant c.put_number-at.ensures)

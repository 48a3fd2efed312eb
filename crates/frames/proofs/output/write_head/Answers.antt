-- `frames::output::write_head` meets its contract: the levels, and a line after them, and one more.
use Rattle.std.proofs.Common.{ℕ, List, [], ◌∷◌, ◌++◌, ap, ◌∙◌, subst, arith, rules}
use Rattle.base.specs.Words.{total}
use Rattle.text.specs.Hex.{line_of, four_bytes}
use Rattle.text.specs.Output.{level_counts, level_lines, deepest_line, total_line}
use Rattle.text.specs.Written.{Put}
use Rattle.text.proofs.HexLaws.{four-wraps}
use Rattle.text.proofs.Writing.{line-length, put-after, levels-most}
use Rattle.frames.proofs.output.write_head.Goals as goal

pub put_line-at-requires : goal.put_line-at-requires
put_line-at-requires c =
    let w = c.write_levels-levels in
    let a = c.args in
    omega (arith, w.ensures.count, levels-most a.counts.now a.deepest (search rules))

pub put_number-requires : goal.put_number-requires
put_number-requires c =
    let w = c.write_levels-levels in
    let a = c.args in
    let l = c.put_line-at in
    omega (
      arith,
      l.ensures.end,
      line-length (255 ∷ a.deepest ∷ []),
      w.ensures.count,
      levels-most a.counts.now a.deepest (search rules),
    )

pub returns : goal.returns
unfolding deepest_line total_line
returns c =
    let w = c.write_levels-levels in
    let a = c.args in
    let l = c.put_line-at in
    let p = c.put_number in
    let t = c.total_of in
    let levels = level_lines a.deepest a.counts.now in
    let deepest = deepest_line a.deepest in
    let sum = total (level_counts a.deepest a.counts.now) in
    let two = put-after levels deepest a.out.now w.new.out l.new.out w.result l.result w.ensures.count w.ensures.front l.ensures in
    put-after (levels ++ deepest) (total_line sum) a.out.now l.new.out p.new.out l.result p.result two.count two.front
    (subst (λ (bs : List ℕ). Put (line_of (254 ∷ bs)) l.result l.new.out p.new.out p.result) (ap four_bytes t.ensures ∙ four-wraps sum) p.ensures)

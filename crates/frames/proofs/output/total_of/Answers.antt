-- `frames::output::total_of` meets its contract: the sum so far is that of the levels below this one.
use Rattle.std.proofs.Common.{◌≡◌, ℕ, ◌+◌, ◌%◌, ◌^◌, ◌<◌, List, [], ◌∷◌, length, get_or, take, refl, ap, ◌∙◌, add-one, arith, take-suc, take_all}
use Rattle.text.specs.Output.{level_counts}
use Rattle.base.specs.Words.{total}
use Rattle.base.proofs.Counting.{total-append}
use Rattle.frames.proofs.output.total_of.Goals as goal

pub loop-count-init : goal.loop-count-init
unfolding total
loop-count-init c = refl

-- a count more
sum_more : (counts : List ℕ) (level sum : ℕ) → level < length counts → sum ≡ total (take level counts) % 2 ^ 64
    → (sum + get_or counts level 0) % 2 ^ 64 ≡ total (take (level + 1) counts) % 2 ^ 64
unfolding total
sum_more counts level sum h e =
    let more = ap (λ (k : ℕ). total (take k counts)) (add-one level) ∙ ap total (take-suc counts level 0 h)
    ∙ total-append (take level counts) (get_or counts level 0 ∷ []) in
    omega (arith, e, more)

pub loop-count-preserved : goal.loop-count-preserved
loop-count-preserved c =
    sum_more (take (c.args.deepest + 1) c.args.counts.now) c.loop-count.count-index c.loop-count.sum c.loop-count-test.true c.loop-count.invariant

pub returns : goal.returns
returns c =
    let counts = take (c.args.deepest + 1) c.args.counts.now in
    let e : take c.loop-count.count-index counts ≡ level_counts c.args.deepest c.args.counts.now =
    take_all c.loop-count.count-index counts (omega arith) ∙ ap (λ (k : ℕ). take k c.args.counts.now) (add-one c.args.deepest) in
    c.loop-count.invariant ∙ ap (λ (ns : List ℕ). total ns % 2 ^ 64) e

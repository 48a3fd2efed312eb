-- `maker::line_of` meets its contract. The loop's invariant: i entries are the table's.
use mathlib.Core.Path.{◌≡◌, refl, sym, ◌∙◌}
use mathlib.Core.List.{List}
use Prim.Native.Nat.{ℕ, ◌+◌, ◌*◌, ◌<◌}
use native.Mathlib.Numerals.{add-one}
use native.Mathlib.Omega.{arith}
use lib.ListN.{length, get_or, set, take, length-set, length-drop}
use lib.Seq.{take_all, take-suc, take-suc-set, get_or-drop}
use Rattle.ones.specs.Ones.{ones_table}
use Rattle.ones.proofs.TableLaws.{table_length}
use Rattle.ones.proofs.Clearing.{clearings-agree}
use Rattle.maker.specs.OnesText.{line_bytes, line_count}
use Rattle.maker.proofs.line_of.Invariants.{rest}
use Rattle.maker.proofs.line_of.Goals as goal

-- an entry more
one_more : (line : ℕ) (bytes : List ℕ) (i x : ℕ) → line < line_count → i < line_bytes → length bytes ≡ line_bytes → take i bytes ≡ take i (rest line)
    → x ≡ get_or ones_table (line_bytes * line + i) 0 → take (i + 1) (set bytes i x) ≡ take (i + 1) (rest line)
one_more line bytes i x l h w e f =
    let long : i < length (rest line) = rw (length-drop (line_bytes * line) ones_table, table_length) (omega arith) in
    rw (add-one i, take-suc-set bytes i x (omega arith), take-suc (rest line) i 0 long, get_or-drop (line_bytes * line) ones_table i 0, e, f)

pub loop-i-init : goal.loop-i-init
loop-i-init c = (refl, refl)

pub loop-i-preserved : goal.loop-i-preserved
loop-i-preserved c =
    let a = c.loop-i in
    let line = c.args.line in
    let here : a.i < line_bytes = omega arith in
    let set : ℕ = line_bytes * line + a.i in (
      length-set a.bytes a.i c.cleared.result ∙ a.invariant.0,
      one_more line a.bytes a.i c.cleared.result c.requires here a.invariant.0 a.invariant.1
          (c.cleared.ensures ∙ clearings-agree set (omega (arith, c.requires))),
    )

pub returns : goal.returns
returns c =
    let a = c.loop-i in
    let e : a.i ≡ line_bytes = omega arith in
    sym (take_all line_bytes a.bytes (omega (arith, a.invariant.0))) ∙ rw e at a.invariant.1

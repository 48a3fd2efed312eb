-- `session::first::build_in` meets its contract: what the build is given is as the definition says, so that it is not refused.
use mathlib.Core.Path.{◌≡◌, refl, sym, ap, ◌∙◌}
use mathlib.Core.List.{List, ◌++◌}
use Prim.Native.Nat.{ℕ}
use native.Mathlib.Omega.{arith}
use lib.ListN.{drop, replicate}
use lib.Seq.{length-take-le}
use Rattle.std.specs.Prelude.{Result, Ok, Err, IsOk}
use Rattle.stacks.specs.declared.refusal.Refusal.{Refusal}
use Rattle.stacks.proofs.Numbers.{number-some}
use Rattle.search.specs.Results.{as_begun}
use Rattle.search.specs.Answers.{Answer}
use Rattle.search.specs.declared.Job.{Job}
use Rattle.text.specs.Reader.{log_limit, list_limit}
use Rattle.text.proofs.LentLaws.{built_answer, answer-is, built-is}
use Rattle.text.proofs.Meaning.{build-accepts}
use Rattle.session.proofs.first.build_in.Goals.{After-build_table}
use Rattle.session.proofs.first.build_in.Goals as goal

pub slice_bounds-build_table-end-2 : goal.slice_bounds-build_table-end-2
slice_bounds-build_table-end-2 c =
    let l = c.table_bytes-bytes in
    sym (length-take-le l.result c.args.table.now (omega (arith, l.ensures.1)))

pub slice_bounds-build_table-end-3 : goal.slice_bounds-build_table-end-3
slice_bounds-build_table-end-3 c =
    let w = c.log_words-words in
    sym (length-take-le w.result (replicate log_limit 0) w.ensures.1)

pub slice_bounds-build_table-end-4 : goal.slice_bounds-build_table-end-4
slice_bounds-build_table-end-4 c =
    let w = c.changed_bytes-listed in
    sym (length-take-le w.result (replicate list_limit 0) w.ensures.1)

-- what the build leaves in the table, and its answer
done : (c : After-build_table) → (let a = c.args.first in
    (c.build_table.new.table ++ drop c.table_bytes-bytes.result c.args.table.now, as_begun c.build_table.result)
    ≡ built_answer a.kind a.n a.wanted a.size c.args.table.now)
done c =
    let f = c.build_table in
    let g = c.report_groups-groups in
    let a = c.args.first in
    built-is a.kind a.n a.wanted a.size c.args.table.now f.new.table f.new.log
    f.new.list (as_begun f.result) g.result c.table_bytes-bytes.result c.log_words-words.result c.changed_bytes-listed.result
    g.ensures c.table_bytes-bytes.ensures.0 c.log_words-words.ensures.0 c.log_words-words.ensures.1 c.changed_bytes-listed.ensures.0
    c.changed_bytes-listed.ensures.1 f.ensures

no-refusal : (r : Result Job Refusal) → (as_begun r).refusal ≡ 0 → IsOk r
no-refusal (Ok job) e = refl
no-refusal (Err r) e = absurd (number-some r e)

pub unwrap-requires : goal.unwrap-requires
unwrap-requires c =
    let a = c.args in
    no-refusal c.build_table.result
    (ap (λ (x : List ℕ × Answer). x.1.refusal) (done (goal.at.unwrap-requires c).After-build_table)
    ∙ build-accepts a.first c.requires.accepted.0 a.table.now c.requires.accepted.1 c.requires.table_len)

pub returns : goal.returns
returns c =
    let a = c.args.first in
    let front = c.build_table.new.table ++ drop c.table_bytes-bytes.result c.args.table.now in
    ap (λ (r : Result Job Refusal). (front, (as_begun r).job)) (sym c.unwrap.ensures)
    ∙ ap (λ (x : List ℕ × Answer). (x.0, x.1.job)) (done (goal.at.returns c).After-build_table)
    ∙ answer-is a.kind a.n a.wanted a.size c.args.table.now

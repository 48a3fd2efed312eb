-- `plan::question::Question::new` meets its contract: the kind and n, the wanted stack, the given one, the set, and then the lengths.
use mathlib.Core.Path.{◌≡◌, sym, ap, ◌∙◌}
use mathlib.Core.Bool.{true}
use Rattle.std.proofs.lemmas.Result.{err_from_is_err_and}
use Rattle.base.specs.Words.{unless}
use Rattle.stacks.specs.Refusals.{number}
use Rattle.stacks.specs.Stack.{is_stack, stack_count}
use Rattle.stacks.specs.Turn.{is_group_set}
use Rattle.search.specs.Entries.{bytes_for}
use Rattle.plan.proofs.Refusing.{wanted-err, given-none, set-err, bytes-none, slots-none, asked-none}
use Rattle.plan.proofs.question.Question.new.Goals.{Else-not-is_stack, After-bytes_for-bytes, then-table-bytes-via-then-table-bytes, then-table-bytes-via-else-table-bytes+then-slots-lt-PLAN_LIMIT}
use Rattle.plan.proofs.question.Question.new.Goals as goal

pub returns-in_err-panes-clause-refusal : goal.returns-in_err-panes-clause-refusal
returns-in_err-panes-clause-refusal c =
    let a = c.args in
    let p = err_from_is_err_and c.from_residual.result c.from_residual.ensures.1 in
    rw (p.1, p.2) (wanted-err a.kind a.n a.wanted a.given a.groups _ a.slots _ c.in_err-panes.ensures.refusal)

pub returns-then-not-is_stack-clause-refusal : goal.returns-then-not-is_stack-clause-refusal
unfolding number
returns-then-not-is_stack-clause-refusal c =
    let a = c.args in
    let told = c.in_ok-panes.ensures in
    given-none a.kind a.n a.wanted a.given a.groups _ a.slots told.refusal
    (rw (told.panes.0, told.panes.1) at (sym c.is_stack.ensures ∙ c.if-not-is_stack.true))

-- the given stack is one
given : (c : Else-not-is_stack) → let a = c.args in is_stack a.kind a.n a.given ≡ true
given c =
    let told = c.in_ok-panes.ensures in
    rw (told.panes.0, told.panes.1) at (sym c.is_stack.ensures ∙ c.if-not-is_stack.false)

pub returns-in_err-set-clause-refusal : goal.returns-in_err-set-clause-refusal
returns-in_err-set-clause-refusal c =
    let a = c.args in
    let told = c.in_ok-panes.ensures in
    let p = err_from_is_err_and c.from_residual-in_err-set.result c.from_residual-in_err-set.ensures.1 in
    rw (p.1, p.2)
    (set-err a.kind a.n a.wanted a.given a.groups _ a.slots told.refusal (given (goal.at.returns-in_err-set-clause-refusal c).Else-not-is_stack) _
    (rw (told.panes.0, told.panes.1) at c.in_err-set.ensures.refusal))

-- the set is one
named : (c : After-bytes_for-bytes) → let a = c.args in 0 ≡ unless (is_group_set a.kind a.n a.groups) 21 0
named c =
    let told = c.in_ok-panes.ensures in
    rw (told.panes.0, told.panes.1) at c.in_ok-set.ensures.refusal

-- the bytes of such a table
wide : (c : After-bytes_for-bytes) → let a = c.args in c.bytes_for-bytes.result ≡ bytes_for (stack_count a.kind a.n)
wide c =
    let told = c.in_ok-panes.ensures in
    c.bytes_for-bytes.ensures ∙ ap bytes_for (rw (told.panes.0, told.panes.1) at c.stack_count.ensures)

pub returns-then-table-bytes-clause-refusal : goal.returns-then-table-bytes-clause-refusal
unfolding number
returns-then-table-bytes-clause-refusal c =
    let a = c.args in
    let told = c.in_ok-panes.ensures in
    let g = given (goal.at.returns-then-table-bytes-clause-refusal c).Else-not-is_stack in
    let s = (goal.at.returns-then-table-bytes-clause-refusal c).After-bytes_for-bytes in
    elim c.then-table-bytes.branch [
      | then-table-bytes-via-then-table-bytes w ↦
          bytes-none a.kind a.n a.wanted a.given a.groups _ a.slots told.refusal g (named s) (λ e. w.if-table-bytes.true (e ∙ sym (wide s)))
      | then-table-bytes-via-else-table-bytes+then-slots-lt-PLAN_LIMIT w ↦
          slots-none a.kind a.n a.wanted a.given a.groups _ a.slots told.refusal g (named s)
          (w.if-table-bytes.false ∙ wide s) w.if-slots-lt-PLAN_LIMIT.true
    ]

pub returns-clause-refusal : goal.returns-clause-refusal
returns-clause-refusal c =
    let a = c.args in
    let told = c.in_ok-panes.ensures in
    let s = (goal.at.returns-clause-refusal c).After-bytes_for-bytes in
    asked-none a.kind a.n a.wanted a.given a.groups _ a.slots told.refusal (given (goal.at.returns-clause-refusal c).Else-not-is_stack) (named s)
    (c.if-table-bytes.false ∙ wide s) c.if-slots-lt-PLAN_LIMIT.false

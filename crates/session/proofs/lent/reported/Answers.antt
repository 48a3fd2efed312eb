-- `session::lent::reported` meets its contract: what is asked of a kind rests on whether it is coated alone.
use Rattle.std.proofs.Common.{◌≡◌, ℕ, Bool, true, false, sym, ap, ◌∙◌, refl, eqb}
use mir.Val.{bool_byte}
use borrow.Author.Tests.{lt-leb, le-leb}
use Rattle.base.specs.Words.{unless}
use Rattle.stacks.specs.Operations.{kind_refusal}
use Rattle.stacks.specs.Stack.{is_kind, is_coated, fewest_panes, most_panes, is_pane_count, coatings, stack_count}
use Rattle.stacks.specs.Turn.{first_turn, last_turn, turns_of, all_groups}
use Rattle.stacks.specs.Refusals.{number}
use Rattle.stacks.specs.declared.refusal.Refusal.{Refusal}
use Rattle.stacks.proofs.Numbers.{number-some}
use Rattle.perm.specs.Panes.{kind_of}
use Rattle.text.specs.Frame.{stack_limit}
use Rattle.text.proofs.LentLaws.{reported-none, reported-some}
use Rattle.session.proofs.lent.reported.Goals.{In-Ok}
use Rattle.session.proofs.lent.reported.Goals as goal

module _ (a b n : ℕ) (e : is_coated a ≡ is_coated b) where
  panes-as : is_pane_count a n ≡ is_pane_count b n
  unfolding is_pane_count fewest_panes most_panes
  panes-as = rw e

  count-as : stack_count a n ≡ stack_count b n
  unfolding stack_count coatings
  count-as = rw e

  all-as : all_groups a n ≡ all_groups b n
  unfolding all_groups turns_of first_turn last_turn
  all-as = rw e

-- the kind that is asked of Panes: 1 where the given one is coated, and else 0
coat-of : (t : Bool) → is_coated (bool_byte t) ≡ t
unfolding is_coated
coat-of true = refl
coat-of false = refl

asked : (kind : ℕ) → is_coated (bool_byte (eqb kind 1)) ≡ is_coated kind
unfolding is_coated
asked kind = coat-of (eqb kind 1)

refuses : (t ok : Bool) (r : Refusal) → number r ≡ unless (is_kind (bool_byte t)) 1 (unless ok 2 0) → ok ≡ false
unfolding is_kind
refuses true true r e = absurd (number-some r e)
refuses false true r e = absurd (number-some r e)
refuses true false r e = refl
refuses false false r e = refl

-- of the panes
coated : (c : In-Ok) → is_coated (kind_of c.in-Ok.panes) ≡ is_coated c.args.kind
coated c = ap is_coated c.in-Ok.ensures.panes.0 ∙ asked c.args.kind

counted : (c : In-Ok) → is_pane_count c.args.kind c.args.n ≡ true
counted c =
    let a = c.args in
    let p = c.in-Ok.panes in
    sym (panes-as (kind_of p) a.kind a.n (coated c)) ∙ ap (is_pane_count (kind_of p)) (sym c.in-Ok.ensures.panes.1) ∙ p.in_range

count : (c : In-Ok) → stack_count (kind_of c.in-Ok.panes) c.in-Ok.panes.n ≡ stack_count c.args.kind c.args.n
count c =
    let p = c.in-Ok.panes in
    ap (stack_count (kind_of p)) c.in-Ok.ensures.panes.1 ∙ count-as (kind_of p) c.args.kind c.args.n (coated c)

pub returns-in-Ok : goal.returns-in-Ok
returns-in-Ok c =
    let a = c.args in
    let g = (goal.at.returns-in-Ok c).In-Ok in
    let p = c.in-Ok.panes in (
      sym (reported-some a.kind a.n c.stack_count.result (counted g) (c.stack_count.ensures ∙ count g))
          ∙ le-leb c.stack_count.result stack_limit c.if-stack_count-le-STACK_LIMIT.true,
      count g,
      ap (all_groups (kind_of p)) c.in-Ok.ensures.panes.1 ∙ all-as (kind_of p) a.kind a.n (coated g),
    )

pub returns-in_default : goal.returns-in_default
returns-in_default c =
    let a = c.args in
    let g = (goal.at.returns-in_default c).In-Ok in
    sym (reported-some a.kind a.n c.stack_count.result (counted g) (c.stack_count.ensures ∙ count g))
    ∙ lt-leb c.stack_count.result stack_limit c.if-stack_count-le-STACK_LIMIT.false

pub returns-in_default-2 : goal.returns-in_default-2
unfolding kind_refusal
returns-in_default-2 c =
    let a = c.args in
    let none = refuses (eqb a.kind 1) _ _ c.in_default.ensures.refusal in
    sym (reported-none a.kind a.n (sym (panes-as (bool_byte (eqb a.kind 1)) a.kind a.n (asked a.kind)) ∙ none))

-- Which line an answer is.
use mathlib.Core.Path.{◌≡◌, ap, subst, ◌∙◌}
use mathlib.Core.Bool.{cond}
use mathlib.Core.List.{List}
use Prim.Native.Nat.{ℕ}
use lib.Dec.{eqb}
use lib.IntN.{ℤ}
use lib.ListN.{take, replicate}
use borrow.Author.Tests.{eq-eqb, ne_eqb}
use Rattle.stacks.specs.Answers.{Stacked}
use Rattle.search.specs.Plan.{plan_of, plan_limit}
use Rattle.search.specs.Answers.{Planned}
use Rattle.text.specs.Frame.{later_of}
use Rattle.text.specs.Output.{plan_line, refusal_line}
use Rattle.text.specs.Written.{Wrote}
use Rattle.text.specs.Report.{report_groups, plan_text, later_text}

-- what was written is the text under another name
pub wrote-same : (text other before after : List ℕ) (r : ℕ) → text ≡ other → Wrote text before after r → Wrote other before after r
wrote-same text other before after r e w = subst (λ t. Wrote t before after r) e w

refused-line : (r : ℕ) (accepted : List ℕ) → (r ≡ 0 → ⊥) → refusal_line r ≡ cond (eqb r 0) accepted (refusal_line r)
refused-line r accepted h = rw (ne_eqb r 0 h)

accepted-line : (r : ℕ) (accepted : List ℕ) → r ≡ 0 → accepted ≡ cond (eqb r 0) accepted (refusal_line r)
accepted-line r accepted e = rw (eq-eqb r 0 e)

-- what Plan's answer is printed as
abbrev plan_said : List ℕ × Planned → List ℕ
plan_said out = cond (eqb out.1.refusal 0) (plan_line (take out.1.turns out.0)) (refusal_line out.1.refusal)

module _ (kind n : ℕ) (wanted : List ℤ) (table : List ℕ) where
  module _ (given : List ℤ) (list : List ℕ) (planned : Planned) (e : ◌≡◌ {A = List ℕ × Planned} (list, planned) (plan_of kind n wanted given (report_groups kind n) table (replicate plan_limit 0))) where
    pub plan-refused : (planned.refusal ≡ 0 → ⊥) → refusal_line planned.refusal ≡ plan_text kind n wanted table given
    unfolding plan_text
    plan-refused h = refused-line planned.refusal (plan_line (take planned.turns list)) h ∙ ap plan_said e

    pub plan-accepted : planned.refusal ≡ 0 → plan_line (take planned.turns list) ≡ plan_text kind n wanted table given
    unfolding plan_text
    plan-accepted h = accepted-line planned.refusal (plan_line (take planned.turns list)) h ∙ ap plan_said e

  -- what a later frame is answered
  abbrev pub frame_said : Stacked → List ℕ
  frame_said frame = cond (eqb frame.refusal 0) (plan_text kind n wanted table frame.stack) (refusal_line frame.refusal)

  module _ (cs : List ℕ) (frame : Stacked) (e : frame ≡ later_of kind n cs) where
    pub later-refused : (frame.refusal ≡ 0 → ⊥) → refusal_line frame.refusal ≡ later_text kind n wanted table cs
    unfolding later_text
    later-refused h = refused-line frame.refusal (plan_text kind n wanted table frame.stack) h ∙ ap frame_said e

    pub later-accepted : frame.refusal ≡ 0 → plan_text kind n wanted table frame.stack ≡ later_text kind n wanted table cs
    unfolding later_text
    later-accepted h = accepted-line frame.refusal (plan_text kind n wanted table frame.stack) h ∙ ap frame_said e

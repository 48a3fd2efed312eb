-- `calls::settle::mark_all` meets its contract: what is left to mark from an offset on, over the marks so far, says it for all.
use mathlib.Core.Path.{◌≡◌, refl, sym, ap, ◌∙◌, subst}
use Prim.Native.Nat.{ℕ, ◌+◌, ◌*◌, ◌%◌}
use native.Mathlib.Omega.{arith}
use borrow.Author.Rules.{rules}
use lib.Arith.{digits_mod}
use lib.ListN.{get_or, drop}
use Rattle.search.specs.JobState.{count_limit}
use Rattle.search.specs.Logs.{indexes_of}
use Rattle.search.specs.Marks.{Marks, mark_one, mark_all}
use Rattle.search.specs.declared.Terms.{Terms}
use Rattle.twobit.specs.Mark.{marks_of, AtMost}
use Rattle.twobit.proofs.LeafMarks.{at_most, mark-at-most}
use Rattle.calls.proofs.Settling.{marks-on, marks-end}
use Rattle.calls.proofs.settle.mark_all.Goals as goal

pub loop-offset-init : goal.loop-offset-init
loop-offset-init c =
    record { long = refl; few = at_most c.requires.few (omega arith); marked = λ terms e own. refl }

pub mark_stack-found-requires : goal.mark_stack-found-requires
unfolding count_limit
mark_stack-found-requires c =
    let kept = c.loop-offset.invariant in
    record {
      below = c.requires.below;
      inside = rw kept.long (c.requires.inside c.loop-offset.offset-index (omega arith));
      few = at_most kept.few (omega (arith, c.requires.short));
    }

pub loop-offset-preserved : goal.loop-offset-preserved
loop-offset-preserved c =
    let a = c.args in
    let i = c.loop-offset.offset-index in
    let o = get_or a.offsets.now i 0 in
    let marks = marks_of c.loop-offset.segment c.loop-offset.found in
    let own = c.requires.own in
    let marked : (terms : Terms) → (a.j * a.terms.size + o) % terms.size ≡ o
    → marks_of c.mark_stack-found.new.segment c.mark_stack-found.result ≡ mark_one terms a.label (a.j * a.terms.size + o) marks =
    c.mark_stack-found.ensures in
    let here = marked a.terms (digits_mod a.j (own i (omega arith))) in
    record {
      long = search rules;
      few = at_most (subst (λ (x : Marks). AtMost x.found (count_limit + i + 1)) (sym here)
          (mark-at-most a.terms a.label (a.j * a.terms.size + o) marks c.loop-offset.invariant.few)) (omega arith);
      marked = λ terms e fits. c.loop-offset.invariant.marked terms e fits
          ∙ marks-on terms a.j a.label a.offsets.now i marks (omega arith)
          ∙ ap (mark_all terms a.label (indexes_of terms.size a.j (drop (i + 1) a.offsets.now)))
          (sym (marked terms (ap (λ (b : ℕ). (b + o) % terms.size) e ∙ digits_mod a.j (fits i (omega arith)))
          ∙ ap (λ (b : ℕ). mark_one terms a.label (b + o) marks) e));
    }

pub returns : goal.returns
returns c =
    let a = c.args in
    sym (c.loop-offset.invariant.marked a.terms refl c.requires.own
    ∙ marks-end a.terms a.j a.label a.offsets.now c.loop-offset.offset-index (marks_of c.loop-offset.segment c.loop-offset.found) (omega arith))

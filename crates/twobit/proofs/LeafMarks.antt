-- A mark that was made or not, and what it is to the marks of a segment.
use mathlib.Core.Path.{◌≡◌, refl, sym, ap, ◌∙◌}
use mathlib.Core.Bool.{Bool, true, false, cond}
use mathlib.Core.List.{List, [], ◌∷◌}
use Prim.Native.Nat.{ℕ, ◌+◌, ◌%◌, ◌<◌, ◌≤◌}
use native.Mathlib.Nat.{mod-eq_of_lt, mod-mod}
use native.Mathlib.Omega.{arith}
use lib.Dec.{eqb}
use borrow.Author.Tests.{eq-eqb, ne_eqb}
use Rattle.search.specs.Entries.{entry_at, set_entry, unseen}
use Rattle.search.specs.Marks.{every_stack, found_one, Marks, mark_one, mark_all}
use Rattle.search.specs.declared.Found.{Found}
use Rattle.search.specs.declared.Terms.{Terms}
use Rattle.search.proofs.MarkLaws.{counted-le}
use Rattle.twobit.specs.Mark.{Marked, marks_of, AtMost}

-- the leaf says whether the entry v that it read was unseen
module _ (before : List ℕ) (i label v : ℕ) (e : v ≡ entry_at before i) where
  pub marked-not : (v ≡ 3 → ⊥) → Marked before i label before (eqb v 3)
  unfolding unseen
  marked-not h =
      let t : eqb (entry_at before i) 3 ≡ false = ne_eqb (entry_at before i) 3 (λ q. h (e ∙ q)) in
      record { bytes = rw t refl; new = ap (λ (x : ℕ). eqb x 3) e }

  pub marked-new : (after : List ℕ) → v ≡ 3 → after ≡ set_entry before i label → Marked before i label after (eqb v 3)
  unfolding unseen
  marked-new after h s =
      let t : eqb (entry_at before i) 3 ≡ true = eq-eqb (entry_at before i) 3 (sym e ∙ h) in
      record { bytes = rw t s; new = ap (λ (x : ℕ). eqb x 3) e }

-- the stack is found where the leaf says that the entry was unseen
pub marked-found : (terms : Terms) (label v i : ℕ) (before after : List ℕ) (found : Found) (fresh t : Bool) → v % terms.size ≡ i → label < 3
    → Marked before i label after fresh → fresh ≡ t
    → marks_of after (cond t (found_one terms v found) found) ≡ mark_one terms label v (marks_of before found)
unfolding mark_one
marked-found terms label v i before after found fresh t at h m e =
    rw (at, mod-eq_of_lt h) (go (eqb (entry_at before i) unseen) m.bytes (sym e ∙ m.new))
  where
    go : (b : Bool) → after ≡ cond b (set_entry before i label) before → t ≡ b
        → marks_of after (cond t (found_one terms v found) found)
        ≡ cond {A = Marks} b (record { segment = set_entry before i label; found = found_one terms v found }) (marks_of before found)
    go true a f = rw (a, f)
    go false a f = rw (a, f)

-- a bound holds with every greater one, and a mark adds at most one to each count
pub at_most : {found : Found} {most more : ℕ} → AtMost found most → most ≤ more → AtMost found more
at_most fits h = record { count = omega (arith, fits.count) }

pub mark-at-most : (terms : Terms) (d v : ℕ) (marks : Marks) {most : ℕ} → AtMost marks.found most → AtMost (mark_one terms d v marks).found (most + 1)
unfolding mark_one found_one
mark-at-most terms d v marks {most} fits = go (eqb (entry_at marks.segment (v % terms.size)) unseen)
  where
    go : (t : Bool)
        → AtMost (cond {A = Marks} t (record { segment = set_entry marks.segment (v % terms.size) (d % 3); found = found_one terms v marks.found }) marks).found (most + 1)
    go true = record { count = omega (arith, fits.count, counted-le (every_stack terms) v marks.found.count) }
    go false = at_most fits (omega arith)

-- a level marks by its remainder alone
pub mark-level : (terms : Terms) (d v : ℕ) (marks : Marks) → mark_one terms (d % 3) v marks ≡ mark_one terms d v marks
unfolding mark_one
mark-level terms d v marks =
    let i = v % terms.size in
    ap (λ (x : ℕ). cond (eqb (entry_at marks.segment i) unseen) (record { segment = set_entry marks.segment i x; found = found_one terms v marks.found }) marks) (mod-mod d 3)

pub marks-level : (terms : Terms) (d : ℕ) (stacks : List ℕ) (marks : Marks) → mark_all terms (d % 3) stacks marks ≡ mark_all terms d stacks marks
unfolding mark_all
marks-level terms d [] marks = refl
marks-level terms d (v ∷ stacks) marks =
    ap (mark_all terms (d % 3) stacks) (mark-level terms d v marks) ∙ marks-level terms d stacks (mark_one terms d v marks)

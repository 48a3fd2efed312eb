-- Marking stacks of a segment: what it does to the entries, the spare ones among them, and to what the level has found.
use mathlib.Core.Path.{◌≡◌, refl, sym, ap, ◌∙◌, subst}
use mathlib.Core.Logic.{◌⊎◌, inl, inr}
use mathlib.Core.Bool.{Bool, true, false, cond}
use mathlib.Core.List.{List, [], ◌∷◌, ◌++◌}
use Prim.Native.Nat.{ℕ, ◌+◌, ◌*◌, ◌/◌, ◌%◌, ◌<◌, ◌≤◌}
use native.Mathlib.Nat.{div-add-mod'}
use native.Mathlib.Omega.{arith}
use lib.Dec.{eqb}
use lib.ListN.{length, get_or, set}
use lib.Seq.{get_or-set_same, get_or-set_other, set-get_or}
use borrow.Author.Tests.{eq-eqb, ne_eqb}
use Rattle.base.specs.Words.{tally, from}
use Rattle.base.proofs.Tests.{eq-or-ne}
use Rattle.graph.proofs.Counts.{found, found-mark}
use Rattle.graph.proofs.Levels.{Level, Marked, marked-seen}
use Rattle.search.specs.Entries.{entry_at, set_entry, bytes_for, unseen}
use Rattle.search.specs.JobState.{count_of, recounted}
use Rattle.search.specs.Segments.{stack_count_in}
use Rattle.search.specs.Marks.{counted, found_one, Marks, mark_one, mark_all, found_at, with_found}
use Rattle.search.specs.Terms.{N, m}
use Rattle.search.specs.declared.Found.{Found}
use Rattle.search.specs.declared.Job.{Job}
use Rattle.search.specs.declared.Terms.{Terms}
use Rattle.search.proofs.EntryLaws.{set-length, set-bytes, get_set_same, get_set_other, byte_inside}
use Rattle.search.proofs.Invariant.{entry_in}
use Rattle.search.proofs.SegmentLaws.{segment-stack-div, segment-stack-mod, stack-offset}

module _ (terms : Terms) (d v : ℕ) (marks : Marks) where
  pub mark-seen : (entry_at marks.segment (v % terms.size) ≡ 3 → ⊥) → mark_one terms d v marks ≡ marks
  unfolding mark_one unseen
  mark-seen h = rw (ne_eqb (entry_at marks.segment (v % terms.size)) 3 h)

  pub mark-unseen : entry_at marks.segment (v % terms.size) ≡ 3
      → mark_one terms d v marks ≡ record { segment = set_entry marks.segment (v % terms.size) (d % 3); found = found_one terms v marks.found }
  unfolding mark_one unseen
  mark-unseen h = rw (eq-eqb (entry_at marks.segment (v % terms.size)) 3 h)

  pub mark-length : length (mark_one terms d v marks).segment ≡ length marks.segment
  mark-length = go (eq-or-ne (entry_at marks.segment (v % terms.size)) 3)
    where
      go : (entry_at marks.segment (v % terms.size) ≡ 3) ⊎ (entry_at marks.segment (v % terms.size) ≡ 3 → ⊥) → length (mark_one terms d v marks).segment ≡ length marks.segment
      go (inl h) = rw (mark-unseen h) (set-length marks.segment (v % terms.size) (d % 3))
      go (inr h) = rw (mark-seen h)

  pub mark-bytes : ((k : ℕ) → get_or marks.segment k 0 < 256) → (k : ℕ) → get_or (mark_one terms d v marks).segment k 0 < 256
  mark-bytes below k = go (eq-or-ne (entry_at marks.segment (v % terms.size)) 3)
    where
      go : (entry_at marks.segment (v % terms.size) ≡ 3) ⊎ (entry_at marks.segment (v % terms.size) ≡ 3 → ⊥) → get_or (mark_one terms d v marks).segment k 0 < 256
      go (inl h) = rw (mark-unseen h) (set-bytes marks.segment (v % terms.size) (d % 3) (omega arith) below k)
      go (inr h) = rw (mark-seen h) (below k)

  pub mark-other : (l : ℕ) → (l ≡ v % terms.size → ⊥) → entry_at (mark_one terms d v marks).segment l ≡ entry_at marks.segment l
  mark-other l ne = go (eq-or-ne (entry_at marks.segment (v % terms.size)) 3)
    where
      go : (entry_at marks.segment (v % terms.size) ≡ 3) ⊎ (entry_at marks.segment (v % terms.size) ≡ 3 → ⊥) → entry_at (mark_one terms d v marks).segment l ≡ entry_at marks.segment l
      go (inl h) = rw (mark-unseen h) (get_set_other marks.segment (v % terms.size) l (d % 3) (omega arith) ne)
      go (inr h) = rw (mark-seen h)

-- an unseen one of m stacks is marked
pub mark-new : (terms : Terms) (d v m : ℕ) (marks : Marks) → v % terms.size < m → length marks.segment ≡ bytes_for m → entry_at marks.segment (v % terms.size) ≡ 3
    → entry_at (mark_one terms d v marks).segment (v % terms.size) ≡ d % 3
mark-new terms d v m marks h long e =
    rw (mark-unseen terms d v marks e) (get_set_same marks.segment (v % terms.size) (d % 3) (omega arith) (rw long (byte_inside (v % terms.size) m h)))

-- what is unseen after a mark was so before it, and the marked one is seen
module _ {N d : ℕ} {e e' : ℕ → ℕ} {v : ℕ} (marked : Marked N d e e' v) where
  pub marked-before : (u : ℕ) → u < N → e' u ≡ 3 → e u ≡ 3
  marked-before u h i = go (eq-or-ne u v) (eq-or-ne (e v) 3)
    where
      go : (u ≡ v) ⊎ (u ≡ v → ⊥) → (e v ≡ 3) ⊎ (e v ≡ 3 → ⊥) → e u ≡ 3
      go (inl s) (inl t) = ap e s ∙ t
      go (inl s) (inr t) = sym (marked-seen marked t u h) ∙ i
      go (inr s) t = sym (marked.others u h s) ∙ i

  pub marked-after : e' v ≡ 3 → ⊥
  marked-after i = go (eq-or-ne (e v) 3)
    where
      go : (e v ≡ 3) ⊎ (e v ≡ 3 → ⊥) → ⊥
      go (inl t) = omega (arith, marked.unseen t)
      go (inr t) = t (sym (marked.seen t) ∙ i)

-- a segment replaced by another: its own entries are new, the others stay
module _ (S : ℕ) (segments : List (List ℕ)) (j : ℕ) (segment : List ℕ) where
  pub entry_here : j < length segments → (v : ℕ) → v / S ≡ j → entry_in S (set segments j segment) v ≡ entry_at segment (v % S)
  unfolding entry_in
  entry_here h v e =
      ap (λ (k : ℕ). entry_at (get_or (set segments j segment) k []) (v % S)) e
      ∙ ap (λ (bytes : List ℕ). entry_at bytes (v % S)) (get_or-set_same segments j segment [] h)

  pub entry-elsewhere : (v : ℕ) → (v / S ≡ j → ⊥) → entry_in S (set segments j segment) v ≡ entry_in S segments v
  unfolding entry_in
  entry-elsewhere v ne = ap (λ (bytes : List ℕ). entry_at bytes (v % S)) (get_or-set_other segments j (v / S) segment [] ne)

-- the entry of stack i of segment j
pub entry-own : (N S : ℕ) → 0 < S → (segments : List (List ℕ)) (j i : ℕ) → i < stack_count_in N S j
    → entry_in S segments (j * S + i) ≡ entry_at (get_or segments j []) i
unfolding entry_in
entry-own N S some segments j i h =
    ap (λ (x : ℕ). entry_at (get_or segments x []) ((j * S + i) % S)) (segment-stack-div N S some j i h)
    ∙ ap (entry_at (get_or segments j [])) (segment-stack-mod N S some j i h)

pub entry_place : (N S : ℕ) (some : 0 < S) (segments : List (List ℕ)) (j : ℕ) → j < length segments → (segment : List ℕ) (i : ℕ) → i < stack_count_in N S j
    → entry_in S (set segments j segment) (j * S + i) ≡ entry_at segment i
entry_place N S some segments j inside segment i h =
    entry-own N S some (set segments j segment) j i h ∙ ap (λ (bytes : List ℕ). entry_at bytes i) (get_or-set_same segments j segment [] inside)

-- at most one more is counted
pub counted-le : (test : ℕ → Bool) (v count : ℕ) → counted test v count ≤ count + 1
unfolding counted
counted-le test v count = go (test v)
  where
    go : (t : Bool) → cond t (count + 1) count ≤ count + 1
    go true = omega arith
    go false = omega arith

module _ (terms : Terms) (some : 0 < terms.size) (segments : List (List ℕ)) (j : ℕ) (inside : j < length segments) (d v : ℕ) (marks : Marks) (fits : v < N terms)
    (here : v / terms.size ≡ j) (bytes : length marks.segment ≡ bytes_for (m terms j)) where
  abbrev S : ℕ
  S = terms.size

  -- the entries of all stacks, with another segment j
  abbrev among : List ℕ → ℕ → ℕ
  among segment = entry_in S (set segments j segment)

  -- the entry of the stack, among all segments and in its own
  own-entry : (segment : List ℕ) → among segment v ≡ entry_at segment (v % S)
  own-entry segment = entry_here S segments j segment inside v here

  pub mark-marked : Marked (N terms) d (among marks.segment) (among (mark_one terms d v marks).segment) v
  mark-marked =
      record {
        others = λ u h ne. go u ne (eq-or-ne (u / S) j);
        unseen = λ e. own-entry (mark_one terms d v marks).segment
            ∙ mark-new terms d v (m terms j) marks (subst (λ (t : ℕ). v % S < m terms t) here (stack-offset (N terms) S some v fits)) bytes
            (sym (own-entry marks.segment) ∙ e);
        seen = λ ne. ap (λ (x : Marks). among x.segment v) (mark-seen terms d v marks (λ e. ne (own-entry marks.segment ∙ e)));
      }
    where
      go : (u : ℕ) → (u ≡ v → ⊥) → (u / S ≡ j) ⊎ (u / S ≡ j → ⊥) → among (mark_one terms d v marks).segment u ≡ among marks.segment u
      go u ne (inl e) =
          entry_here S segments j (mark_one terms d v marks).segment inside u e
          ∙ mark-other terms d v marks (u % S) (λ q. ne (sym (div-add-mod' u S) ∙ ap (λ (x : ℕ). x * S + u % S) (e ∙ sym here) ∙ ap (λ (x : ℕ). v / S * S + x) q ∙ div-add-mod' v S))
          ∙ sym (entry_here S segments j marks.segment inside u e)
      go u ne (inr e) =
          entry-elsewhere S segments j (mark_one terms d v marks).segment u e ∙ sym (entry-elsewhere S segments j marks.segment u e)

  -- each count of what a level has found stays that of its test
  pub mark-count : (test : ℕ → Bool) (get : Found → ℕ) → ((all : Found) → get (found_one terms v all) ≡ counted test v (get all))
      → {D : ℕ → ℕ} {H : ℕ → ℕ → Type 0} {L : ℕ → Type 0} → Level (N terms) D d (among marks.segment) H L → D v ≤ d
      → get marks.found ≡ tally (found test D d (among marks.segment)) (from 0 (N terms))
      → get (mark_one terms d v marks).found ≡ tally (found test D d (among (mark_one terms d v marks).segment)) (from 0 (N terms))
  unfolding counted
  mark-count test get adds {D} level near count = go (eq-or-ne (entry_at marks.segment (v % S)) 3)
    where
      before : ℕ
      before = tally (found test D d (among marks.segment)) (from 0 (N terms))

      more : (t : Bool) → cond t (get marks.found + 1) (get marks.found) ≡ cond t 1 0 + before
      more true = omega (arith, count)
      more false = omega (arith, count)

      go : (entry_at marks.segment (v % S) ≡ 3) ⊎ (entry_at marks.segment (v % S) ≡ 3 → ⊥)
          → get (mark_one terms d v marks).found ≡ tally (found test D d (among (mark_one terms d v marks).segment)) (from 0 (N terms))
      go (inl e) =
          ap (λ (x : Marks). get x.found) (mark-unseen terms d v marks e)
          ∙ adds marks.found
          ∙ more (test v)
          ∙ sym (found-mark test level fits near (own-entry marks.segment ∙ e) mark-marked)
      go (inr ne) = rw (mark-seen terms d v marks ne) count

-- the stacks of two lists are marked one list after the other
pub marks-append : (terms : Terms) (d : ℕ) (xs ys : List ℕ) (marks : Marks) → mark_all terms d (xs ++ ys) marks ≡ mark_all terms d ys (mark_all terms d xs marks)
unfolding mark_all
marks-append terms d [] ys marks = refl
marks-append terms d (x ∷ xs) ys marks = marks-append terms d xs ys (mark_one terms d x marks)

-- a level that has found no more leaves the job as it is
pub found-same : (job : Job) (d : ℕ) → with_found job d (found_at job d) ≡ job
unfolding recounted count_of
found-same job d = ap (recounted job) (set-get_or job.counts d 0)

-- marking looks at the kind, n and S alone
pub marks-alike : (one other : Terms) → one.kind ≡ other.kind → one.n ≡ other.n → one.size ≡ other.size
    → (d : ℕ) (stacks : List ℕ) (marks : Marks) → mark_all one d stacks marks ≡ mark_all other d stacks marks
unfolding mark_all mark_one found_one
marks-alike one other k n s d [] marks = refl
marks-alike one other k n s d (v ∷ stacks) marks =
    ap (λ (S : ℕ). mark_all one d stacks
    (cond (eqb (entry_at marks.segment (v % S)) unseen) (record { segment = set_entry marks.segment (v % S) (d % 3); found = found_one other v marks.found }) marks)) s
    ∙ marks-alike one other k n s d stacks (mark_one other d v marks)

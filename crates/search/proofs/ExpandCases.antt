-- The steps of Expand, case by case: the first number that passes a test, room in the logs, a child placed, and the next stack.
use mathlib.Core.Path.{◌≡◌, refl, sym, ap, ◌∙◌}
use mathlib.Core.Logic.{◌⊎◌, inl, inr}
use mathlib.Core.Bool.{Bool, true, false, not, ◌&&◌, cond}
use mathlib.Core.List.{List, [], ◌∷◌}
use Prim.Native.Nat.{ℕ, zero, suc, ◌+◌, ◌-◌, ◌*◌, ◌/◌, ◌%◌, ◌<◌, ◌≤◌}
use native.Mathlib.Omega.{arith}
use lib.Dec.{ltb, eqb}
use lib.ListN.{length, get_or}
use borrow.Author.Tests.{ltb-true, ltb-false, lt-ltb, le-ltb, eqb-false, eq-eqb, ne_eqb, not-true}
use Rattle.base.proofs.Counting.{tally-le, tally-true, tally-false}
use Rattle.base.proofs.Tests.{and_left, and_right, test-cases, lt-or-ge, eq-or-ne}
use Rattle.base.specs.Words.{first_from}
use Rattle.search.specs.Entries.{entry_at}
use Rattle.search.specs.Expand.{Expansion, is_parent, children_of, place_child, place_all, pass_one, wait_for, expand_stack, expand_next}
use Rattle.search.specs.JobState.{level_of, segment_count_of, moves_of}
use Rattle.search.specs.Marks.{mark_one}
use Rattle.search.specs.Logs.{log_one, falling_in, lacks_room}
use Rattle.search.specs.declared.Job.{Job}

module _ (p : ℕ → Bool) where
  -- no number before the first passes
  pub first-before : (a n t : ℕ) → a ≤ t → t < first_from p a n → p t ≡ false
  unfolding first_from
  first-before a zero t l h = absurd (omega arith)
  first-before a (suc n) t l h = go (λ k g. first-before (suc a) n t k g) (p a) refl h (eq-or-ne t a)
    where
      go : (suc a ≤ t → t < first_from p (suc a) n → p t ≡ false) → (b : Bool) → p a ≡ b → t < cond b a (first_from p (suc a) n)
          → (t ≡ a) ⊎ (t ≡ a → ⊥) → p t ≡ false
      go rest true e h i = absurd (omega arith)
      go rest false e h (inl i) = ap p i ∙ e
      go rest false e h (inr i) = rest (omega arith) h

  -- the first is among them, and then it passes
  pub first_passes : (a n : ℕ) → first_from p a n < a + n → p (first_from p a n) ≡ true
  unfolding first_from
  first_passes a zero h = absurd (omega arith)
  first_passes a (suc n) h = go (λ k. first_passes (suc a) n k) (p a) refl h
    where
      go : (first_from p (suc a) n < suc a + n → p (first_from p (suc a) n) ≡ true) → (b : Bool) → p a ≡ b
          → cond b a (first_from p (suc a) n) < a + suc n → p (cond b a (first_from p (suc a) n)) ≡ true
      go rest true e h = e
      go rest false e h = rest (omega arith)

module _ (S C j : ℕ) (waiting children : List ℕ) (t : ℕ) where
  pub room-lacks : lacks_room S C j waiting children t ≡ true → (t ≡ j → ⊥) × (C - get_or waiting t 0 < falling_in S t children)
  unfolding lacks_room
  room-lacks h =
      let other : Bool = not (eqb t j) in
      let full : Bool = ltb (C - get_or waiting t 0) (falling_in S t children) in (
        eqb-false t j (not-true (eqb t j) (and_left other full h)),
        ltb-true (C - get_or waiting t 0) (falling_in S t children) (and_right other full h),
      )

  pub room-enough : lacks_room S C j waiting children t ≡ false → (t ≡ j → ⊥) → falling_in S t children ≤ C - get_or waiting t 0
  unfolding lacks_room
  room-enough h ne =
      ltb-false (C - get_or waiting t 0) (falling_in S t children)
      (sym (ap (λ (b : Bool). not b && ltb (C - get_or waiting t 0) (falling_in S t children)) (ne_eqb t j ne)) ∙ h)

module _ (S t : ℕ) where
  pub falling-here : (c : ℕ) (children : List ℕ) → c / S ≡ t → falling_in S t (c ∷ children) ≡ suc (falling_in S t children)
  unfolding falling_in
  falling-here c children e = tally-true (λ c. eqb (c / S) t) c children (eq-eqb (c / S) t e)

  pub falling-elsewhere : (c : ℕ) (children : List ℕ) → (c / S ≡ t → ⊥) → falling_in S t (c ∷ children) ≡ falling_in S t children
  unfolding falling_in
  falling-elsewhere c children ne = tally-false (λ c. eqb (c / S) t) c children (ne_eqb (c / S) t ne)

  pub falling-le : (children : List ℕ) → falling_in S t children ≤ length children
  unfolding falling_in
  falling-le children = tally-le (λ c. eqb (c / S) t) children

module _ (job : Job) (j : ℕ) where
  pub place_here : (c : ℕ) (e : Expansion) → c / job.terms.size ≡ j
      → place_child job j c e ≡ record { at = e.at; waits = e.waits; on = e.on; marks = mark_one job.terms (level_of job.phase) c e.marks; logs = e.logs }
  unfolding place_child
  place_here c e h = rw (eq-eqb (c / job.terms.size) j h)

  pub place-elsewhere : (c : ℕ) (e : Expansion) → (c / job.terms.size ≡ j → ⊥)
      → place_child job j c e ≡ record { at = e.at; waits = e.waits; on = e.on; marks = e.marks; logs = log_one job.terms.room (c / job.terms.size) (c % job.terms.size) e.logs }
  unfolding place_child
  place-elsewhere c e h = rw (ne_eqb (c / job.terms.size) j h)

  -- children move no stack past, and let no call wait
  pub place_at : (children : List ℕ) (e : Expansion) → (place_all job j children e).at ≡ e.at
  unfolding place_all place_child
  place_at [] e = refl
  place_at (c ∷ children) e = place_at children (place_child job j c e)

  pub place-waits : (children : List ℕ) (e : Expansion) → (place_all job j children e).waits ≡ e.waits
  unfolding place_all place_child
  place-waits [] e = refl
  place-waits (c ∷ children) e = place-waits children (place_child job j c e)

  module _ (e : Expansion) where
    -- the children of the next stack, and the segment that they wait for: the lowest other one that lacks room, or G
    abbrev pub next_children : List ℕ
    next_children = children_of job.terms.kind job.terms.n (moves_of job) (j * job.terms.size + e.at)

    abbrev pub next_wait : ℕ
    next_wait = first_from (lacks_room job.terms.size job.terms.room j e.logs.waiting next_children) 0 (segment_count_of job)

    -- the next stack is taken for one of the level before
    abbrev pub is_due : Bool
    is_due = is_parent (level_of job.phase) (entry_at e.marks.segment e.at)

    pub data NextCase : Type 0 where
      stopped : e.waits ≡ true → expand_next job j e ≡ e → NextCase
      skipped : e.waits ≡ false → is_due ≡ false → expand_next job j e ≡ pass_one job j e → NextCase
      blocked : e.waits ≡ false → is_due ≡ true → next_wait < segment_count_of job → expand_next job j e ≡ wait_for job j next_wait e → NextCase
      expanded : e.waits ≡ false → is_due ≡ true → segment_count_of job ≤ next_wait → expand_next job j e ≡ pass_one job j (place_all job j next_children e) → NextCase

    pub next-case : NextCase
    unfolding expand_next expand_stack
    next-case = go (test-cases e.waits) (test-cases is_due) (lt-or-ge next_wait (segment_count_of job))
      where
        go : (e.waits ≡ true) ⊎ (e.waits ≡ false) → (is_due ≡ true) ⊎ (is_due ≡ false) → (next_wait < segment_count_of job) ⊎ (segment_count_of job ≤ next_wait) → NextCase
        go (inl s) i l = stopped s (rw s)
        go (inr s) (inr i) l = skipped s i (rw (s, i))
        go (inr s) (inl i) (inl l) = blocked s i l (rw (s, i, lt-ltb next_wait (segment_count_of job) l))
        go (inr s) (inl i) (inr l) = expanded s i l (rw (s, i, le-ltb next_wait (segment_count_of job) l))

    -- a step passes one stack or none
    pub next-at : ((expand_next job j e).at ≡ e.at) ⊎ ((expand_next job j e).at ≡ suc e.at)
    unfolding pass_one wait_for
    next-at = go next-case
      where
        go : NextCase → ((expand_next job j e).at ≡ e.at) ⊎ ((expand_next job j e).at ≡ suc e.at)
        go (stopped s i) = inl (rw i)
        go (skipped s due i) = inr (rw i)
        go (blocked s due l i) = inl (rw i)
        go (expanded s due l i) = inr (rw i (ap suc (place_at next_children e)))

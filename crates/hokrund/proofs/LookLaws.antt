-- Where Look's part stands: start and length give the part itself.
use mathlib.Core.Path.{◌≡◌, refl, sym, ap, ◌∙◌}
use mathlib.Core.Bool.{cond}
use mathlib.Core.List.{List, [], ◌∷◌}
use Prim.Native.Nat.{ℕ, zero, suc, ◌*◌}
use lib.Dec.{eqb}
use lib.ListN.{length, take, drop}
use borrow.Author.Tests.{ne_eqb}
use Rattle.search.specs.JobState.{waiting_of}
use Rattle.search.specs.Look.{look_of}
use Rattle.search.specs.Logs.{log_part, pending}
use Rattle.search.specs.declared.Job.{Job}
use Rattle.mirror.specs.Mirror.{looked_of, looked_at}
use Rattle.mirror.specs.declared.HokrundLook.{HokrundLook}

-- as many elements as the front has are the front
take_again : (w : ℕ) (xs : List ℕ) → take (length (take w xs)) xs ≡ take w xs
take_again zero xs = refl
take_again (suc w) [] = refl
take_again (suc w) (x ∷ xs) = ap (λ ys. x ∷ ys) (take_again w xs)

module _ (job : Job) (j : ℕ) (log part : List ℕ) (n : ℕ) (e : ◌≡◌ {A = List ℕ × ℕ} (part, n) (look_of job j log)) where
  part-is : part ≡ cond (eqb n 0) (take (waiting_of job j) (drop (j * job.terms.room) log)) []
  unfolding look_of pending log_part
  part-is = rw (ap (λ (p : List ℕ × ℕ). p.1) e) (ap (λ (p : List ℕ × ℕ). p.0) e)

  -- what start and length say, where it is the part
  same : (xs : List ℕ) (n' start : ℕ) → xs ≡ part → n' ≡ n → start ≡ cond (eqb n 0) (j * job.terms.room) 0
      → ◌≡◌ {A = List ℕ × HokrundLook} (xs, record { refusal = n'; start = start; length = length part })
      (looked_at (j * job.terms.room) (look_of job j log))
  unfolding looked_of
  same xs n' start a b c = rw a (rw b (rw c (ap (looked_at (j * job.terms.room)) e)))

  pub looked : n ≡ 0
      → ◌≡◌ {A = List ℕ × HokrundLook} (take (length part) (drop (j * job.terms.room) log), record { refusal = 0; start = j * job.terms.room; length = length part })
      (looked_at (j * job.terms.room) (look_of job j log))
  looked h =
      let whole : part ≡ take (waiting_of job j) (drop (j * job.terms.room) log) = part-is ∙ rw h refl in
      same _ 0 _ (rw whole (take_again (waiting_of job j) (drop (j * job.terms.room) log))) (sym h) (rw h refl)

  pub not-looked : (n ≡ 0 → ⊥)
      → ◌≡◌ {A = List ℕ × HokrundLook} (take (length part) log, record { refusal = n; start = 0; length = length part })
      (looked_at (j * job.terms.room) (look_of job j log))
  not-looked h =
      let none : part ≡ [] = part-is ∙ rw (ne_eqb n 0 h) refl in
      same _ n 0 (rw none refl) refl (rw (ne_eqb n 0 h) refl)

-- an empty part at 0, as stands beside a refusal
pub no_part : (log : List ℕ) {n : ℕ} {r : HokrundLook} → r.refusal ≡ n → r.start ≡ 0 → r.length ≡ 0
    → ◌≡◌ {A = List ℕ × HokrundLook} (take r.length (drop r.start log), r) ([], record { refusal = n; start = 0; length = 0 })
no_part log e s l = λ i. (take (l i) (drop (s i) log), record { refusal = e i; start = s i; length = l i })

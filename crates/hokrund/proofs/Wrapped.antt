-- A call that wraps an operation: the operation's answer is converted, and a mirror that is no job's is given back.
use mathlib.Core.Path.{◌≡◌, ap, ◌∙◌}
use mathlib.Core.Bool.{Bool, true, false, cond}
use Rattle.search.specs.declared.Job.{Job}
use Rattle.mirror.specs.Mirror.{is_job, cleared, job_of, one_lent, two_lent, three_lent}
use Rattle.mirror.specs.declared.HokrundAnswer.{HokrundAnswer}
use Rattle.mirror.specs.declared.HokrundJob.{HokrundJob}
use Rattle.hokrund.specs.Calls.{given_back}

-- what is lent comes back as the operation leaves it, and its answer b is converted to c
pub converted : {A B C : Type 0} (f : B → C) (s : A) (b : B) (c : C) (out : A × B) → ◌≡◌ {A = A × B} (s, b) out → c ≡ f b → ◌≡◌ {A = A × C} (s, c) (one_lent f out)
converted f s b c out e h = ap (λ z. (s, z)) h ∙ ap (one_lent f) e

-- the same of two and of three that are lent
pub converted-2 : {A B C D : Type 0} (f : C → D) (s : A) (l : B) (b : C) (c : D) (out : A × B × C)
    → ◌≡◌ {A = A × B × C} (s, l, b) out → c ≡ f b → ◌≡◌ {A = A × B × D} (s, l, c) (two_lent f out)
converted-2 f s l b c out e h = ap (λ z. (s, l, z)) h ∙ ap (two_lent f) e

pub converted-3 : {A B C D E : Type 0} (f : D → E) (s : A) (l : B) (k : C) (b : D) (c : E) (out : A × B × C × D)
    → ◌≡◌ {A = A × B × C × D} (s, l, k, b) out → c ≡ f b → ◌≡◌ {A = A × B × C × E} (s, l, k, c) (three_lent f out)
converted-3 f s l k b c out e h = ap (λ z. (s, l, k, z)) h ∙ ap (three_lent f) e

module _ (m : HokrundJob) where
  -- no job's: refused 7
  given : {r : HokrundAnswer} → r.refusal ≡ 7 → r.job ≡ cleared m → r ≡ given_back m 7
  given e k = λ i. record { refusal = e i; job = k i }

  no-job : {A : Type 0} (x y : A) {t : Bool} → false ≡ t → y ≡ cond t x y
  no-job x y e = ap (λ t. cond t x y) e

  pub refused : (x : HokrundAnswer) {r : HokrundAnswer} → false ≡ is_job m → r.refusal ≡ 7 → r.job ≡ cleared m
      → r ≡ cond (is_job m) x (given_back m 7)
  refused x e k j = given k j ∙ no-job x (given_back m 7) e

  pub refused-lent : {A : Type 0} (s : A) (x : A × HokrundAnswer) {r : HokrundAnswer} → false ≡ is_job m → r.refusal ≡ 7 → r.job ≡ cleared m
      → ◌≡◌ {A = A × HokrundAnswer} (s, r) (cond (is_job m) x (s, given_back m 7))
  refused-lent {A} s x e k j = ap (λ r. (s, r)) (given k j) ∙ no-job x (s, given_back m 7) e

  -- a job's: what the operation says of it
  pub on_job : {A B : Type 0} (op : Job → A) (f : A → B) (other : B) {job : Job} {out : A} {c : B} → true ≡ is_job m → job ≡ job_of m → out ≡ op job
      → c ≡ f out → c ≡ cond (is_job m) (f (op (job_of m))) other
  on_job op f other e k h l = l ∙ ap f (h ∙ ap op k) ∙ ap (λ t. cond t (f (op (job_of m))) other) e

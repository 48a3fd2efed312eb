-- Laws of swept pairs: what is noted is swept, and nothing else changes.
use mathlib.Core.Path.{◌≡◌, sym, ap, ◌∙◌}
use mathlib.Core.Logic.{◌⊎◌, inl, inr}
use mathlib.Core.Bool.{Bool, true, false, not, cond}
use mathlib.Core.List.{List}
use Prim.Native.Nat.{ℕ, ◌+◌, ◌/◌, ◌%◌, ◌^◌, ◌<◌, ◌≤◌}
use native.Mathlib.Omega.{arith}
use lib.Dec.{ltb, eqb}
use lib.ListN.{length, get_or}
use lib.Pow.{pow_pos}
use lib.Seq.{get_or-set_same, get_or-set_other, set_out}
use borrow.Author.Tests.{eq-eqb, eqb-false, lt-ltb, ltb-true, not-true}
use Rattle.base.specs.Words.{bit}
use Rattle.base.proofs.Bits.{bit_is, bit-le-one, put_same, put_other, put-lt}
use Rattle.base.proofs.Tests.{or_cases, never, lt-or-ge, eq-or-ne}
use Rattle.search.specs.JobState.{swept_of, is_swept, is_loaded, loaded_fits, segment_count_of}
use Rattle.search.specs.Sweep.{with_pair}
use Rattle.search.specs.declared.Job.{Job}

-- a pair that is not swept has its bit 0
pub unswept-bit : (job : Job) (b j : ℕ) → is_swept job b j ≡ false → bit (swept_of job b) j ≡ 0
unfolding is_swept
unswept-bit job b j h =
    let no : swept_of job b / 2 ^ j % 2 ≡ 1 → ⊥ = eqb-false (swept_of job b / 2 ^ j % 2) 1 h in
    omega (arith, bit_is (swept_of job b) j, bit-le-one (swept_of job b) j)

-- a job whose pairs are those of another with one more
module _ (job : Job) (j : ℕ) (listed : job.loaded < length job.swept) (left : is_swept job job.loaded j ≡ false) (job' : Job)
    (e : job'.swept ≡ with_pair job j) where
  number-here : swept_of job' job.loaded ≡ swept_of job job.loaded + 2 ^ j
  unfolding swept_of with_pair
  number-here =
      ap (λ (xs : List ℕ). get_or xs job.loaded 0) e ∙ get_or-set_same job.swept job.loaded (swept_of job job.loaded + 2 ^ j) 0 listed

  number-other : (b : ℕ) → (b ≡ job.loaded → ⊥) → swept_of job' b ≡ swept_of job b
  unfolding swept_of with_pair
  number-other b ne =
      ap (λ (xs : List ℕ). get_or xs b 0) e ∙ get_or-set_other job.swept job.loaded b (swept_of job job.loaded + 2 ^ j) 0 ne

  pub pair-new : is_swept job' job.loaded j ≡ true
  unfolding is_swept
  pair-new =
      eq-eqb (swept_of job' job.loaded / 2 ^ j % 2) 1
      (bit_is (swept_of job' job.loaded) j
      ∙ ap (λ (x : ℕ). bit x j) number-here
      ∙ put_same (swept_of job job.loaded) j (unswept-bit job job.loaded j left))

  pub pair-other : (b i : ℕ) → (b ≡ job.loaded → i ≡ j → ⊥) → is_swept job' b i ≡ is_swept job b i
  unfolding is_swept
  pair-other b i ne = go (eq-or-ne b job.loaded)
    where
      go : (b ≡ job.loaded) ⊎ (b ≡ job.loaded → ⊥) → eqb (swept_of job' b / 2 ^ i % 2) 1 ≡ eqb (swept_of job b / 2 ^ i % 2) 1
      go (inl q) =
          ap (λ (x : ℕ). eqb x 1)
          (bit_is (swept_of job' b) i
          ∙ ap (λ (x : ℕ). bit x i) (ap (swept_of job') q ∙ number-here)
          ∙ put_other (swept_of job job.loaded) j i (unswept-bit job job.loaded j left) (ne q)
          ∙ ap (λ (x : ℕ). bit (swept_of job x) i) (sym q)
          ∙ sym (bit_is (swept_of job b) i))
      go (inr q) = ap (λ (x : ℕ). eqb (x / 2 ^ i % 2) 1) (number-other b q)

  -- what was swept still is
  pub pair_keeps : (b i : ℕ) → is_swept job b i ≡ true → is_swept job' b i ≡ true
  pair_keeps b i h = go (eq-or-ne b job.loaded) (eq-or-ne i j)
    where
      go : (b ≡ job.loaded) ⊎ (b ≡ job.loaded → ⊥) → (i ≡ j) ⊎ (i ≡ j → ⊥) → is_swept job' b i ≡ true
      go (inl p) (inl q) = ap (λ (x : ℕ). is_swept job' x i) p ∙ ap (is_swept job' job.loaded) q ∙ pair-new
      go (inl p) (inr q) = pair-other b i (λ p q'. q q') ∙ h
      go (inr p) q = pair-other b i (λ q' r. p q') ∙ h

  -- the pair that is new, or one that was swept
  pub pair-cases : (b i : ℕ) → is_swept job' b i ≡ true → ((b ≡ job.loaded) × (i ≡ j)) ⊎ (is_swept job b i ≡ true)
  pair-cases b i h = go (eq-or-ne b job.loaded) (eq-or-ne i j)
    where
      go : (b ≡ job.loaded) ⊎ (b ≡ job.loaded → ⊥) → (i ≡ j) ⊎ (i ≡ j → ⊥) → ((b ≡ job.loaded) × (i ≡ j)) ⊎ (is_swept job b i ≡ true)
      go (inl p) (inl q) = inl (p, q)
      go (inl p) (inr q) = inr (sym (pair-other b i (λ p q'. q q')) ∙ h)
      go (inr p) q = inr (sym (pair-other b i (λ q' r. p q')) ∙ h)

-- ---- what is loaded and swept stays below G

pub loaded-below : (job : Job) → loaded_fits job ≡ true → is_loaded job ≡ true → job.loaded < segment_count_of job
unfolding loaded_fits
loaded-below job fits h = go (or_cases (not (is_loaded job)) (ltb job.loaded (segment_count_of job)) fits)
  where
    go : (not (is_loaded job) ≡ true) ⊎ (ltb job.loaded (segment_count_of job) ≡ true) → job.loaded < segment_count_of job
    go (inl e) = never h (not-true (is_loaded job) e)
    go (inr e) = ltb-true job.loaded (segment_count_of job) e

-- what a number of segment b stays below
abbrev pub swept_bound : ℕ → ℕ → ℕ
swept_bound g b = cond (ltb b g) (2 ^ g) 1

pub none-swept : (job : Job) (g : ℕ) → ((b : ℕ) → swept_of job b ≡ 0) → (b : ℕ) → swept_of job b < swept_bound g b
none-swept job g none b = rw (none b) (go (ltb b g))
  where
    go : (t : Bool) → 0 < cond t (2 ^ g) 1
    go true = pow_pos g
    go false = omega arith

module _ (job : Job) (j : ℕ) (left : is_swept job job.loaded j ≡ false) (job' : Job) (e : job'.swept ≡ with_pair job j) where
  pub pair_fits : (g : ℕ) → job.loaded < g → j < g → swept_of job job.loaded < swept_bound g job.loaded
      → (b : ℕ) → swept_of job b < swept_bound g b → swept_of job' b < swept_bound g b
  unfolding swept_of with_pair
  pair_fits g low l here b old = go (lt-or-ge job.loaded (length job.swept)) (eq-or-ne b job.loaded)
    where
      go : (job.loaded < length job.swept) ⊎ (length job.swept ≤ job.loaded) → (b ≡ job.loaded) ⊎ (b ≡ job.loaded → ⊥)
          → swept_of job' b < swept_bound g b
      go (inl listed) (inl q) =
          rw (q, number-here job j listed left job' e, lt-ltb job.loaded g low)
          (put-lt g (swept_of job job.loaded) j l
          (omega (arith, here, ap (λ (t : Bool). cond t (2 ^ g) 1) (lt-ltb job.loaded g low))) (unswept-bit job job.loaded j left))
      go (inl listed) (inr q) = rw (number-other job j listed left job' e b q) old
      go (inr out) q = rw (e, set_out job.swept job.loaded (swept_of job job.loaded + 2 ^ j) out) old

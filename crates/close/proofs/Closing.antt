-- A list's first numbers, each tested by a chain that ends in all(..); and the job after a Close, by the definition.
use mathlib.Core.Path.{◌≡◌, refl, ap}
use mathlib.Core.Bool.{Bool}
use mathlib.Core.List.{List, [], ◌∷◌}
use Prim.Native.Nat.{ℕ, zero, suc, ◌+◌, ◌≤◌}
use native.Mathlib.Omega.{arith}
use lib.ListN.{length, take, get_or, replicate}
use Rattle.std.specs.List.{list_all}
use Rattle.base.specs.Words.{all, from}
use Rattle.search.specs.Close.{next_phase, next_counts, closed}
use Rattle.search.specs.JobState.{no_segment, progressed, recounted, directed}
use Rattle.search.specs.Segments.{segment_limit}
use Rattle.search.specs.declared.Job.{Job}
use Rattle.search.specs.declared.Phase.{Phase}
use Rattle.search.specs.declared.Way.{Way}

-- xs is what stands in ys from place a on
taken-from : (t : ℕ → Bool) (ys : List ℕ) (a : ℕ) (xs : List ℕ) (n : ℕ) → n ≤ length xs → ((i j : ℕ) → j ≡ i + a → get_or ys j 0 ≡ get_or xs i 0)
    → list_all t (take n xs) ≡ all (λ b. t (get_or ys b 0)) (from a n)
unfolding all from
taken-from t ys a xs zero h at = refl
taken-from t ys a [] (suc n) h at = absurd (omega arith)
taken-from t ys a (x ∷ xs) (suc n) h at =
    let e : get_or ys a 0 ≡ x = at 0 a (omega arith) in
    let rest = taken-from t ys (suc a) xs n (omega arith) (λ i j k. at (suc i) j (omega arith)) in
    rw (e, rest) refl

pub all-taken : (t : ℕ → Bool) (xs : List ℕ) (n : ℕ) → n ≤ length xs → list_all t (take n xs) ≡ all (λ b. t (get_or xs b 0)) (from 0 n)
all-taken t xs n h = taken-from t xs 0 xs n h (λ i j k. ap (λ (p : ℕ). get_or xs p 0) (let e : j ≡ i = omega arith in e))

pub closed_is : (job : Job) (way : Way) (phase : Phase) (counts : List ℕ) → phase ≡ next_phase job.counts job.phase → counts ≡ next_counts job.counts job.phase
    → directed (progressed (recounted job counts) phase (replicate segment_limit 0) job.waiting) way no_segment (replicate segment_limit 0) ≡ closed job way
unfolding closed
closed_is job way phase counts e f = rw (e, f)

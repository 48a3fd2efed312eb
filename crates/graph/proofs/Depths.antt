-- The depth of a vertex: all that a search needs to know of distances to w, cut at b. Any such D will do, and `dist` is one.
use mathlib.Core.Path.{◌≡◌}
use mathlib.Core.Bool.{true}
use mathlib.Core.List.{List}
use Prim.Native.Nat.{ℕ, zero, suc, ◌+◌, ◌-◌, ◌%◌, ◌<◌, ◌≤◌}
use native.Mathlib.Omega.{arith}
use Rattle.graph.specs.Walks.{is_move, Graph, dist}
use Rattle.graph.proofs.Distance.{dist-le, dist-goal, dist-zero, dist-step, dist-grows, nearer}

pub record Depths (N : ℕ) (moves : List ℕ) (step : ℕ → ℕ → ℕ) (w b : ℕ) (D : ℕ → ℕ) : Type 0 where
  pub graph : Graph N moves step
  pub goal : D w ≡ 0
  pub only-goal : (v : ℕ) → D v ≡ 0 → v ≡ w
  pub cut : (v : ℕ) → D v ≤ b
  pub falls : (k v : ℕ) → is_move moves k ≡ true → D v ≤ suc (D (step k v))
  pub grows : (k v : ℕ) → is_move moves k ≡ true → v < N → D (step k v) ≤ suc (D v)
  pub closer : (v : ℕ) → 0 < D v → D v < b → (k : ℕ) × (is_move moves k ≡ true) × (suc (D (step k v)) ≡ D v)

pub dist-depths : {N : ℕ} {moves : List ℕ} {step : ℕ → ℕ → ℕ} → Graph N moves step → (w b : ℕ) → 0 < b
    → Depths N moves step w b (dist moves step w b)
dist-depths {N} {moves} {step} laws w b h =
    record {
      graph = laws;
      goal = dist-goal moves step w b;
      only-goal = λ v e. dist-zero moves step w b v h e;
      cut = dist-le moves step w b;
      falls = dist-step moves step w b;
      grows = dist-grows laws w b;
      closer = nearer moves step w b;
    }

module _ {N : ℕ} {moves : List ℕ} {step : ℕ → ℕ → ℕ} {w b : ℕ} {D : ℕ → ℕ} (depths : Depths N moves step w b D) where
  -- below a depth that has a vertex every depth has one
  pub between : (v d : ℕ) → v < N → d ≤ D v → D v < b → (u : ℕ) × (u < N) × (D u ≡ d)
  between v d h l c = go (D v - d) v h (omega arith) c
    where
      go : (n v : ℕ) → v < N → n + d ≡ D v → D v < b → (u : ℕ) × (u < N) × (D u ≡ d)
      go zero v h e c = (v, h, omega arith)
      go (suc n) v h e c =
          let m = depths.closer v (omega arith) c in
          go n (step m.0 v) (depths.graph.inside m.0 v m.1 h) (omega arith) (omega arith)

  -- depths modulo 3 tell a child that is one nearer from every other child
  pub nearer-label : (k v : ℕ) → is_move moves k ≡ true → v < N → D (step k v) % 3 ≡ (D v + 2) % 3 → suc (D (step k v)) ≡ D v
  nearer-label k v m h e = omega (arith, depths.falls k v m, depths.grows k v m h)

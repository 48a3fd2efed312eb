-- The invariant of a level of the search, and each step that keeps it.
-- It speaks of depths D, entries e, looked-at edges H and logged vertices L as functions and predicates; where they are stored is no part of it.
use mathlib.Core.Path.{◌≡◌, sym, ap, ◌∙◌, subst}
use mathlib.Core.Logic.{◌⊎◌, inl, inr}
use mathlib.Core.Bool.{true}
use mathlib.Core.List.{List}
use Prim.Native.Nat.{ℕ, suc, ◌+◌, ◌-◌, ◌%◌, ◌<◌, ◌≤◌}
use native.Mathlib.Omega.{arith}
use Rattle.base.proofs.Tests.{lt-or-ge, eq-or-ne}
use Rattle.graph.specs.Walks.{is_move}
use Rattle.graph.proofs.Depths.{Depths, between}

-- level d is being searched: below it every entry is the depth modulo 3, from it on an entry is 3 or marked as d
pub record Level (N : ℕ) (D : ℕ → ℕ) (d : ℕ) (e : ℕ → ℕ) (H : ℕ → ℕ → Type 0) (L : ℕ → Type 0) : Type 0 where
  pub positive : 0 < d
  pub below : (v : ℕ) → v < N → D v < d → e v ≡ D v % 3
  pub above : (v : ℕ) → v < N → d ≤ D v → (e v ≡ 3) ⊎ ((D v ≡ d) × (e v ≡ d % 3))
  -- what is logged is no deeper than d
  pub logged : (v : ℕ) → L v → (v < N) × (D v ≤ d)
  -- a looked-at edge from the level before ends at a seen or a logged vertex
  pub looked : (u v : ℕ) → u < N → v < N → suc (D u) ≡ d → H u v → e v ≡ 3 → L v

-- e' is e with v marked at level d, if v was unseen
pub record Marked (N d : ℕ) (e e' : ℕ → ℕ) (v : ℕ) : Type 0 where
  pub others : (u : ℕ) → u < N → (u ≡ v → ⊥) → e' u ≡ e u
  pub unseen : e v ≡ 3 → e' v ≡ d % 3
  pub seen : (e v ≡ 3 → ⊥) → e' v ≡ e v

pub marked-seen : {N d : ℕ} {e e' : ℕ → ℕ} {v : ℕ} → Marked N d e e' v → (e v ≡ 3 → ⊥) → (u : ℕ) → u < N → e' u ≡ e u
marked-seen {e} {e'} {v} m s u h = go (eq-or-ne u v)
  where
    go : (u ≡ v) ⊎ (u ≡ v → ⊥) → e' u ≡ e u
    go (inl i) = ap e' i ∙ m.seen s ∙ sym (ap e i)
    go (inr i) = m.others u h i

-- every vertex at depth d has a looked-at edge from the level before
pub record Reached (N : ℕ) (D : ℕ → ℕ) (d : ℕ) (H : ℕ → ℕ → Type 0) : Type 0 where
  pub edge : (v : ℕ) → v < N → D v ≡ d → (u : ℕ) × (u < N) × (suc (D u) ≡ d) × (H u v)

module _ {N d : ℕ} {D e : ℕ → ℕ} {H : ℕ → ℕ → Type 0} {L : ℕ → Type 0} (level : Level N D d e H L) where
  pub unseen-depth : (v : ℕ) → v < N → e v ≡ 3 → D v ≤ d → D v ≡ d
  unseen-depth v h i l = go (lt-or-ge (D v) d)
    where
      go : (D v < d) ⊎ (d ≤ D v) → D v ≡ d
      go (inl k) = absurd (omega (arith, level.below v h k))
      go (inr k) = omega arith

  -- a level expands all of the level before
  pub expanded-all : (u : ℕ) → u < N → suc (D u) ≡ d → e u ≡ (d - 1) % 3
  expanded-all u h s = omega (arith, level.below u h (omega arith))

  -- what a level expands lies below it
  pub expanded-below : (u : ℕ) → u < N → e u ≡ (d - 1) % 3 → (D u < d) × (D u % 3 ≡ (d - 1) % 3)
  expanded-below u h i = go (lt-or-ge (D u) d)
    where
      high : (e u ≡ 3) ⊎ ((D u ≡ d) × (e u ≡ d % 3)) → ⊥
      high (inl j) = omega arith
      high (inr j) = omega (arith, level.positive)

      go : (D u < d) ⊎ (d ≤ D u) → (D u < d) × (D u % 3 ≡ (d - 1) % 3)
      go (inl k) = (k, sym (level.below u h k) ∙ i)
      go (inr k) = absurd (high (level.above u h k))

  -- any number of unseen vertices no deeper than d may be marked at once
  pub level-marks : {e' : ℕ → ℕ} → ((u : ℕ) → u < N → (e' u ≡ e u) ⊎ ((e u ≡ 3) × (D u ≤ d) × (e' u ≡ d % 3))) → Level N D d e' H L
  level-marks {e'} marks =
      record {
        positive = level.positive;
        below = λ v h k. low v h k (marks v h);
        above = λ v h k. high v h k (marks v h) (level.above v h k);
        logged = level.logged;
        looked = λ u v g h s i j. level.looked u v g h s i (was v j (marks v h));
      }
    where
      low : (v : ℕ) → v < N → D v < d → (e' v ≡ e v) ⊎ ((e v ≡ 3) × (D v ≤ d) × (e' v ≡ d % 3)) → e' v ≡ D v % 3
      low v h k (inl s) = s ∙ level.below v h k
      low v h k (inr s) = absurd (omega (arith, level.below v h k))

      high : (v : ℕ) → v < N → d ≤ D v → (e' v ≡ e v) ⊎ ((e v ≡ 3) × (D v ≤ d) × (e' v ≡ d % 3)) → (e v ≡ 3) ⊎ ((D v ≡ d) × (e v ≡ d % 3))
          → (e' v ≡ 3) ⊎ ((D v ≡ d) × (e' v ≡ d % 3))
      high v h k (inl s) (inl t) = inl (s ∙ t)
      high v h k (inl s) (inr t) = inr (t.0, s ∙ t.1)
      high v h k (inr s) t = inr (omega arith, s.2)

      was : (v : ℕ) → e' v ≡ 3 → (e' v ≡ e v) ⊎ ((e v ≡ 3) × (D v ≤ d) × (e' v ≡ d % 3)) → e v ≡ 3
      was v j (inl s) = sym s ∙ j
      was v j (inr s) = s.0

  pub level-mark : {e' : ℕ → ℕ} {v : ℕ} → D v ≤ d → Marked N d e e' v → Level N D d e' H L
  level-mark {e'} {v} l m = level-marks (λ u h. go u h (eq-or-ne u v) (eq-or-ne (e v) 3))
    where
      go : (u : ℕ) → u < N → (u ≡ v) ⊎ (u ≡ v → ⊥) → (e v ≡ 3) ⊎ (e v ≡ 3 → ⊥) → (e' u ≡ e u) ⊎ ((e u ≡ 3) × (D u ≤ d) × (e' u ≡ d % 3))
      go u h (inl i) (inl j) = inr (ap e i ∙ j, omega (arith, ap D i), ap e' i ∙ m.unseen j)
      go u h (inl i) (inr j) = inl (marked-seen m j u h)
      go u h (inr i) j = inl (m.others u h i)

  -- the log may change, if it stays no deeper than d and keeps what is unseen
  pub level-relog : {L' : ℕ → Type 0} → ((v : ℕ) → L' v → (v < N) × (D v ≤ d)) → ((v : ℕ) → v < N → e v ≡ 3 → L v → L' v) → Level N D d e H L'
  level-relog near keeps =
      record {
        positive = level.positive;
        below = level.below;
        above = level.above;
        logged = near;
        looked = λ u v g h s i j. keeps v h j (level.looked u v g h s i j);
      }

  pub level-log : {L' : ℕ → Type 0} (v : ℕ) → v < N → D v ≤ d → ((u : ℕ) → L u → L' u) → ((u : ℕ) → L' u → (L u) ⊎ (u ≡ v)) → Level N D d e H L'
  level-log {L'} v h l more only = level-relog (λ u i. go u (only u i)) (λ u g j i. more u i)
    where
      go : (u : ℕ) → (L u) ⊎ (u ≡ v) → (u < N) × (D u ≤ d)
      go u (inl i) = level.logged u i
      go u (inr i) = (omega arith, omega (arith, ap D i))

  pub level-unlog : {L' : ℕ → Type 0} → ((v : ℕ) → L' v → L v) → ((v : ℕ) → v < N → e v ≡ 3 → L v → L' v) → Level N D d e H L'
  level-unlog less keeps = level-relog (λ v i. level.logged v (less v i)) keeps

  -- more edges may count as looked at, if they end at seen or logged vertices
  pub level-look : {H' : ℕ → ℕ → Type 0} → ((u v : ℕ) → u < N → v < N → suc (D u) ≡ d → H' u v → e v ≡ 3 → (H u v) ⊎ (L v)) → Level N D d e H' L
  level-look {H'} new =
      record {
        positive = level.positive;
        below = level.below;
        above = level.above;
        logged = level.logged;
        looked = λ u v g h s i j. go u v g h s j (new u v g h s i j);
      }
    where
      go : (u v : ℕ) → u < N → v < N → suc (D u) ≡ d → e v ≡ 3 → (H u v) ⊎ (L v) → L v
      go u v g h s j (inl i) = level.looked u v g h s i j
      go u v g h s j (inr i) = i

  -- with nothing logged and every vertex reached, the level is complete
  pub level-found : ((v : ℕ) → L v → ⊥) → Reached N D d H → (v : ℕ) → v < N → D v ≡ d → e v ≡ d % 3
  level-found none reached v h i = go (level.above v h (omega arith))
    where
      go : (e v ≡ 3) ⊎ ((D v ≡ d) × (e v ≡ d % 3)) → e v ≡ d % 3
      go (inl j) = let r = reached.edge v h i in absurd (none v (level.looked r.0 v r.1 h r.2 r.3 j))
      go (inr j) = j.1

  pub level-close : {H' : ℕ → ℕ → Type 0} {L' : ℕ → Type 0} → ((v : ℕ) → L v → ⊥) → Reached N D d H
      → ((u v : ℕ) → u < N → v < N → H' u v → ⊥) → ((v : ℕ) → L' v → ⊥) → Level N D (suc d) e H' L'
  level-close none reached no-look no-log =
      record {
        positive = omega arith;
        below = λ v h k. low v h (lt-or-ge (D v) d) k;
        above = λ v h k. inl (high v h k (level.above v h (omega arith)));
        logged = λ v i. absurd (no-log v i);
        looked = λ u v g h s i j. absurd (no-look u v g h i);
      }
    where
      low : (v : ℕ) → v < N → (D v < d) ⊎ (d ≤ D v) → D v < suc d → e v ≡ D v % 3
      low v h (inl k) l = level.below v h k
      low v h (inr k) l = let s : D v ≡ d = omega arith in level-found none reached v h s ∙ sym (ap (λ (x : ℕ). x % 3) s)

      high : (v : ℕ) → v < N → suc d ≤ D v → (e v ≡ 3) ⊎ ((D v ≡ d) × (e v ≡ d % 3)) → e v ≡ 3
      high v h k (inl i) = i
      high v h k (inr i) = absurd (omega arith)

module _ {N : ℕ} {moves : List ℕ} {step : ℕ → ℕ → ℕ} {w b : ℕ} {D : ℕ → ℕ} (depths : Depths N moves step w b D) where
  pub level-start : {e : ℕ → ℕ} {H : ℕ → ℕ → Type 0} {L : ℕ → Type 0} → e w ≡ 0 → ((v : ℕ) → v < N → (v ≡ w → ⊥) → e v ≡ 3)
      → ((u v : ℕ) → u < N → v < N → H u v → ⊥) → ((v : ℕ) → L v → ⊥) → Level N D 1 e H L
  level-start {e} start blank no-look no-log =
      record {
        positive = omega arith;
        below = λ v h k. omega (arith, ap e (depths.only-goal v (omega arith)));
        above = λ v h k. inl (blank v h (λ i. omega (arith, ap D i, depths.goal)));
        logged = λ v i. absurd (no-log v i);
        looked = λ u v g h s i j. absurd (no-look u v g h i);
      }

  -- a level searched forward looks at every move of every vertex of the level before
  pub reached-forward : {d : ℕ} {H : ℕ → ℕ → Type 0} → 0 < d → d < b
      → ((u k : ℕ) → u < N → suc (D u) ≡ d → is_move moves k ≡ true → H u (step k u)) → Reached N D d H
  reached-forward {d} {H} g l all = record { edge = find }
    where
      find : (v : ℕ) → v < N → D v ≡ d → (u : ℕ) × (u < N) × (suc (D u) ≡ d) × (H u v)
      find v h i =
          let c = depths.closer v (omega arith) (omega arith) in
          let u = step c.0 v in
          let low : u < N = depths.graph.inside c.0 v c.1 h in
          let back = depths.graph.undone c.0 v c.1 h in
          let s : suc (D u) ≡ d = c.2 ∙ i in
          (u, low, s, subst (λ (x : ℕ). H u x) back.2 (all u back.0 low s back.1))

  module _ {d : ℕ} {e : ℕ → ℕ} {H : ℕ → ℕ → Type 0} {L : ℕ → Type 0} (level : Level N D d e H L) where
    -- a child of an expanded vertex is no deeper than d
    pub child-near : (u k : ℕ) → u < N → e u ≡ (d - 1) % 3 → is_move moves k ≡ true → D (step k u) ≤ d
    child-near u k h i m = omega (arith, depths.grows k u m h, expanded-below level u h i)

    -- a vertex expanded again, three or more levels later, brings only seen children
    pub expanded-again : (u k : ℕ) → u < N → D u + 2 ≤ d → is_move moves k ≡ true → e (step k u) ≡ 3 → ⊥
    expanded-again u k h l m i =
        let g = depths.grows k u m h in
        omega (arith, level.below (step k u) (depths.graph.inside k u m h) (omega arith))

    -- where a level is empty the search is over: what lies deeper has no walk to w within the bound
    pub level-end : ((v : ℕ) → v < N → D v ≡ d → ⊥) → (v : ℕ) → v < N
        → ((D v < d) × (e v ≡ D v % 3)) ⊎ ((D v ≡ b) × (e v ≡ 3))
    level-end empty v h = go (lt-or-ge (D v) d)
      where
        deep : d ≤ D v → (D v < b) ⊎ (b ≤ D v) → D v ≡ b
        deep k (inl c) = let u = between depths v d h k c in absurd (empty u.0 u.1 u.2)
        deep k (inr c) = omega (arith, depths.cut v)

        blank : (e v ≡ 3) ⊎ ((D v ≡ d) × (e v ≡ d % 3)) → e v ≡ 3
        blank (inl i) = i
        blank (inr i) = absurd (empty v h i.0)

        go : (D v < d) ⊎ (d ≤ D v) → ((D v < d) × (e v ≡ D v % 3)) ⊎ ((D v ≡ b) × (e v ≡ 3))
        go (inl k) = inl (k, level.below v h k)
        go (inr k) = inr (deep k (lt-or-ge (D v) b), blank (level.above v h k))

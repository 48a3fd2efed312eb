-- Laws of `dist`: it is the length of a shortest walk, cut at the bound, it changes by at most one along a move, it is the same there and
-- back, and by a third vertex never less.
use mathlib.Core.Path.{◌≡◌, refl, ap, subst}
use mathlib.Core.Logic.{◌⊎◌, inl, inr}
use mathlib.Core.Bool.{Bool, true, cond, false≢true}
use mathlib.Core.List.{List, [], ◌∷◌}
use Prim.Native.Nat.{ℕ, zero, suc, ◌+◌, ◌<◌, ◌≤◌, min}
use native.Mathlib.Omega.{arith}
use lib.ListN.{length}
use borrow.Author.Tests.{eq-eqb, ne_eqb}
use Rattle.base.specs.Words.{all}
use Rattle.base.proofs.Tests.{and_left, and_right, and_both, lt-or-ge, eq-or-ne}
use Rattle.graph.specs.Walks.{walk, is_move, Walk, Graph, least, dist}
use Rattle.graph.proofs.Moves.{is_move-cases, is_move-first, is_move-rest}

least-le : (f : ℕ → ℕ) (c : ℕ) (ks : List ℕ) → least f c ks ≤ c
unfolding least
least-le f c [] = omega arith
least-le f c (k ∷ ks) = omega (arith, least-le f c ks)

least-move : (f : ℕ → ℕ) (c : ℕ) (ks : List ℕ) (k : ℕ) → is_move ks k ≡ true → least f c ks ≤ f k
unfolding least is_move
least-move f c [] k h = absurd (false≢true h)
least-move f c (m ∷ ms) k h = go (λ i. least-move f c ms k i) (is_move-cases m ms k h)
  where
    go : (is_move ms k ≡ true → least f c ms ≤ f k) → (k ≡ m) ⊎ (is_move ms k ≡ true) → min (f m) (least f c ms) ≤ f k
    go rest (inl e) = omega (arith, ap f e)
    go rest (inr i) = omega (arith, rest i)

least-cut : (f g : ℕ → ℕ) (a c : ℕ) (ks : List ℕ) → a ≤ c → ((k : ℕ) → f k ≡ min a (g k)) → least f a ks ≡ min a (least g c ks)
unfolding least
least-cut f g a c [] h e = omega arith
least-cut f g a c (k ∷ ks) h e = omega (arith, e k, least-cut f g a c ks h e)

least_at : (f : ℕ → ℕ) (c : ℕ) (ks : List ℕ) → least f c ks < c → (k : ℕ) × (is_move ks k ≡ true) × (f k ≡ least f c ks)
unfolding least
least_at f c [] h = absurd (omega arith)
least_at f c (m ∷ ms) h = go (λ i. least_at f c ms i) (lt-or-ge (least f c ms) (f m))
  where
    go : (least f c ms < c → (k : ℕ) × (is_move ms k ≡ true) × (f k ≡ least f c ms)) → (least f c ms < f m) ⊎ (f m ≤ least f c ms)
        → (k : ℕ) × (is_move (m ∷ ms) k ≡ true) × (f k ≡ min (f m) (least f c ms))
    go rest (inl i) = let r = rest (omega arith) in (r.0, is_move-rest m ms r.0 r.1, omega arith)
    go rest (inr i) = (m, is_move-first m ms, omega arith)

module _ (moves : List ℕ) (step : ℕ → ℕ → ℕ) where
  pub walk_first : (k : ℕ) (ks : List ℕ) (v w : ℕ) → Walk moves step (k ∷ ks) v w → is_move moves k ≡ true
  unfolding all
  walk_first k ks v w r = and_left (is_move moves k) (all (is_move moves) ks) r.each

  pub walk-rest : (k : ℕ) (ks : List ℕ) (v w : ℕ) → Walk moves step (k ∷ ks) v w → Walk moves step ks (step k v) w
  unfolding all walk
  walk-rest k ks v w r = record { each = and_right (is_move moves k) (all (is_move moves) ks) r.each; arrives = r.arrives }

  pub walk_none : (v : ℕ) → Walk moves step [] v v
  unfolding all walk
  walk_none v = record { each = refl; arrives = refl }

  pub walk-none-end : (v w : ℕ) → Walk moves step [] v w → v ≡ w
  unfolding walk
  walk-none-end v w r = r.arrives

  pub walk_more : (k : ℕ) (ks : List ℕ) (v w : ℕ) → is_move moves k ≡ true → Walk moves step ks (step k v) w → Walk moves step (k ∷ ks) v w
  unfolding all walk
  walk_more k ks v w m r = record { each = and_both (is_move moves k) (all (is_move moves) ks) m r.each; arrives = r.arrives }

  module _ (w : ℕ) where
    -- the two cases of the definition
    dist-here : (b v : ℕ) → v ≡ w → dist moves step w (suc b) v ≡ 0
    unfolding dist
    dist-here b v h = ap (λ (t : Bool). cond t 0 (suc (least (λ k. dist moves step w b (step k v)) b moves))) (eq-eqb v w h)

    dist-away : (b v : ℕ) → (v ≡ w → ⊥) → dist moves step w (suc b) v ≡ suc (least (λ k. dist moves step w b (step k v)) b moves)
    unfolding dist
    dist-away b v h = ap (λ (t : Bool). cond t 0 (suc (least (λ k. dist moves step w b (step k v)) b moves))) (ne_eqb v w h)

    pub dist-le : (b v : ℕ) → dist moves step w b v ≤ b
    unfolding dist
    dist-le zero v = omega arith
    dist-le (suc b) v = go (eq-or-ne v w)
      where
        go : (v ≡ w) ⊎ (v ≡ w → ⊥) → dist moves step w (suc b) v ≤ suc b
        go (inl e) = omega (arith, dist-here b v e)
        go (inr e) = omega (arith, dist-away b v e, least-le (λ k. dist moves step w b (step k v)) b moves)

    pub dist-goal : (b : ℕ) → dist moves step w b w ≡ 0
    unfolding dist
    dist-goal zero = refl
    dist-goal (suc b) = dist-here b w refl

    pub dist-zero : (b v : ℕ) → 0 < b → dist moves step w b v ≡ 0 → v ≡ w
    dist-zero zero v h e = absurd (omega arith)
    dist-zero (suc b) v h e = go (eq-or-ne v w)
      where
        go : (v ≡ w) ⊎ (v ≡ w → ⊥) → v ≡ w
        go (inl i) = i
        go (inr i) = absurd (omega (arith, dist-away b v i))

    -- a lower bound only cuts lower
    pub dist-cut : (a b v : ℕ) → a ≤ b → dist moves step w a v ≡ min a (dist moves step w b v)
    unfolding dist
    dist-cut zero b v h = omega arith
    dist-cut (suc a) zero v h = absurd (omega arith)
    dist-cut (suc a) (suc b) v h = go (λ x. dist-cut a b x (omega arith)) (eq-or-ne v w)
      where
        go : ((x : ℕ) → dist moves step w a x ≡ min a (dist moves step w b x)) → (v ≡ w) ⊎ (v ≡ w → ⊥)
            → dist moves step w (suc a) v ≡ min (suc a) (dist moves step w (suc b) v)
        go rest (inl e) = omega (arith, dist-here a v e, dist-here b v e)
        go rest (inr e) =
            omega (
              arith,
              dist-away a v e,
              dist-away b v e,
              least-cut (λ k. dist moves step w a (step k v)) (λ k. dist moves step w b (step k v)) a b moves (omega arith) (λ k. rest (step k v)),
            )

    -- along a move the distance falls by at most one
    pub dist-step : (b k v : ℕ) → is_move moves k ≡ true → dist moves step w b v ≤ suc (dist moves step w b (step k v))
    dist-step b k v m = go (eq-or-ne v w)
      where
        go : (v ≡ w) ⊎ (v ≡ w → ⊥) → dist moves step w b v ≤ suc (dist moves step w b (step k v))
        go (inl e) = omega (arith, dist-here b v e, dist-cut b (suc b) v (omega arith))
        go (inr e) =
            omega (
              arith,
              dist-cut b (suc b) v (omega arith),
              dist-away b v e,
              least-move (λ j. dist moves step w b (step j v)) b moves k m,
            )

    -- a vertex with a walk within the bound, and not w itself, has a move that leads one nearer
    pub nearer : (b v : ℕ) → 0 < dist moves step w b v → dist moves step w b v < b
        → (k : ℕ) × (is_move moves k ≡ true) × (suc (dist moves step w b (step k v)) ≡ dist moves step w b v)
    nearer zero v h l = absurd (omega arith)
    nearer (suc b) v h l = go (eq-or-ne v w)
      where
        go : (v ≡ w) ⊎ (v ≡ w → ⊥)
            → (k : ℕ) × (is_move moves k ≡ true) × (suc (dist moves step w (suc b) (step k v)) ≡ dist moves step w (suc b) v)
        go (inl e) = absurd (omega (arith, dist-here b v e))
        go (inr e) =
            let a = dist-away b v e in
            let r = least_at (λ k. dist moves step w b (step k v)) b moves (omega arith) in
            (r.0, r.1, omega (arith, dist-cut b (suc b) (step r.0 v) (omega arith)))

    -- along a walk it falls by at most as many moves, so that no walk is shorter than the distance
    walk-falls : (b : ℕ) (ks : List ℕ) (v u : ℕ) → Walk moves step ks v u → dist moves step w b v ≤ length ks + dist moves step w b u
    walk-falls b [] v u r = omega (arith, ap (dist moves step w b) (walk-none-end v u r))
    walk-falls b (k ∷ ks) v u r =
        omega (arith, dist-step b k v (walk_first k ks v u r), walk-falls b ks (step k v) u (walk-rest k ks v u r))

    pub walk-dist : (b : ℕ) (ks : List ℕ) (v : ℕ) → Walk moves step ks v w → dist moves step w b v ≤ length ks
    walk-dist b ks v r = omega (arith, walk-falls b ks v w r, dist-goal b)

    -- below the bound some walk is as short
    pub dist-walk : (b v : ℕ) → dist moves step w b v < b
        → (ks : List ℕ) × (Walk moves step ks v w) × (length ks ≡ dist moves step w b v)
    dist-walk b v h = go (dist moves step w b v) v refl h
      where
        go : (d v : ℕ) → dist moves step w b v ≡ d → d < b → (ks : List ℕ) × (Walk moves step ks v w) × (length ks ≡ dist moves step w b v)
        go zero v e l =
            ([], subst (λ (x : ℕ). Walk moves step [] v x) (dist-zero b v (omega arith) e) (walk_none v), omega arith)
        go (suc d) v e l =
            let n = nearer b v (omega arith) (omega arith) in
            let r = go d (step n.0 v) (omega arith) (omega arith) in
            (n.0 ∷ r.0, walk_more n.0 r.0 v w n.1 r.1, omega arith)

module _ {N : ℕ} {moves : List ℕ} {step : ℕ → ℕ → ℕ} (laws : Graph N moves step) where
  -- along a move the distance grows by at most one
  pub dist-grows : (w b k v : ℕ) → is_move moves k ≡ true → v < N → dist moves step w b (step k v) ≤ suc (dist moves step w b v)
  dist-grows w b k v m h =
      let u = laws.undone k v m h in
      omega (arith, dist-step moves step w b u.0 (step k v) u.1, ap (dist moves step w b) u.2)

  walk-grows : (w b : ℕ) (ks : List ℕ) (v u : ℕ) → v < N → Walk moves step ks v u → dist moves step w b u ≤ length ks + dist moves step w b v
  walk-grows w b [] v u h r = omega (arith, ap (dist moves step w b) (walk-none-end moves step v u r))
  walk-grows w b (k ∷ ks) v u h r =
      let m = walk_first moves step k ks v u r in
      omega (
        arith,
        dist-grows w b k v m h,
        walk-grows w b ks (step k v) u (laws.inside k v m h) (walk-rest moves step k ks v u r),
      )

  -- there and back it is the same: the shortest walk there bounds the distance back
  back-le : (v w b : ℕ) → w < N → dist moves step w b v ≤ dist moves step v b w
  back-le v w b h = go (lt-or-ge (dist moves step v b w) b)
    where
      go : (dist moves step v b w < b) ⊎ (b ≤ dist moves step v b w) → dist moves step w b v ≤ dist moves step v b w
      go (inl l) =
          let r = dist-walk moves step v b w l in
          omega (arith, walk-grows w b r.0 w v h r.1, r.2, dist-goal moves step w b)
      go (inr l) = omega (arith, dist-le moves step w b v)

  pub dist-back : (v w b : ℕ) → v < N → w < N → dist moves step w b v ≡ dist moves step v b w
  dist-back v w b hv hw = omega (arith, back-le v w b hw, back-le w v b hv)

-- by a third vertex it is never less
pub dist-third : (moves : List ℕ) (step : ℕ → ℕ → ℕ) (u v w b : ℕ) → dist moves step w b v ≤ dist moves step u b v + dist moves step w b u
dist-third moves step u v w b = go (lt-or-ge (dist moves step u b v) b)
  where
    go : (dist moves step u b v < b) ⊎ (b ≤ dist moves step u b v) → dist moves step w b v ≤ dist moves step u b v + dist moves step w b u
    go (inl l) = let r = dist-walk moves step u b v l in omega (arith, walk-falls moves step w b r.0 v u r.1, r.2)
    go (inr l) = omega (arith, dist-le moves step w b v)

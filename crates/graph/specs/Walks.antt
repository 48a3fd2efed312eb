-- Walks over a graph: its vertices are the numbers below N, its moves are a list of numbers, and `step k v` is where move k takes v.
--   walk step ks v             where the moves ks, made in order, take v
--   is_move moves k             k is in the list of moves
--   Walk moves step ks v w     ks are moves, and they take v to w
--   Graph N moves step         moves stay below N, and each is undone by some move, not always by itself
--   least f c ks               the least of c and of f at each of ks
--   dist moves step w b v      the fewest moves from v to w, cut at b: a vertex with no walk to w has b
use Rattle.std.specs.Prelude.{◌≡◌, Bool, true, false, ◌||◌, cond, List, [], ◌∷◌, ℕ, zero, suc, ◌<◌, min, eqb}
use Rattle.base.specs.Words.{all}

unfoldable pub walk : (ℕ → ℕ → ℕ) → List ℕ → ℕ → ℕ
walk step [] v = v
walk step (k ∷ ks) v = walk step ks (step k v)

unfoldable pub is_move : List ℕ → ℕ → Bool
is_move [] k = false
is_move (m ∷ ms) k = eqb k m || is_move ms k

pub record Walk (moves : List ℕ) (step : ℕ → ℕ → ℕ) (ks : List ℕ) (v w : ℕ) : Type 0 where
  pub each : all (is_move moves) ks ≡ true
  pub arrives : walk step ks v ≡ w

pub record Graph (N : ℕ) (moves : List ℕ) (step : ℕ → ℕ → ℕ) : Type 0 where
  pub inside : (k v : ℕ) → is_move moves k ≡ true → v < N → step k v < N
  pub undone : (k v : ℕ) → is_move moves k ≡ true → v < N → (k' : ℕ) × (is_move moves k' ≡ true) × (step k' (step k v) ≡ v)

unfoldable pub least : (ℕ → ℕ) → ℕ → List ℕ → ℕ
least f c [] = c
least f c (k ∷ ks) = min (f k) (least f c ks)

unfoldable pub dist : List ℕ → (ℕ → ℕ → ℕ) → ℕ → ℕ → ℕ → ℕ
dist moves step w zero v = 0
dist moves step w (suc b) v = cond (eqb v w) 0 (suc (least (λ k. dist moves step w b (step k v)) b moves))

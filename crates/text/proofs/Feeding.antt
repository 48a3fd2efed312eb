-- An input that is gone through character by character, with a line in the making and a state that each whole line changes, hands over
-- exactly its lines.
--   fed, ended     the state and the line in the making after some characters, and the state after the last
--   handled        the state after whole lines
use mathlib.Core.Path.{◌≡◌, refl, sym, ap, ◌∙◌}
use mathlib.Core.Bool.{Bool, true, false, cond}
use mathlib.Core.List.{List, [], ◌∷◌, ◌++◌, map, append-nil}
use Prim.Native.Nat.{ℕ}
use native.Mathlib.Omega.{arith}
use lib.Dec.{eqb}
use lib.Seq.{append_snoc}
use borrow.Author.Tests.{ne_eqb}
use Rattle.text.specs.Kept.{new_line, pushed}
use Rattle.text.specs.Lines.{in_first, lines_of}
use Rattle.text.specs.declared.Line.{Line}
use Rattle.text.proofs.LineLaws.{pushed_all, kept_of, kept_more, kept}

-- a state and the line in the making
pub record Reading (A : Type 0) : Type 0 where
  pub state : A
  pub line : Line

abbrev pub reading : {A : Type 0} → A → Line → Reading A
reading a l = record { state = a; line = l }

module _ {A : Type 0} (handle : A → Line → A) where
  unfoldable pub stepped : Reading A → ℕ → Reading A
  stepped r c =
      cond (eqb c 10) (reading (handle r.state r.line) new_line) (reading r.state (pushed r.line c))

  unfoldable pub fed : Reading A → List ℕ → Reading A
  fed r [] = r
  fed r (c ∷ cs) = fed (stepped r c) cs

  -- at the end of the input a line in the making that has a character is a line too
  unfoldable pub ended : Reading A → A
  ended r = cond (eqb r.line.length 0) r.state (handle r.state r.line)

  -- each line of a list in turn
  unfoldable pub handled : A → List Line → A
  handled a [] = a
  handled a (l ∷ ls) = handled (handle a l) ls

-- the lines of what is left, with what was read of the first one before them
with_front : List ℕ → List (List ℕ) → List (List ℕ)
with_front [] ls = ls
with_front (d ∷ ds) [] = (d ∷ ds) ∷ []
with_front (d ∷ ds) (l ∷ ls) = (d ∷ ds ++ l) ∷ ls

front-end : (ds : List ℕ) (ls : List (List ℕ)) → with_front ds ([] ∷ ls) ≡ ds ∷ ls
unfolding with_front
front-end [] ls = refl
front-end (d ∷ ds) ls = ap (λ (l : List ℕ). (d ∷ l) ∷ ls) (append-nil ds)

front-more : (ds : List ℕ) (c : ℕ) (ls : List (List ℕ)) → with_front (ds ++ (c ∷ [])) ls ≡ with_front ds (in_first c ls)
unfolding in_first with_front
front-more [] c [] = refl
front-more [] c (l ∷ ls) = refl
front-more (d ∷ ds) c [] = refl
front-more (d ∷ ds) c (l ∷ ls) = ap (λ (k : List ℕ). (d ∷ k) ∷ ls) (append_snoc ds c l)

module _ {A : Type 0} (handle : A → Line → A) where
  -- the end of the input, with ds read of a line
  read-end : (a : A) (ds : List ℕ) → ended handle (reading a (kept_of ds)) ≡ handled handle a (map kept_of (with_front ds []))
  unfolding ended handled with_front
  read-end a [] = rw (kept []).counted
  read-end a (d ∷ ds) = rw (ne_eqb (kept_of (d ∷ ds)).length 0 (omega (arith, (kept (d ∷ ds)).counted)))

  read-from : (a : A) (ds cs : List ℕ)
      → ended handle (fed handle (reading a (kept_of ds)) cs) ≡ handled handle a (map kept_of (with_front ds (lines_of cs)))
  unfolding fed stepped handled lines_of with_front kept_of pushed_all
  read-from a ds [] = read-end a ds
  read-from a ds (c ∷ cs) = go (read-from (handle a (kept_of ds)) [] cs) (read-from a (ds ++ (c ∷ [])) cs) (eqb c 10)
    where
      go : ended handle (fed handle (reading (handle a (kept_of ds)) new_line) cs) ≡ handled handle (handle a (kept_of ds)) (map kept_of (lines_of cs))
          → ended handle (fed handle (reading a (kept_of (ds ++ (c ∷ [])))) cs) ≡ handled handle a (map kept_of (with_front (ds ++ (c ∷ [])) (lines_of cs)))
          → (t : Bool)
          → ended handle (fed handle (cond t (reading (handle a (kept_of ds)) new_line) (reading a (pushed (kept_of ds) c))) cs)
          ≡ handled handle a (map kept_of (with_front ds (cond t ([] ∷ lines_of cs) (in_first c (lines_of cs)))))
      go cut on true = cut ∙ ap (λ (ls : List (List ℕ)). handled handle a (map kept_of ls)) (sym (front-end ds (lines_of cs)))
      go cut on false =
          ap (λ (l : Line). ended handle (fed handle (reading a l) cs)) (kept_more ds c)
          ∙ on
          ∙ ap (λ (ls : List (List ℕ)). handled handle a (map kept_of ls)) (front-more ds c (lines_of cs))

  -- pushing character by character and cutting at 10 hands over exactly the input's lines, each as it is kept
  pub read-lines : (a : A) (cs : List ℕ)
      → ended handle (fed handle (reading a new_line) cs) ≡ handled handle a (map kept_of (lines_of cs))
  unfolding kept_of pushed_all with_front
  read-lines a cs = read-from a [] cs

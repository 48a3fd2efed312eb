-- Laws of turns: which there are; a turn undoes itself, keeps the panes and what stands below it, and acts on places only.
use mathlib.Core.Path.{◌≡◌, refl, sym, ap, ◌∙◌}
use mathlib.Core.Logic.{◌⊎◌, inl, inr}
use mathlib.Core.Bool.{Bool, true, false, ◌&&◌, ◌||◌, cond}
use mathlib.Core.List.{List, [], ◌∷◌, ◌++◌, map, reverse, append-nil, append_assoc, reverse-reverse}
use Prim.Native.Nat.{ℕ, zero, suc, ◌+◌, ◌-◌, ◌<◌, ◌≤◌}
use native.Mathlib.Nat.{le_refl, le_trans}
use native.Mathlib.Omega.{arith}
use borrow.Author.Tests.{leb-true, le-leb}
use lib.Dec.{leb}
use lib.IntN.{ℤ, pos, negsuc, neg_ℤ, nat_abs, neg_ℤ-neg_ℤ}
use lib.ListN.{length, take, drop, length-append, length-map, length-reverse, length-take, length-drop, take-append-drop, drop_of_length-le}
use lib.Seq.{length-take-le, take_all, take_at, drop_at, take-append-le, drop-append-le}
use lib.Signed.{non_neg}
use Rattle.base.proofs.Tests.{and_left, and_right, and_both, lt-or-ge}
use Rattle.base.proofs.Lists.{map-append, map-reverse, map-take, map-drop, map-map, map-id, from-length}
use Rattle.base.proofs.Counting.{tally-append, tally-reverse, tally-map, all_split, all-reverse, all_map}
use Rattle.base.specs.Words.{all, tally, from}
use Rattle.stacks.specs.Stack.{stack_places, is_coated, is_pane_count, is_stack, is_unused, order_of}
use Rattle.stacks.specs.Index.{smaller}
use Rattle.stacks.specs.Turn.{first_turn, last_turn, is_turn, turns_of, UndoesItself, flip, turn_of}
use Rattle.stacks.proofs.KindLaws.{panes-least, panes-twelve}
use Rattle.stacks.proofs.Panes.{StackFacts, stack-facts, facts-stack, smaller-append, smaller-reverse, smaller-once}
use Rattle.stacks.proofs.Numbering.{stack-panes}

-- a turn's number lies between the first and the last
module _ (kind n k : ℕ) where
  pub turn-first : is_turn kind n k ≡ true → first_turn kind ≤ k
  unfolding is_turn
  turn-first h = leb-true (first_turn kind) k (and_left (leb (first_turn kind) k) (leb k (last_turn kind n)) h)

  pub turn_last : is_turn kind n k ≡ true → k ≤ last_turn kind n
  unfolding is_turn
  turn_last h = leb-true k (last_turn kind n) (and_right (leb (first_turn kind) k) (leb k (last_turn kind n)) h)

  pub turn-between : first_turn kind ≤ k → k ≤ last_turn kind n → is_turn kind n k ≡ true
  unfolding is_turn
  turn-between h l =
      and_both (leb (first_turn kind) k) (leb k (last_turn kind n)) (le-leb (first_turn kind) k h) (le-leb k (last_turn kind n) l)

-- the first turn, which is opened here alone
module _ (kind : ℕ) where
  pub first-cases : (first_turn kind ≡ 1) ⊎ (first_turn kind ≡ 2)
  unfolding first_turn
  first-cases = go (is_coated kind)
    where
      go : (t : Bool) → (cond {A = ℕ} t 1 2 ≡ 1) ⊎ (cond {A = ℕ} t 1 2 ≡ 2)
      go true = inl refl
      go false = inr refl

  pub first-coated : is_coated kind ≡ true → first_turn kind ≡ 1
  unfolding first_turn
  first-coated e = ap (λ (t : Bool). cond t 1 2) e

  pub first_plain : UndoesItself kind → is_coated kind ≡ false → first_turn kind ≡ 2
  unfolding first_turn
  first_plain itself e = ap (λ (t : Bool). cond t 1 2) e

  pub first_pos : 1 ≤ first_turn kind
  first_pos = go first-cases
    where
      go : (first_turn kind ≡ 1) ⊎ (first_turn kind ≡ 2) → 1 ≤ first_turn kind
      go (inl e) = omega arith
      go (inr e) = omega arith

  first_two : first_turn kind ≤ 2
  first_two = go first-cases
    where
      go : (first_turn kind ≡ 1) ⊎ (first_turn kind ≡ 2) → first_turn kind ≤ 2
      go (inl e) = omega arith
      go (inr e) = omega arith

-- the last turn, which is opened here alone: where each turn undoes itself it is that of the whole stack. A stack of one plain pane has no turn,
-- and its first would be one past it
module _ (kind n : ℕ) where
  pub last-whole : UndoesItself kind → last_turn kind n ≡ n
  unfolding last_turn
  last-whole itself = refl

  module _ (in-range : is_pane_count kind n ≡ true) where
    pub last-panes : last_turn kind n ≤ n
    unfolding last_turn
    last-panes = le_refl n

    pub first-last : first_turn kind ≤ last_turn kind n + 1
    unfolding last_turn
    first-last = omega (arith, first_two kind, panes-least kind n in-range)

    pub last-places : last_turn kind n ≤ stack_places
    last-places = le_trans last-panes (panes-twelve kind n in-range)

    pub turn-panes : (k : ℕ) → is_turn kind n k ≡ true → k ≤ n
    turn-panes k t = le_trans (turn_last kind n k t) last-panes

-- how many turns there are
pub turns-count : (kind n : ℕ) → length (turns_of kind n) ≤ last_turn kind n
unfolding turns_of
turns-count kind n = omega (arith, from-length (first_turn kind) (suc (last_turn kind n) - first_turn kind), first_pos kind)

-- what the kind says of a flip
module _ (kind : ℕ) where
  pub flip-coated : is_coated kind ≡ true → (x : ℤ) → flip kind x ≡ neg_ℤ x
  unfolding flip
  flip-coated e x = ap (λ (t : Bool). cond t (neg_ℤ x) x) e

  pub flip-plain : is_coated kind ≡ false → (x : ℤ) → flip kind x ≡ x
  unfolding flip
  flip-plain e x = ap (λ (t : Bool). cond t (neg_ℤ x) x) e

-- a coat that the kind has: any if coated, only up if plain
unfoldable pub coat_fits : ℕ → ℤ → Bool
coat_fits kind x = is_coated kind || non_neg x

pub coats-fit : (kind : ℕ) (s : List ℤ) → (is_coated kind || all non_neg s) ≡ all (coat_fits kind) s
unfolding coat_fits all
coats-fit kind s = go (is_coated kind) s
  where
    go : (t : Bool) (xs : List ℤ) → (t || all non_neg xs) ≡ all (λ x. t || non_neg x) xs
    go true [] = refl
    go true (x ∷ xs) = go true xs
    go false xs = refl

module _ (kind : ℕ) where
  pub flip-fits : (x : ℤ) → coat_fits kind (flip kind x) ≡ coat_fits kind x
  unfolding coat_fits flip
  flip-fits x = go (is_coated kind)
    where
      go : (t : Bool) → (t || non_neg (cond t (neg_ℤ x) x)) ≡ (t || non_neg x)
      go true = refl
      go false = refl

  pub flip-involutive : (x : ℤ) → flip kind (flip kind x) ≡ x
  unfolding flip
  flip-involutive x = go (is_coated kind)
    where
      go : (t : Bool) → cond t (neg_ℤ (cond t (neg_ℤ x) x)) (cond t (neg_ℤ x) x) ≡ x
      go true = neg_ℤ-neg_ℤ x
      go false = refl

  pub flip-magnitude : (x : ℤ) → nat_abs (flip kind x) ≡ nat_abs x
  unfolding flip
  flip-magnitude x = go (is_coated kind) x
    where
      go : (t : Bool) (y : ℤ) → nat_abs (cond t (neg_ℤ y) y) ≡ nat_abs y
      go true (pos zero) = refl
      go true (pos (suc y)) = refl
      go true (negsuc y) = refl
      go false y = refl

  pub turn-length : (k : ℕ) (s : List ℤ) → length (turn_of kind k s) ≡ length s
  unfolding turn_of
  turn-length k s = simp (length-append, length-map, length-reverse, length-take, length-drop) (omega arith)

  -- a turn of a list that is cut where the turn ends
  pub turn_at : (k : ℕ) (p r : List ℤ) → length p ≡ k → turn_of kind k (p ++ r) ≡ map (flip kind) (reverse p) ++ r
  unfolding turn_of
  turn_at k p r e = rw (take_at p r k e, drop_at p r k e)

  -- what stands below a turn is left
  pub turn-append : (k : ℕ) (a c : List ℤ) → k ≤ length a → turn_of kind k (a ++ c) ≡ turn_of kind k a ++ c
  unfolding turn_of
  turn-append k a c h = rw (take-append-le k a c h, drop-append-le k a c h, append_assoc)

  pub turn-whole : (k : ℕ) (s : List ℤ) → length s ≡ k → turn_of kind k s ≡ map (flip kind) (reverse s)
  turn-whole k s e =
      ap (turn_of kind k) (sym (append-nil s)) ∙ turn_at k s [] e ∙ append-nil (map (flip kind) (reverse s))

  pub turn-top : (x : ℤ) (s : List ℤ) → turn_of kind 1 (x ∷ s) ≡ flip kind x ∷ s
  unfolding turn_of
  turn-top x s = refl

  group-involutive : (p : List ℤ) → map (flip kind) (reverse (map (flip kind) (reverse p))) ≡ p
  group-involutive p = rw (map-reverse (flip kind) p, reverse-reverse, map-map) (map-id (λ x. flip kind (flip kind x)) p flip-involutive)

  pub turn-involutive : (k : ℕ) (s : List ℤ) → k ≤ length s → turn_of kind k (turn_of kind k s) ≡ s
  unfolding turn_of
  turn-involutive k s h =
      turn_at k (map (flip kind) (reverse (take k s))) (drop k s) (simp (length-map, length-reverse) (length-take-le k s h))
      ∙ ap (λ (l : List ℤ). l ++ drop k s) (group-involutive (take k s))
      ∙ take-append-drop k s

  -- a turn of the top n places
  turn-cut : (n k : ℕ) (s : List ℤ) → k ≤ n → n ≤ length s → turn_of kind k s ≡ turn_of kind k (take n s) ++ drop n s
  turn-cut n k s h l =
      ap (λ (t : List ℤ). turn_of kind k t) (sym (take-append-drop n s))
      ∙ turn-append k (take n s) (drop n s) (rw (length-take-le n s l) h)

  cut-length : (n k : ℕ) (s : List ℤ) → n ≤ length s → length (turn_of kind k (take n s)) ≡ n
  cut-length n k s l = turn-length k (take n s) ∙ length-take-le n s l

  pub turn-take : (n k : ℕ) (s : List ℤ) → k ≤ n → take n (turn_of kind k s) ≡ turn_of kind k (take n s)
  turn-take n k s h = go (lt-or-ge (length s) n)
    where
      go : (length s < n) ⊎ (n ≤ length s) → take n (turn_of kind k s) ≡ turn_of kind k (take n s)
      go (inl l) = rw (take_all n (turn_of kind k s) (rw (turn-length k s) (omega arith)), take_all n s (omega arith))
      go (inr l) = rw (turn-cut n k s h l) (take_at (turn_of kind k (take n s)) (drop n s) n (cut-length n k s l))

  pub turn-drop : (n k : ℕ) (s : List ℤ) → k ≤ n → drop n (turn_of kind k s) ≡ drop n s
  turn-drop n k s h = go (lt-or-ge (length s) n)
    where
      go : (length s < n) ⊎ (n ≤ length s) → drop n (turn_of kind k s) ≡ drop n s
      go (inl l) = rw (drop_of_length-le (turn_of kind k s) {i = n} (rw (turn-length k s) (omega arith)), drop_of_length-le s {i = n} (omega arith))
      go (inr l) = rw (turn-cut n k s h l) (drop_at (turn_of kind k (take n s)) (drop n s) n (cut-length n k s l))

  -- a property that a flip keeps holds of as many panes after a turn as before
  pub turn-tally : (p : ℤ → Bool) → ((x : ℤ) → p (flip kind x) ≡ p x) → (k : ℕ) (s : List ℤ) → tally p (turn_of kind k s) ≡ tally p s
  unfolding turn_of
  turn-tally p e k s =
      rw (tally-append, tally-map)
      (ap (λ (q : ℤ → Bool). tally q (reverse (take k s)) + tally p (drop k s)) (λ i x. e x i)
      ∙ rw (tally-reverse, ← (tally-append p (take k s) (drop k s)), take-append-drop))

  pub turn-all : (p : ℤ → Bool) → ((x : ℤ) → p (flip kind x) ≡ p x) → (k : ℕ) (s : List ℤ) → all p (turn_of kind k s) ≡ all p s
  unfolding turn_of
  turn-all p e k s =
      rw (all_split, all_map)
      (ap (λ (q : ℤ → Bool). all q (reverse (take k s)) && all p (drop k s)) (λ i x. e x i)
      ∙ rw (all-reverse, ← (all_split p (take k s) (drop k s)), take-append-drop))

  -- turns act on places, so they commute with a renaming of panes
  pub turn-rename : (f : ℤ → ℤ) → ((x : ℤ) → f (flip kind x) ≡ flip kind (f x)) → (k : ℕ) (s : List ℤ) → map f (turn_of kind k s) ≡ turn_of kind k (map f s)
  unfolding turn_of
  turn-rename f e k s =
      rw (map-append, map-map)
      (ap (λ (g : ℤ → ℤ). map g (reverse (take k s)) ++ map f (drop k s)) (λ i x. e x i)
      ∙ rw (← (map-map (flip kind) f (reverse (take k s))), map-reverse f, map-take f, map-drop f))

  -- the unsigned order is just reversed
  pub turn-order : (n k : ℕ) (s : List ℤ) → k ≤ n → order_of n (turn_of kind k s) ≡ reverse (take k (order_of n s)) ++ drop k (order_of n s)
  unfolding order_of turn_of
  turn-order n k s h =
      ap (map nat_abs) (turn-take n k s h)
      ∙ rw (map-append, map-map)
      (ap (λ (g : ℤ → ℕ). map g (reverse (take k (take n s))) ++ map nat_abs (drop k (take n s))) (λ i x. flip-magnitude x i)
      ∙ rw (map-reverse nat_abs, map-take nat_abs k, map-drop nat_abs k))

-- a turn of a stack is a stack
module _ (kind n : ℕ) (in-range : is_pane_count kind n ≡ true) where
  turn-smaller : (k : ℕ) (s : List ℤ) → k ≤ n → is_stack kind n s ≡ true → (x : ℕ) → smaller x (order_of n (turn_of kind k s)) ≡ smaller x (from 1 n)
  turn-smaller k s l h x =
      let order : List ℕ = order_of n s in
      ap (smaller x) (turn-order kind n k s l)
      ∙ rw (smaller-append, smaller-reverse, ← (smaller-append x (take k order) (drop k order)), take-append-drop) (stack-panes kind n s in-range h x)

  pub turn-stack : (k : ℕ) (s : List ℤ) → k ≤ n → is_stack kind n s ≡ true → is_stack kind n (turn_of kind k s) ≡ true
  turn-stack k s l h =
      let t : List ℤ = turn_of kind k s in
      let f : StackFacts kind n s = stack-facts kind n s h in
      facts-stack kind n t
      record {
        twelve = turn-length kind k s ∙ f.twelve;
        once = smaller-once n (order_of n t) (turn-smaller k s l h);
        coats = coats-fit kind t ∙ turn-all kind (coat_fits kind) (flip-fits kind) k s ∙ sym (coats-fit kind s) ∙ f.coats;
        unused = ap (all is_unused) (turn-drop kind n k s l) ∙ f.unused;
      }

-- Where each move undoes itself, any stack leads to any other of its kind and n in at most turn_bound turns: pane by pane from the bottom up,
-- each is brought to the top, laid as it should lie, and turned down to its place.
use mathlib.Core.Path.{◌≡◌, refl, sym, ap, subst, subst₂, ◌∙◌}
use mathlib.Core.Logic.{◌⊎◌, inl, inr}
use mathlib.Core.Bool.{Bool, true, false, cond, or-false}
use mathlib.Core.List.{List, [], ◌∷◌, ◌++◌, map, reverse, reverse-cons, reverse-append}
use Prim.Native.Nat.{ℕ, zero, suc, ◌+◌, ◌-◌, ◌*◌, ◌<◌, ◌≤◌}
use native.Mathlib.Nat.{le_refl, le-suc, suc_inj, suc-ne-zero}
use native.Mathlib.Omega.{arith}
use borrow.Author.Tests.{leb-true, eq-eqb, ne_eqb}
use lib.Dec.{leb, eqb}
use lib.IntN.{ℤ, pos, negsuc, neg_ℤ, nat_abs}
use lib.ListN.{length, get_or, take, replicate, length-append, length-reverse, length-map}
use lib.Seq.{take-suc, take_all, append_snoc}
use Rattle.base.proofs.Tests.{and_left, and_right, eq-or-ne, test-cases}
use Rattle.base.proofs.Lists.{map-append}
use Rattle.base.proofs.Counting.{tally-append, tally-map, tally-true, tally-false, all_split, all_middle, all_take}
use Rattle.base.specs.Words.{all, tally, from}
use Rattle.stacks.specs.Stack.{is_coated, fewest_panes, most_panes, is_pane_count, is_stack, order_of}
use Rattle.stacks.specs.Index.{smaller}
use Rattle.stacks.specs.Turn.{is_turn, UndoesItself, flip, turn_of, turn_bound, Road}
use Rattle.stacks.proofs.Panes.{stack-facts, smaller-suc}
use Rattle.stacks.proofs.Numbering.{panes-length, stack-panes, stack_is}
use Rattle.stacks.proofs.TurnLaws.{first-coated, first_plain, flip-involutive, flip-magnitude, flip-coated, flip-fits, coat_fits, coats-fit, turn_at, turn-whole, turn-top}
use Rattle.stacks.proofs.MoveLaws.{moves-length}
use Rattle.stacks.proofs.Roads.{RoadWithin, turn_cost, within_none, within-append, within_more, moves-tally, moves-all, within-below, turn-within}

-- a pane of number v
abbrev is_pane : ℕ → ℤ → Bool
is_pane v x = eqb v (nat_abs x)

-- a list cut at a pane of number v
record Cut (v : ℕ) (a : List ℤ) : Type 0 where
  above : List ℤ
  pane : ℤ
  below : List ℤ
  whole : a ≡ above ++ (pane ∷ below)
  number : nat_abs pane ≡ v

cut_at : (v : ℕ) (a : List ℤ) → 0 < tally (is_pane v) a → Cut v a
unfolding tally
cut_at v [] h = absurd (omega arith)
cut_at v (x ∷ a) h = go (λ k. cut_at v a k) (eq-or-ne v (nat_abs x))
  where
    go : (0 < tally (is_pane v) a → Cut v a) → (v ≡ nat_abs x) ⊎ (v ≡ nat_abs x → ⊥) → Cut v (x ∷ a)
    go rest (inl e) = record { above = []; pane = x; below = a; whole = refl; number = sym e }
    go rest (inr e) =
        let c : Cut v a = rest (rw (tally-false (is_pane v) x a (ne_eqb v (nat_abs x) e)) at h) in
        record { above = x ∷ c.above; pane = c.pane; below = c.below; whole = ap (λ (l : List ℤ). x ∷ l) c.whole; number = c.number }

-- two lists of the same m panes, in any order and with any coats of the kind
record Alike (kind m : ℕ) (a b : List ℤ) : Type 0 where
  left-length : length a ≡ m
  right-length : length b ≡ m
  same : (v : ℕ) → tally (is_pane v) a ≡ tally (is_pane v) b
  left-fits : all (coat_fits kind) a ≡ true
  right-fits : all (coat_fits kind) b ≡ true

module _ (kind : ℕ) (itself : UndoesItself kind) where
  -- turn a pane to the top
  raise : (n : ℕ) (p : List ℤ) (x : ℤ) (r : List ℤ) → length p < n
      → RoadWithin kind n (is_turn kind n) (turn_cost kind (suc (length p))) (p ++ (x ∷ r)) (flip kind x ∷ (map (flip kind) (reverse p) ++ r))
  raise n p x r h =
      turn-within kind itself n (suc (length p)) (p ++ (x ∷ r)) (flip kind x ∷ (map (flip kind) (reverse p) ++ r)) (omega arith) h
      (ap (turn_of kind (suc (length p))) (sym (append_snoc p x r))
      ∙ turn_at kind (suc (length p)) (p ++ (x ∷ [])) r (rw length-append (omega arith))
      ∙ ap (λ (l : List ℤ). map (flip kind) l ++ r) (reverse-append p (x ∷ [])))

  -- two panes of one number are the same or each other's flip
  same_number : (x y : ℤ) → nat_abs x ≡ nat_abs y → coat_fits kind x ≡ true → coat_fits kind y ≡ true → (x ≡ y) ⊎ (flip kind x ≡ y)
  unfolding coat_fits
  same_number (pos x) (pos y) e f g = inl (ap pos e)
  same_number (pos x) (negsuc y) e f g = inr (flip-coated kind (sym (or-false (is_coated kind)) ∙ g) (pos x) ∙ ap (λ (k : ℕ). neg_ℤ (pos k)) e)
  same_number (negsuc x) (pos y) e f g = inr (flip-coated kind (sym (or-false (is_coated kind)) ∙ f) (negsuc x) ∙ ap pos e)
  same_number (negsuc x) (negsuc y) e f g = inl (ap negsuc (suc_inj e))

  -- lay the top pane so that a flip makes it y
  lay : (n : ℕ) (x y : ℤ) (w : List ℤ) → 1 ≤ n → (x ≡ y) ⊎ (flip kind x ≡ y)
      → (z : ℤ) × (flip kind z ≡ y) × RoadWithin kind n (is_turn kind n) (turn_cost kind 1) (flip kind x ∷ w) (z ∷ w)
  lay n x y w h (inl e) = (flip kind x, flip-involutive kind x ∙ e, within_none (flip kind x ∷ w))
  lay n x y w h (inr e) = (
    x,
    e,
    turn-within kind itself n 1 (flip kind x ∷ w) (x ∷ w) (le_refl 1) h
        (turn-top kind (flip kind x) w ∙ ap (λ (z : ℤ). z ∷ w) (flip-involutive kind x)),
  )

  -- turn the top pane down to the lowest place
  sink : (n : ℕ) (z y : ℤ) (w : List ℤ) → suc (length w) ≡ n → flip kind z ≡ y
      → RoadWithin kind n (is_turn kind n) (turn_cost kind n) (z ∷ w) (map (flip kind) (reverse w) ++ (y ∷ []))
  sink n z y w e f =
      turn-within kind itself n n (z ∷ w) (map (flip kind) (reverse w) ++ (y ∷ [])) (omega arith) (le_refl n)
      (turn-whole kind n (z ∷ w) e
      ∙ ap (map (flip kind)) (reverse-cons z w)
      ∙ map-append (flip kind) (reverse w) (z ∷ [])
      ∙ ap (λ (x : ℤ). map (flip kind) (reverse w) ++ (x ∷ [])) f)

  -- so many turns settle the lowest of m panes
  unfoldable settle_cost : ℕ → ℕ
  settle_cost m = turn_cost kind m + (turn_cost kind 1 + turn_cost kind m)

  settle-cost : (q m : ℕ) → q ≤ m → turn_cost kind q + (turn_cost kind 1 + turn_cost kind m) ≤ settle_cost m
  unfolding settle_cost turn_cost
  settle-cost q m h = omega arith

  cost-bound : (m : ℕ) → settle_cost (suc m) + turn_bound kind m ≤ turn_bound kind (suc m)
  unfolding settle_cost turn_cost turn_bound
  cost-bound m = go (test-cases (is_coated kind))
    where
      go : (is_coated kind ≡ true) ⊎ (is_coated kind ≡ false) → settle_cost (suc m) + turn_bound kind m ≤ turn_bound kind (suc m)
      go (inl t) = rw (t, first-coated kind t) (omega arith)
      go (inr t) = rw (t, first_plain kind itself t) (omega arith)

  settle : (n : ℕ) (a : List ℤ) (y : ℤ) → length a ≡ n → Cut (nat_abs y) a → all (coat_fits kind) a ≡ true → coat_fits kind y ≡ true
      → (b : List ℤ) × RoadWithin kind n (is_turn kind n) (settle_cost n) a (b ++ (y ∷ []))
  settle n a y l c f g =
      let p : List ℤ = c.above in
      let x : ℤ = c.pane in
      let r : List ℤ = c.below in
      let w : List ℤ = map (flip kind) (reverse p) ++ r in
      let len : length p + suc (length r) ≡ n = sym (length-append p (x ∷ r)) ∙ ap length (sym c.whole) ∙ l in
      let under : suc (length w) ≡ n = simp (length-append, length-map, length-reverse) (omega arith) in
      let fits : coat_fits kind x ≡ true = all_middle (coat_fits kind) p x r (ap (all (coat_fits kind)) (sym c.whole) ∙ f) in
      let laid = lay n x y w (omega arith) (same_number x y c.number fits g) in
      let down = sink n laid.0 y w under laid.1 in (
        map (flip kind) (reverse w),
        rw c.whole
            (within_more (settle-cost (suc (length p)) n (omega arith))
            (within-append (raise n p x r (omega arith)) (within-append laid.2 down))),
      )

  -- the last pane of the one list stands in the other
  alike-cut : {m : ℕ} (a b : List ℤ) (y : ℤ) → Alike kind m a (b ++ (y ∷ [])) → Cut (nat_abs y) a
  unfolding tally
  alike-cut a b y f =
      let v : ℕ = nat_abs y in
      cut_at v a (omega (arith, f.same v, tally-append (is_pane v) b (y ∷ []), tally-true (is_pane v) y [] (eq-eqb v v refl)))

  -- where both lists have the same last pane, the rest is alike
  alike-settled : {m : ℕ} {ks : List ℕ} (a c b : List ℤ) (y : ℤ) → Alike kind (suc m) a (b ++ (y ∷ [])) → Road kind (suc m) ks a (c ++ (y ∷ [])) → Alike kind m c b
  alike-settled {m} {ks} a c b y f road =
      record {
        left-length = omega (arith, length-append c (y ∷ []), ap length (sym road.arrives), moves-length kind (suc m) ks a, f.left-length);
        right-length = omega (arith, length-append b (y ∷ []), f.right-length);
        same = λ v. omega (
          arith,
          tally-append (is_pane v) c (y ∷ []),
          tally-append (is_pane v) b (y ∷ []),
          ap (tally (is_pane v)) (sym road.arrives),
          moves-tally kind itself (suc m) (is_pane v) (λ x. ap (eqb v) (flip-magnitude kind x)) ks a,
          f.same v,
        );
        left-fits = and_left (all (coat_fits kind) c) (all (coat_fits kind) (y ∷ []))
            (sym (all_split (coat_fits kind) c (y ∷ [])) ∙ ap (all (coat_fits kind)) (sym road.arrives)
            ∙ moves-all kind itself (suc m) (coat_fits kind) (flip-fits kind) ks a ∙ f.left-fits);
        right-fits = and_left (all (coat_fits kind) b) (all (coat_fits kind) (y ∷ [])) (sym (all_split (coat_fits kind) b (y ∷ [])) ∙ f.right-fits);
      }

  sort : (m : ℕ) (a b : List ℤ) → Alike kind m a b → RoadWithin kind m (is_turn kind m) (turn_bound kind m) a b
  sort zero [] [] f = within_none []
  sort zero [] (y ∷ b) f = absurd (suc-ne-zero (length b) f.right-length)
  sort zero (x ∷ a) b f = absurd (suc-ne-zero (length a) f.left-length)
  sort (suc m) a b f =
      let y : ℤ = get_or b m (pos 0) in
      let e : b ≡ take m b ++ (y ∷ []) = sym (take_all (suc m) b (omega arith)) ∙ take-suc b m (pos 0) (omega arith) in
      let g : Alike kind (suc m) a (take m b ++ (y ∷ [])) = subst (Alike kind (suc m) a) e f in
      let fits : coat_fits kind y ≡ true = all_middle (coat_fits kind) (take m b) y [] g.right-fits in
      let settled = settle (suc m) a y g.left-length (alike-cut a (take m b) y g) g.left-fits fits in
      let rest : Alike kind m settled.0 (take m b) = alike-settled {ks = settled.1.0} a settled.0 (take m b) y g settled.1.1 in
      let others = within-below kind itself (le-suc m) (y ∷ []) (omega (arith, rest.left-length)) (sort m settled.0 (take m b) rest) in
      subst (RoadWithin kind (suc m) (is_turn kind (suc m)) (turn_bound kind (suc m)) a) (sym e)
      (within_more (cost-bound m) (within-append settled.1 others))

module _ (kind n : ℕ) (in-range : is_pane_count kind n ≡ true) where
  -- the top n places of a stack hold each pane as often as 1 to n does
  stack-tally : (s : List ℤ) → is_stack kind n s ≡ true → (v : ℕ) → tally (is_pane v) (take n s) ≡ tally (eqb v) (from 1 n)
  unfolding order_of
  stack-tally s h v =
      let panes : (x : ℕ) → smaller x (order_of n s) ≡ smaller x (from 1 n) = stack-panes kind n s in-range h in
      omega (arith, tally-map (eqb v) nat_abs (take n s), smaller-suc v (order_of n s), smaller-suc v (from 1 n), panes v, panes (suc v))

  stack-fits : (s : List ℤ) → is_stack kind n s ≡ true → all (coat_fits kind) (take n s) ≡ true
  stack-fits s h = all_take (coat_fits kind) n s (sym (coats-fit kind s) ∙ (stack-facts kind n s h).coats)

  stacks-alike : (s w : List ℤ) → is_stack kind n s ≡ true → is_stack kind n w ≡ true → Alike kind n (take n s) (take n w)
  stacks-alike s w hs hw =
      record {
        left-length = panes-length kind n s in-range hs;
        right-length = panes-length kind n w in-range hw;
        same = λ v. stack-tally s hs v ∙ sym (stack-tally w hw v);
        left-fits = stack-fits s hs;
        right-fits = stack-fits w hw;
      }

  -- every stack leads to every other, in at most turn_bound turns
  pub road-bound : UndoesItself kind → (s w : List ℤ) → is_stack kind n s ≡ true → is_stack kind n w ≡ true
      → (ks : List ℕ) × Road kind n ks s w × (length ks ≤ turn_bound kind n)
  road-bound itself s w hs hw =
      let alike : Alike kind n (take n s) (take n w) = stacks-alike s w hs hw in
      let unused : List ℤ = replicate (12 - n) (pos 0) in
      subst₂ (RoadWithin kind n (is_turn kind n) (turn_bound kind n)) (sym (stack_is kind n s in-range hs)) (sym (stack_is kind n w in-range hw))
      (within-below kind itself (le_refl n) unused (omega (arith, alike.left-length)) (sort kind itself n (take n s) (take n w) alike))

pub turn-bound-30 : (kind n : ℕ) → is_pane_count kind n ≡ true → turn_bound kind n ≤ 30
unfolding is_pane_count most_panes turn_bound
turn-bound-30 kind n h = go (is_coated kind) (leb-true n (most_panes kind) (and_right (leb (fewest_panes kind) n) (leb n (most_panes kind)) h))
  where
    go : (t : Bool) → n ≤ cond t 10 12 → cond t (3 * n) (2 * (n - 1)) ≤ 30
    go true l = omega arith
    go false l = omega arith

-- What stands below a group: its digits and coats are remainders of the index, and a turn leaves them.
-- So the turned group and the index give the index after the turn.
use mathlib.Core.Path.{◌≡◌, refl, sym, ap, ◌∙◌}
use mathlib.Core.Bool.{true}
use mathlib.Core.List.{List, []}
use Prim.Native.Nat.{ℕ, zero, suc, ◌+◌, ◌-◌, ◌*◌, ◌/◌, ◌%◌, ◌^◌, ◌≤◌, ◌<◌}
use native.Mathlib.Nat.{le_refl, lt_trans, mul-le-mul_left}
use native.Mathlib.Numerals.{add-one}
use native.Mathlib.Omega.{arith}
use lib.Arith.{digits_div, digits_mod}
use lib.IntN.{ℤ, pos, nat_abs}
use lib.ListN.{get_or, take, drop, length-drop, take-append-drop}
use lib.Pow.{pow_pos}
use Rattle.base.specs.Words.{fact}
use Rattle.base.proofs.Numbers.{fact-pos}
use Rattle.base.proofs.Lists.{map-drop}
use Rattle.stacks.specs.Index.{rank_from, coat_bits, rank_of}
use Rattle.stacks.specs.Stack.{is_pane_count, is_stack, order_of, coatings}
use Rattle.stacks.specs.Turn.{turn_of}
use Rattle.stacks.proofs.KindLaws.{coatings-pos, count_fits}
use Rattle.stacks.proofs.Panes.{smaller-append, smaller-reverse}
use Rattle.stacks.proofs.OrderLaws.{lehmer, lehmer-lt, rank_from-met}
use Rattle.stacks.proofs.CoatLaws.{coat_bits-lt}
use Rattle.stacks.proofs.Numbering.{panes-length, order-of-length, stack-panes, coat_bits-below, rank_lt}
use Rattle.stacks.proofs.TurnLaws.{turn-take, turn-drop, turn-stack}
use Rattle.perm.specs.Ranking.{place_ranked}
use Rattle.perm.specs.declared.numbering.Ranking.{Ranking}
use Rattle.perm.proofs.Places.{met_at}
use Rattle.perm.proofs.Ranking.{Ranked, nothing_met, ranked-start, ranked-step}

module _ (kind n : ℕ) (s : List ℤ) (in-range : is_pane_count kind n ≡ true) (stack : is_stack kind n s ≡ true) where
  -- what ranking has met at any place
  ranked-at : (p : ℕ) → p ≤ n → (above : Ranking) × Ranked n s above p
  ranked-at zero h = (nothing_met, ranked-start n s)
  ranked-at (suc p) h =
      let a = ranked-at p (omega arith) in
      let x : ℤ = get_or s p (pos 0) in
      (place_ranked a.0 (n - p) x, rw (← add-one p) (ranked-step kind n s in-range stack a.0 p a.1 h x refl))

  -- the digits from place p on need not know what is met above
  below-lehmer : (p : ℕ) → rank_from (met_at (order_of n s) p) (drop p (order_of n s)) ≡ lehmer (drop p (order_of n s))
  unfolding met_at
  below-lehmer p =
      let xs = order_of n s in
      rank_from-met n (met_at xs p) (drop p xs)
      (λ x. rw (smaller-reverse, ← smaller-append x (take p xs) (drop p xs), take-append-drop) (stack-panes kind n s in-range stack x))

  below-order : (p : ℕ) → p ≤ n → rank_of kind n s / coatings kind n % fact (n - p) ≡ lehmer (drop p (order_of n s))
  unfolding rank_of
  below-order p h =
      let xs = order_of n s in
      let a = ranked-at p h in
      ap (λ (m : ℕ). m % fact (n - p))
      (digits_div (rank_from [] xs) (coat_bits-below kind n s in-range stack) ∙ sym a.1.ranked
      ∙ ap (λ (m : ℕ). a.0.order * fact (n - p) + m) (below-lehmer p))
      ∙ digits_mod a.0.order (rw (length-drop p xs, order-of-length kind n s in-range stack) at (lehmer-lt (drop p xs)))

  below-coats : (p : ℕ) → p ≤ n → rank_of kind n s % coatings kind n % 2 ^ (n - p) ≡ coat_bits (drop p (take n s))
  unfolding rank_of
  below-coats p h =
      let a = ranked-at p h in
      ap (λ (m : ℕ). m % 2 ^ (n - p)) (digits_mod (rank_from [] (order_of n s)) (coat_bits-below kind n s in-range stack) ∙ sym a.1.coated)
      ∙ digits_mod a.0.coats (rw (length-drop p (take n s), panes-length kind n s in-range stack) at (coat_bits-lt (drop p (take n s))))

-- the index of the turned stack t, and what its arithmetic needs
pub record TurnedIndex (kind n : ℕ) (t : List ℤ) (above : Ranking) (index ways orders weight : ℕ) : Type 0 where
  pub ways-pos : 0 < ways
  pub orders-pos : 0 < orders
  pub weight-pos : 0 < weight
  pub order_room : above.order * orders + index / ways % orders < 4294967296
  pub whole : (above.order * orders + index / ways % orders) * ways + (above.coats * weight + index % ways % weight) ≡ rank_of kind n t
  pub room : (above.order * orders + index / ways % orders) * ways + (above.coats * weight + index % ways % weight) < 4294967296

module _ (kind n : ℕ) (s : List ℤ) (in-range : is_pane_count kind n ≡ true) (stack : is_stack kind n s ≡ true)
    (k : ℕ) (h : k ≤ n) (above : Ranking) (r : Ranked n (turn_of kind k s) above k) where
  same-panes : drop k (take n (turn_of kind k s)) ≡ drop k (take n s)
  same-panes = ap (drop k) (turn-take kind n k s h) ∙ turn-drop kind k k (take n s) (le_refl k)

  same-order : drop k (order_of n (turn_of kind k s)) ≡ drop k (order_of n s)
  unfolding order_of
  same-order = rw (← map-drop nat_abs k (take n (turn_of kind k s)), same-panes) (map-drop nat_abs k (take n s))

  turned-order : above.order * fact (n - k) + rank_of kind n s / coatings kind n % fact (n - k) ≡ rank_from [] (order_of n (turn_of kind k s))
  turned-order =
      ap (λ (m : ℕ). above.order * fact (n - k) + m)
      (below-order kind n s in-range stack k h ∙ ap lehmer (sym same-order)
      ∙ sym (below-lehmer kind n (turn_of kind k s) in-range (turn-stack kind n in-range k s h stack) k))
      ∙ r.ranked

  turned-coats : above.coats * 2 ^ (n - k) + rank_of kind n s % coatings kind n % 2 ^ (n - k) ≡ coat_bits (take n (turn_of kind k s))
  turned-coats = ap (λ (m : ℕ). above.coats * 2 ^ (n - k) + m) (below-coats kind n s in-range stack k h ∙ ap coat_bits (sym same-panes)) ∙ r.coated

  pub turned-index : (index ways orders weight : ℕ) → index ≡ rank_of kind n s → ways ≡ coatings kind n → orders ≡ fact (n - k) → weight ≡ 2 ^ (n - k)
      → TurnedIndex kind n (turn_of kind k s) above index ways orders weight
  unfolding rank_of
  turned-index index ways orders weight ei ew eo ev =
      let t : List ℤ = turn_of kind k s in
      let i = rank_of kind n s in
      let d : ℕ = above.order * fact (n - k) + i / coatings kind n % fact (n - k) in
      let c : ℕ = above.coats * 2 ^ (n - k) + i % coatings kind n % 2 ^ (n - k) in
      let whole : d * coatings kind n + c ≡ rank_of kind n t = rw (turned-order, turned-coats) in
      let room : rank_of kind n t < 4294967296 = lt_trans (rank_lt kind n t in-range (turn-stack kind n in-range k s h stack)) (count_fits kind n in-range) in
      rw (ei, ew, eo, ev)
      (record {
        ways-pos = coatings-pos kind n;
        orders-pos = fact-pos (n - k);
        weight-pos = pow_pos (n - k);
        order_room = omega (arith, mul-le-mul_left d (coatings-pos kind n));
        whole = whole;
        room = rw whole room;
      })

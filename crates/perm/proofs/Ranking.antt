-- Ranking a stack place by place: what is added up at place p, and that it stays below the count of stacks.
use mathlib.Core.Path.{◌≡◌, sym, ap, ◌∙◌}
use mathlib.Core.Bool.{true}
use mathlib.Core.List.{List, []}
use Prim.Native.Nat.{ℕ, suc, ◌+◌, ◌-◌, ◌*◌, ◌%◌, ◌^◌, ◌≤◌, ◌<◌}
use native.Mathlib.Nat.{mul-le-mul_left, pow-suc}
use native.Mathlib.Numerals.{add-one}
use native.Mathlib.Omega.{arith}
use lib.Count.{ones}
use lib.IntN.{ℤ, pos, nat_abs}
use lib.ListN.{length, get_or, take, drop, length-drop, drop_of_length-le}
use lib.Pow.{pow_pos}
use lib.Seq.{drop-cons, get_or-take}
use Rattle.base.specs.Words.{fact}
use Rattle.base.proofs.Numbers.{fact-pos, fact-suc, fact_mono}
use Rattle.stacks.specs.Index.{smaller, rank_from, coat, coat_bits, rank_of}
use Rattle.stacks.specs.Stack.{is_pane_count, is_stack, order_of, coatings}
use Rattle.stacks.proofs.KindLaws.{panes-twelve}
use Rattle.stacks.proofs.Panes.{stack-facts}
use Rattle.stacks.proofs.OrderLaws.{lehmer-lt, rank_from-is}
use Rattle.stacks.proofs.CoatLaws.{coat_bits-lt}
use Rattle.stacks.proofs.Numbering.{panes-length, order-of-length, stack-panes}
use Rattle.perm.specs.Ranking.{PlaceFits, place_ranked}
use Rattle.perm.specs.declared.numbering.Ranking.{Ranking}
use Rattle.perm.proofs.Sets.{holds-ones, pow-twelve}
use Rattle.perm.proofs.Places.{Met, is_new, new-facts, met_start, met-new, met-step, met_at, met-none, met-more, order-at}

-- one place more of the order's rank, and of the coats' bits
rank_from-more : (xs : List ℕ) (p order : ℕ) → p < length xs
    → order * fact (length xs - p) + rank_from (met_at xs p) (drop p xs)
    ≡ (order * (length xs - p) + (get_or xs p 0 - 1 - smaller (get_or xs p 0) (met_at xs p))) * fact (length xs - (p + 1))
    + rank_from (met_at xs (p + 1)) (drop (p + 1) xs)
unfolding rank_from
rank_from-more xs p order h =
    let x = get_or xs p 0 in
    let f : fact (length xs - p) ≡ (length xs - p) * fact (length xs - (p + 1)) =
    ap fact (let e : length xs - p ≡ suc (length xs - (p + 1)) = omega arith in e) ∙ fact-suc (length xs - (p + 1))
    ∙ ap (λ (m : ℕ). m * fact (length xs - (p + 1))) (let e : suc (length xs - (p + 1)) ≡ length xs - p = omega arith in e) in
    let r : rank_from (met_at xs p) (drop p xs)
    ≡ (x - 1 - smaller x (met_at xs p)) * fact (length xs - (p + 1)) + rank_from (met_at xs (p + 1)) (drop (p + 1) xs) =
    rw (drop-cons xs p 0 h, met-more xs p h, add-one, ← length-drop (suc p) xs) in
    rw (f, r) (omega arith)

coat_bits-more : (xs : List ℤ) (p coats : ℕ) → p < length xs
    → coats * 2 ^ (length xs - p) + coat_bits (drop p xs)
    ≡ (coats * 2 + coat (get_or xs p (pos 0))) * 2 ^ (length xs - (p + 1)) + coat_bits (drop (p + 1) xs)
unfolding coat_bits
coat_bits-more xs p coats h =
    let f : 2 ^ (length xs - p) ≡ 2 ^ (length xs - (p + 1)) * 2 =
    ap (λ (m : ℕ). 2 ^ m) (let e : length xs - p ≡ suc (length xs - (p + 1)) = omega arith in e) ∙ pow-suc 2 (length xs - (p + 1)) in
    let r : coat_bits (drop p xs) ≡ coat (get_or xs p (pos 0)) * 2 ^ (length xs - (p + 1)) + coat_bits (drop (p + 1) xs) =
    rw (drop-cons xs p (pos 0) h, add-one, ← length-drop (suc p) xs) in
    rw (f, r) (omega arith)

-- at place p: the set of the panes met, and the order and the coats as far as they are met
pub record Ranked (n : ℕ) (s : List ℤ) (above : Ranking) (p : ℕ) : Type 0 where
  pub panes : Met n (order_of n s) above.met p
  pub ranked : above.order * fact (n - p) + rank_from (met_at (order_of n s) p) (drop p (order_of n s)) ≡ rank_from [] (order_of n s)
  pub coated : above.coats * 2 ^ (n - p) + coat_bits (drop p (take n s)) ≡ coat_bits (take n s)

abbrev pub nothing_met : Ranking
nothing_met = record { met = 0; order = 0; coats = 0 }

-- the ranking that a default is
abbrev ranking : ℕ → ℕ → ℕ → Ranking
ranking met order coats = record { met = met; order = order; coats = coats }

pub is-nothing : (r : Ranking) → (r.met ≡ 0) × ((r.order ≡ 0) × (r.coats ≡ 0)) → r ≡ nothing_met
is-nothing r e =
    ap (λ (x : ℕ). ranking x r.order r.coats) e.0 ∙ ap (λ (x : ℕ). ranking 0 x r.coats) e.1.0 ∙ ap (ranking 0 0) e.1.1

pub ranked-start : (n : ℕ) (s : List ℤ) → Ranked n s nothing_met 0
ranked-start n s =
    record {
      panes = met_start n (order_of n s);
      ranked = rw (met-none (order_of n s)) (omega arith);
      coated = omega arith;
    }

module _ (kind n : ℕ) (s : List ℤ) (in-range : is_pane_count kind n ≡ true) (stack : is_stack kind n s ≡ true) where
  -- neither part is above the whole, so all fits 32 bits
  order-fits : (above : Ranking) (p : ℕ) → Ranked n s above p → above.order < 4294967296
  unfolding fact
  order-fits above p r =
      let xs = order_of n s in
      let whole : rank_from [] xs < fact (length xs) = rw (rank_from-is n xs (stack-panes kind n s in-range stack)) (lehmer-lt xs) in
      let most : fact (length xs) ≤ 479001600 = fact_mono (length xs) 12 (rw (order-of-length kind n s in-range stack) (panes-twelve kind n in-range)) in
      omega (arith, r.ranked, mul-le-mul_left above.order (fact-pos (n - p)))

  coats-fit : (above : Ranking) (p : ℕ) → Ranked n s above p → above.coats < 4096
  coats-fit above p r =
      omega (
        arith,
        r.coated,
        mul-le-mul_left above.coats (pow_pos (n - p)),
        coat_bits-lt (take n s),
        pow-twelve (length (take n s)) (rw (panes-length kind n s in-range stack) (panes-twelve kind n in-range)),
      )

  pub ranked-end : (above : Ranking) (p : ℕ) → Ranked n s above p → n ≤ p → above.order * coatings kind n + above.coats ≡ rank_of kind n s
  unfolding rank_of fact rank_from coat_bits
  ranked-end above p r h =
      let xs = order_of n s in
      let done : n - p ≡ 0 = omega arith in
      let a : above.order ≡ rank_from [] xs =
      omega (arith, rw (done, drop_of_length-le xs {i = p} (rw (order-of-length kind n s in-range stack) h)) at r.ranked) in
      let b : above.coats ≡ coat_bits (take n s) =
      omega (arith, rw (done, drop_of_length-le (take n s) {i = p} (rw (panes-length kind n s in-range stack) h)) at r.coated) in
      rw (a, b)

  -- one place more, with the x that stands there
  module _ (above : Ranking) (p : ℕ) (r : Ranked n s above p) (h : p < n) (x : ℤ) (e : x ≡ get_or s p (pos 0)) where
    inside : p < length (order_of n s)
    inside = rw (order-of-length kind n s in-range stack) h

    pane : nat_abs x ≡ get_or (order_of n s) p 0
    pane = ap nat_abs e ∙ sym (order-at n s p h)

    pane-new : is_new n above.met (nat_abs x) ≡ true
    pane-new = met-new n (order_of n s) above.met p r.panes (nat_abs x) inside pane (stack-facts kind n s stack).once

    pub ranked-step : Ranked n s (place_ranked above (n - p) x) (p + 1)
    unfolding place_ranked
    ranked-step =
        let xs = order_of n s in
        let real : suc (nat_abs x - 1) ≡ nat_abs x = omega (arith, (new-facts n above.met (nat_abs x) pane-new).0) in
        let digit : ones (above.met % 2 ^ (nat_abs x - 1)) ≡ smaller (get_or xs p 0) (met_at xs p) =
        holds-ones above.met (met_at xs p) r.panes.holds r.panes.real (nat_abs x - 1) ∙ ap (λ (y : ℕ). smaller y (met_at xs p)) (real ∙ pane) in
        let long : length xs ≡ n = order-of-length kind n s in-range stack in
        let wide : length (take n s) ≡ n = panes-length kind n s in-range stack in
        record {
          panes = met-step n xs above.met p r.panes (nat_abs x) inside pane pane-new;
          ranked = rw (digit, pane) (sym (rw long at (rank_from-more xs p above.order inside)) ∙ r.ranked);
          coated =
              rw (e, ← get_or-take n s p (pos 0) h)
              (sym (rw wide at (coat_bits-more (take n s) p above.coats (rw wide h))) ∙ r.coated);
        }

    pub ranked-fits : PlaceFits above (n - p) x
    ranked-fits =
        let f = new-facts n above.met (nat_abs x) pane-new in
        let most = panes-twelve kind n in-range in
        record {
          low = f.0;
          high = omega arith;
          met_room = omega (arith, r.panes.bound, pow-twelve n most);
          order_room = order-fits (place_ranked above (n - p) x) (p + 1) ranked-step;
          coats_room = coats-fit (place_ranked above (n - p) x) (p + 1) ranked-step;
        }

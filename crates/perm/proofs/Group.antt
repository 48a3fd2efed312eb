-- Turning a group: it is reversed, and then flipped place by place.
use mathlib.Core.Path.{◌≡◌, refl, sym, ap, ◌∙◌}
use mathlib.Core.Bool.{Bool, true, false, cond}
use mathlib.Core.List.{List, [], ◌++◌, map, reverse}
use Prim.Native.Nat.{ℕ, suc, ◌+◌, ◌-◌, ◌≤◌, ◌<◌}
use native.Mathlib.Omega.{arith}
use lib.IntN.{ℤ, pos, nat_abs, neg_ℤ}
use lib.ListN.{length, get_or, set, take, drop, length-map, length-reverse, length-append, length-take, length-drop, get_or-map, get_or-append}
use lib.Seq.{drop-cons, take_all, get_or-take, length-take-le}
use Rattle.std.proofs.lemmas.List.{append-nil, get_or_at, get_or_default, drop_all}
use Rattle.std.proofs.lemmas.List.Edits.{map_over_more}
use mir.Syntax.{w8}
use mir.Val.{to_z, of_z}
use Rattle.base.proofs.Lists.{get_d_reverse}
use Rattle.stacks.specs.Stack.{is_pane_count, is_stack, is_coated, order_of}
use Rattle.stacks.specs.Turn.{flip, turn_of}
use Rattle.stacks.proofs.KindLaws.{panes-twelve}
use Rattle.stacks.proofs.Panes.{stack-facts, once-le}
use Rattle.stacks.proofs.TurnLaws.{flip-magnitude}
use Rattle.perm.proofs.Signed.{small-back}
use Rattle.perm.proofs.Places.{order-at}

-- a pane of a stack is small enough to be negated; it is read as it is, and flipped it is written as it is
module _ (kind n : ℕ) (s : List ℤ) (stack : is_stack kind n s ≡ true) (l : n ≤ 12) (i : ℕ) (h : i < n) where
  pane-small : nat_abs (get_or s i (pos 0)) ≤ 12
  pane-small = omega (arith, once-le n [] (order_of n s) (stack-facts kind n s stack).once i, order-at n s i h)

  pub pane-read : nat_abs (to_z w8 (of_z w8 (get_or s i (pos 0)))) ≤ 12
  pane-read = rw (small-back (get_or s i (pos 0)) pane-small) pane-small

  pub pane-flipped : (z : ℤ) → z ≡ flip kind (to_z w8 (of_z w8 (get_or s i (pos 0)))) → to_z w8 (of_z w8 z) ≡ flip kind (get_or s i (pos 0))
  pane-flipped z e =
      let x : ℤ = get_or s i (pos 0) in
      let f : z ≡ flip kind x = e ∙ ap (flip kind) (small-back x pane-small) in
      small-back z (rw (f, flip-magnitude kind x) pane-small) ∙ f

-- the group stands within the twelve places
pub group-within : (kind n k : ℕ) (s : List ℤ) → is_pane_count kind n ≡ true → is_stack kind n s ≡ true → k ≤ n → (k ≤ length s) × (length (take k s) ≡ k)
group-within kind n k s count stack h =
    let l : k ≤ length s = omega (arith, panes-twelve kind n count, (stack-facts kind n s stack).twelve) in
    (l, length-take-le k s l)

-- the group in its new order, of which p places are flipped
abbrev pub half_turned : ℕ → ℕ → List ℤ → ℕ → List ℤ
half_turned kind k s p = map (flip kind) (take p (reverse (take k s))) ++ drop p (reverse (take k s))

flip-zero : (kind : ℕ) → flip kind (pos 0) ≡ pos 0
unfolding flip
flip-zero kind = go (is_coated kind)
  where
    go : (t : Bool) → cond t (neg_ℤ (pos 0)) (pos 0) ≡ pos 0
    go true = refl
    go false = refl

module _ (kind k : ℕ) (s : List ℤ) (l : k ≤ length s) where
  reversed-length : length (reverse (take k s)) ≡ k
  reversed-length = length-reverse (take k s) ∙ length-take-le k s l

  reversed-at : (p : ℕ) → p < k → get_or (reverse (take k s)) p (pos 0) ≡ get_or s (k - 1 - p) (pos 0)
  reversed-at p h =
      let long : length (take k s) ≡ k = length-take-le k s l in
      get_d_reverse (take k s) p (pos 0) (rw long h) ∙ rw (long) (get_or-take k s (k - suc p) (pos 0) (omega arith))
      ∙ ap (λ (i : ℕ). get_or s i (pos 0)) (let e : k - suc p ≡ k - 1 - p = omega arith in e)

  -- the pane that a turn brings to place p
  pub turned-at : (p : ℕ) → p < k → get_or (turn_of kind k s) p (pos 0) ≡ flip kind (get_or s (k - 1 - p) (pos 0))
  unfolding turn_of
  turned-at p h =
      let group : List ℤ = map (flip kind) (reverse (take k s)) in
      let long : length group ≡ k = length-map (reverse (take k s)) (flip kind) ∙ reversed-length in
      get_or-append group (drop k s) (pos 0) p (rw long h)
      ∙ ap (get_or group p) (sym (flip-zero kind)) ∙ get_or-map (flip kind) (reverse (take k s)) p (pos 0)
      ∙ ap (flip kind) (reversed-at p h)

  module _ (p : ℕ) (group : List ℤ) (e : group ≡ half_turned kind k s p) where
    half-length : length group ≡ k
    half-length =
        let xs : List ℤ = reverse (take k s) in
        ap length e ∙ simp (length-append, length-map, length-take, length-drop) (omega (arith, reversed-length))

    -- the pane that is flipped next
    pub half-at : p < k → get_or group p (pos 0) ≡ get_or s (k - 1 - p) (pos 0)
    half-at h =
        let xs : List ℤ = reverse (take k s) in
        let here : p < length xs = rw reversed-length h in
        let long : length (map (flip kind) (take p xs)) ≡ p = length-map (take p xs) (flip kind) ∙ length-take-le p xs (omega arith) in
        rw (e, drop-cons xs p (pos 0) here) (get_or_at (map (flip kind) (take p xs)) (get_or xs p (pos 0)) (drop (suc p) xs) (pos 0) p long ∙ reversed-at p h)

    pub half-more : p < k → (z : ℤ) → z ≡ flip kind (get_or s (k - 1 - p) (pos 0)) → set group p z ≡ half_turned kind k s (p + 1)
    half-more h z q =
        let x : ℤ = get_or s (k - 1 - p) (pos 0) in
        let here : p < length (reverse (take k s)) = rw reversed-length h in
        let within : p < length group = omega (arith, half-length) in
        let read : x ≡ get_or group p x = sym (half-at h) ∙ get_or_default group p (pos 0) x within in
        rw q (map_over_more (flip kind) (reverse (take k s)) group p x here e read)

    pub half-all : k ≤ p → group ++ drop k s ≡ turn_of kind k s
    unfolding turn_of
    half-all h =
        let xs : List ℤ = reverse (take k s) in
        let past : length xs ≤ p = omega (arith, reversed-length) in
        rw (e, take_all p xs past, drop_all p xs past, append-nil)

-- `job::coherence::row_fits` meets its contract: nothing is left of the number above its lowest G bits.
use mathlib.Core.Path.{◌≡◌, sym, ap, ◌∙◌}
use mathlib.Core.Logic.{◌⊎◌, inl, inr}
use mathlib.Core.Bool.{true}
use Prim.Native.Nat.{ℕ, ◌+◌, ◌*◌, ◌/◌, ◌%◌, ◌^◌, ◌≤◌, ◌<◌}
use native.Mathlib.Nat.{div-one, div-eq_of_lt, div-add-mod', mod-lt}
use native.Mathlib.Omega.{arith}
use borrow.Author.Tests.{lt-ltb, le-ltb, eq-eqb, ne_eqb}
use lib.Dec.{ltb, eqb}
use lib.Pow.{pow_pos}
use Rattle.base.proofs.Tests.{lt-or-ge}
use Rattle.search.specs.Segments.{segment_limit}
use Rattle.job.proofs.coherence.row_fits.Goals as goal

none_above : (x w : ℕ) → 0 < w → eqb (x / w) 0 ≡ ltb x w
none_above x w h = go (lt-or-ge x w)
  where
    go : (x < w) ⊎ (w ≤ x) → eqb (x / w) 0 ≡ ltb x w
    go (inl l) = eq-eqb (x / w) 0 (div-eq_of_lt l) ∙ sym (lt-ltb x w l)
    go (inr l) =
        ne_eqb (x / w) 0 (λ e. omega (arith, div-add-mod' x w, mod-lt x h, ap (λ (q : ℕ). q * w + x % w) e)) ∙ sym (le-ltb x w l)

none : (x : ℕ) → eqb x 0 ≡ ltb x 1
none x = ap (λ (q : ℕ). eqb q 0) (sym (div-one x)) ∙ none_above x 1 (pow_pos 0)

-- 64 bits are all that a number has
every : (x G : ℕ) → x < 2 ^ 64 → G ≡ segment_limit → true ≡ ltb x (2 ^ G)
every x G h e = sym (ap (λ (g : ℕ). ltb x (2 ^ g)) e ∙ lt-ltb x (2 ^ 64) h)

pub returns-then-segments-b : goal.returns-then-segments-b
returns-then-segments-b c = let a = c.args in rw (le-ltb a.b a.segments c.if-segments-b.true) (none a.row)

pub returns-then-segments-eq-SEGMENT_LIMIT : goal.returns-then-segments-eq-SEGMENT_LIMIT
returns-then-segments-eq-SEGMENT_LIMIT c =
    let a = c.args in
    let h = c.if-segments-eq-SEGMENT_LIMIT.true in
    rw (lt-ltb a.b a.segments c.if-segments-b.false, eq-eqb a.segments segment_limit h) (every a.row a.segments (omega arith) h)

pub returns-else-segments-eq-SEGMENT_LIMIT : goal.returns-else-segments-eq-SEGMENT_LIMIT
returns-else-segments-eq-SEGMENT_LIMIT c =
    let a = c.args in
    rw (lt-ltb a.b a.segments c.if-segments-b.false) (none_above a.row (2 ^ a.segments) (pow_pos a.segments))

-- Laws of frames: the bytes of a line as its characters have them, and panes place by place.
use mathlib.Core.Path.{◌≡◌, refl, sym, ap, ◌∙◌}
use mathlib.Core.Bool.{false}
use mathlib.Core.List.{List, [], ◌∷◌, ◌++◌, map}
use Prim.Native.Nat.{ℕ, suc, ◌+◌, ◌-◌, ◌*◌, ◌≤◌, ◌<◌}
use native.Mathlib.Numerals.{add-one}
use native.Mathlib.Omega.{arith}
use lib.IntN.{ℤ, pos}
use lib.ListN.{length, get_or, set, take, drop, replicate, length-map, length-drop}
use lib.Seq.{take-suc, take-length, length-take-le, get_or-take, get_or-drop, set_at, append_snoc}
use borrow.Author.Tests.{le-leb, lt-leb}
use Rattle.base.proofs.Lists.{map-append}
use Rattle.stacks.specs.Stack.{stack_places}
use Rattle.text.specs.Frame.{frame_limit, is_frame, pane_of, places_of}
use Rattle.text.specs.Hex.{is_pairs, bytes_of}
use Rattle.text.proofs.HexLaws.{bytes-length}

-- ---- panes

-- the places when p panes are placed
unfoldable pub placed_to : List ℕ → ℕ → List ℤ
placed_to bs p = map pane_of (take p bs) ++ replicate (stack_places - p) (pos 0)

pub placed-none : (bs : List ℕ) → replicate stack_places (pos 0) ≡ placed_to bs 0
unfolding placed_to
placed-none bs = refl

pub placed-more : (bs : List ℕ) (p : ℕ) (places : List ℤ) (z : ℤ) → p < length bs → p < stack_places → places ≡ placed_to bs p → z ≡ pane_of (get_or bs p 0)
    → set places p z ≡ placed_to bs (p + 1)
unfolding placed_to
placed-more bs p places z h l e q =
    let long : length (map pane_of (take p bs)) ≡ p = length-map (take p bs) pane_of ∙ length-take-le p bs (omega arith) in
    let zeros : replicate (stack_places - p) (pos 0) ≡ pos 0 ∷ replicate (stack_places - suc p) (pos 0) =
    ap (λ (k : ℕ). replicate k (pos 0)) (let k : stack_places - p ≡ suc (stack_places - suc p) = omega arith in k) in
    rw (e, zeros, add-one p, take-suc bs p 0 h, map-append pane_of (take p bs) (get_or bs p 0 ∷ []), ← q)
    (set_at (map pane_of (take p bs)) (pos 0) (replicate (stack_places - suc p) (pos 0)) z p long
    ∙ sym (append_snoc (map pane_of (take p bs)) z (replicate (stack_places - suc p) (pos 0))))

pub placed-all : (bs : List ℕ) (p : ℕ) (places : List ℤ) → p ≡ length bs → places ≡ placed_to bs p → places ≡ places_of bs
unfolding placed_to places_of
placed-all bs p places h e = e ∙ rw (h, take-length bs)

-- a part of a text's bytes, and what stands in it
module _ (cs : List ℕ) (i n : ℕ) where
  pub part_length : 2 * (i + n) ≤ length cs → length (take n (drop i (bytes_of cs))) ≡ n
  part_length h = length-take-le n (drop i (bytes_of cs)) (omega (arith, length-drop i (bytes_of cs), bytes-length cs))

  pub part_at : (p : ℕ) → p < n → get_or (take n (drop i (bytes_of cs))) p 0 ≡ get_or (bytes_of cs) (i + p) 0
  part_at p h = get_or-take n (drop i (bytes_of cs)) p 0 h ∙ get_or-drop i (bytes_of cs) p 0

-- ---- a frame's characters

-- within the limit, a frame is pairs of digits
pub pairs-is-frame : (cs : List ℕ) → length cs ≤ frame_limit → is_pairs cs ≡ is_frame cs
unfolding is_frame
pairs-is-frame cs h = rw (le-leb (length cs) frame_limit h)

pub overlong-none : (cs : List ℕ) → frame_limit < length cs → is_frame cs ≡ false
unfolding is_frame
overlong-none cs h = rw (lt-leb (length cs) frame_limit h)

-- Laws of the line in the making: what it says, and what is kept of a whole line.
--   kept_of cs      the line in the making when all of cs is pushed
use mathlib.Core.Path.{◌≡◌, refl, sym, ap, ap₂, ◌∙◌}
use mathlib.Core.Logic.{◌⊎◌, inl, inr}
use mathlib.Core.List.{List, [], ◌∷◌, ◌++◌, append-nil}
use Prim.Native.Nat.{ℕ, suc, ◌+◌, ◌≤◌, ◌<◌, min}
use native.Mathlib.Numerals.{add-one}
use native.Mathlib.Omega.{arith}
use lib.ListN.{length, set, take, length-append, length-take, length-set}
use lib.Seq.{set_out, take-append-le, take-suc-set, append_snoc}
use Rattle.base.proofs.Tests.{lt-or-ge}
use Rattle.text.specs.Frame.{frame_limit}
use Rattle.text.specs.Kept.{new_line, pushed, text_of}
use Rattle.text.specs.declared.Line.{Line}

abbrev line-with : List ℕ → ℕ → Line
line-with chars length = record { chars = chars; length = length }

-- a character more, as code stores it
pub push-stored : (line : Line) (c : ℕ) → line.length < frame_limit
    → ◌≡◌ {A = Line} (record { chars = set line.chars line.length c; length = line.length + 1 }) (pushed line c)
unfolding pushed
push-stored line c h =
    ap (line-with (set line.chars line.length c)) (let e : line.length + 1 ≡ min (line.length + 1) (suc frame_limit) = omega arith in e)

pub push-counted : (line : Line) (c : ℕ) → length line.chars ≡ frame_limit → frame_limit ≤ line.length
    → ◌≡◌ {A = Line} (record { chars = line.chars; length = suc frame_limit }) (pushed line c)
unfolding pushed
push-counted line c w h =
    ap₂ line-with (sym (set_out line.chars line.length c (omega arith))) (let e : suc frame_limit ≡ min (line.length + 1) (suc frame_limit) = omega arith in e)

module _ (line : Line) (w : length line.chars ≡ frame_limit) where
  pub text-length : length (text_of line) ≡ min line.length (suc frame_limit)
  unfolding text_of
  text-length = length-take line.length (line.chars ++ (0 ∷ [])) ∙ omega (arith, length-append line.chars (0 ∷ []))

  pub text-short : line.length ≤ frame_limit → text_of line ≡ take line.length line.chars
  unfolding text_of
  text-short h = take-append-le line.length line.chars (0 ∷ []) (omega arith)

-- ---- what is kept of a whole line

unfoldable pub pushed_all : Line → List ℕ → Line
pushed_all line [] = line
pushed_all line (c ∷ cs) = pushed_all (pushed line c) cs

unfoldable pub kept_of : List ℕ → Line
kept_of cs = pushed_all new_line cs

pushed-append : (line : Line) (cs ds : List ℕ) → pushed_all line (cs ++ ds) ≡ pushed_all (pushed_all line cs) ds
unfolding pushed_all
pushed-append line [] ds = refl
pushed-append line (c ∷ cs) ds = pushed-append (pushed line c) cs ds

pub kept_more : (cs : List ℕ) (c : ℕ) → pushed (kept_of cs) c ≡ kept_of (cs ++ (c ∷ []))
unfolding kept_of pushed_all
kept_more cs c = sym (pushed-append new_line cs (c ∷ []))

-- line holds what is kept of cs: all of it up to frame_limit characters, and how many there are, up to (suc frame_limit)
pub record Keeps (cs : List ℕ) (line : Line) : Type 0 where
  pub wide : length line.chars ≡ frame_limit
  pub counted : line.length ≡ min (length cs) (suc frame_limit)
  pub short : length cs ≤ frame_limit → take (length cs) line.chars ≡ cs

keeps-none : Keeps [] new_line
unfolding new_line
keeps-none = record { wide = refl; counted = refl; short = λ h. refl }

keeps-more : (cs : List ℕ) (line : Line) (c : ℕ) → Keeps cs line → Keeps (cs ++ (c ∷ [])) (pushed line c)
unfolding pushed
keeps-more cs line c k =
    let e : length (cs ++ (c ∷ [])) ≡ suc (length cs) = length-append cs (c ∷ []) ∙ add-one (length cs) in
    record {
      wide = length-set line.chars line.length c ∙ k.wide;
      counted = omega (arith, k.counted);
      short = λ h.
          let here : line.length ≡ length cs = omega (arith, k.counted) in
          rw (e, here) (take-suc-set line.chars (length cs) c (omega (arith, k.wide)) ∙ ap (λ (l : List ℕ). l ++ (c ∷ [])) (k.short (omega arith)));
    }

keeps-all : (cs : List ℕ) (line : Line) (ds : List ℕ) → Keeps cs line → Keeps (cs ++ ds) (pushed_all line ds)
unfolding pushed_all
keeps-all cs line [] k = rw (append-nil cs) k
keeps-all cs line (d ∷ ds) k = rw (← append_snoc cs d ds) (keeps-all (cs ++ (d ∷ [])) (pushed line d) ds (keeps-more cs line d k))

pub kept : (cs : List ℕ) → Keeps cs (kept_of cs)
unfolding kept_of
kept cs = keeps-all [] new_line cs keeps-none

text-kept : (cs : List ℕ) → length cs ≤ frame_limit → text_of (kept_of cs) ≡ cs
text-kept cs h =
    let e : (kept_of cs).length ≡ length cs = omega (arith, (kept cs).counted) in
    text-short (kept_of cs) (kept cs).wide (omega arith) ∙ ap (λ (k : ℕ). take k (kept_of cs).chars) e ∙ (kept cs).short h

text-overlong : (cs : List ℕ) → frame_limit < length cs → frame_limit < length (text_of (kept_of cs))
text-overlong cs h = omega (arith, text-length (kept_of cs) (kept cs).wide, (kept cs).counted)

-- whatever says one thing of all overlong lines says the same of what is kept as of the whole line
pub kept-says : {A : Type 0} (f : List ℕ → A) (a : A) → ((ds : List ℕ) → frame_limit < length ds → f ds ≡ a)
    → (cs : List ℕ) → f (text_of (kept_of cs)) ≡ f cs
kept-says f a one cs = go (lt-or-ge frame_limit (length cs))
  where
    go : (frame_limit < length cs) ⊎ (length cs ≤ frame_limit) → f (text_of (kept_of cs)) ≡ f cs
    go (inl h) = one (text_of (kept_of cs)) (text-overlong cs h) ∙ sym (one cs h)
    go (inr h) = ap f (text-kept cs h)

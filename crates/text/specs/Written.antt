-- What code's functions promise one another of a text that they write into a lent buffer, whose other bytes stay.
--   text_limit          the room of a lent text
--   over text before   what a buffer holds after text is written at its front
use Rattle.std.specs.Prelude.{◌≡◌, List, ◌++◌, ℕ, ◌+◌, ◌≤◌, length, take, drop}

abbrev pub text_limit : ℕ
text_limit = 3072

unfoldable pub over : List ℕ → List ℕ → List ℕ
over text before = text ++ drop (length text) before

-- text stands from place at on in what was before, and r is the place after it
pub record Put (text : List ℕ) (at : ℕ) (before after : List ℕ) (r : ℕ) : Type 0 where
  pub front : after ≡ take at before ++ text ++ drop (at + length text) before
  pub end : r ≡ at + length text

-- text stands at the front of what was before, and r is how long it is. The last two follow from these; with them a caller's part
-- of the first r bytes needs no proof
pub record Wrote (text before after : List ℕ) (r : ℕ) : Type 0 where
  pub front : after ≡ over text before
  pub count : r ≡ length text
  pub within : r ≤ length after
  pub part : r ≡ length (take r after)

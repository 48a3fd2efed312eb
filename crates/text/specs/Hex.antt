-- Hexadecimal text (document 01, "The report"): lower-case digits, two a byte, the higher first. A character is its number in ASCII.
--   is_digit c      c is one of 0 to 9 and a to f
--   digit_of c      the value of a digit's character, 0 where it is none
--   digit_char d    the character of a digit's value
--   is_byte b       a number that one byte says
--   is_pairs cs     a text is pairs of digits
--   bytes_of cs     the bytes that pairs of digits say
--   hex_of bs       the digits of bytes
--   line_of bs      a line of output
--   number_of bs    the number that bytes say, high byte first
--   four_bytes x    a number in four bytes, high byte first: x modulo 2 ^ 32
use Rattle.std.specs.Prelude.{Bool, ◌&&◌, ◌||◌, cond, List, [], ◌∷◌, ◌++◌, ℕ, ◌+◌, ◌-◌, ◌*◌, ◌/◌, ◌%◌, leb, ltb, eqb, length}
use Rattle.base.specs.Words.{all}

unfoldable pub is_digit : ℕ → Bool
is_digit c = (leb 48 c && leb c 57) || (leb 97 c && leb c 102)

unfoldable pub digit_of : ℕ → ℕ
digit_of c = cond (is_digit c) (cond (leb c 57) (c - 48) (c - 87)) 0

unfoldable pub digit_char : ℕ → ℕ
digit_char d = cond (ltb d 10) (d + 48) (d + 87)

unfoldable pub is_byte : ℕ → Bool
is_byte b = ltb b 256

unfoldable pub is_pairs : List ℕ → Bool
is_pairs cs = eqb (length cs % 2) 0 && all is_digit cs

unfoldable pub bytes_of : List ℕ → List ℕ
bytes_of [] = []
bytes_of (a ∷ []) = []
bytes_of (a ∷ b ∷ cs) = (digit_of a * 16 + digit_of b) ∷ bytes_of cs

unfoldable pub hex_of : List ℕ → List ℕ
hex_of [] = []
hex_of (b ∷ bs) = digit_char (b / 16) ∷ digit_char (b % 16) ∷ hex_of bs

unfoldable pub line_of : List ℕ → List ℕ
line_of bs = hex_of bs ++ (10 ∷ [])

unfoldable pub number_from : ℕ → List ℕ → ℕ
number_from high [] = high
number_from high (b ∷ bs) = number_from (high * 256 + b) bs

unfoldable pub number_of : List ℕ → ℕ
number_of bs = number_from 0 bs

unfoldable pub four_bytes : ℕ → List ℕ
four_bytes x = x / 16777216 % 256 ∷ x / 65536 % 256 ∷ x / 256 % 256 ∷ x % 256 ∷ []

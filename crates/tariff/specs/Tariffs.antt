-- A tariff: which lines it may have, and what a turn costs by it (document 02, F-1). Sizes are those of the groups that turns lift, k of turn k.
--   tariff_lines    the lines of a tariff, in their order
--   is_line         what 17 asks of a line; last is the last size
--   lines_at        how many lines cover size k
--   price_at        what a turn of size k costs, in thousandths of a penny
use Rattle.std.specs.Prelude.{Bool, ◌&&◌, cond, List, [], ◌∷◌, ℕ, leb, take}
use Rattle.base.specs.Words.{unless, all, tally, from}
use Rattle.tariff.specs.declared.Line.{Line}
use Rattle.tariff.specs.declared.Tariff.{Tariff}

-- the limits: the lines of a tariff, and the price of a line
abbrev pub line_limit : ℕ
line_limit = 12

abbrev pub price_limit : ℕ
price_limit = 1000000

abbrev pub tariff_line : ℕ → ℕ → ℕ → Line
tariff_line first last price = record { first = first; last = last; price = price }

unfoldable pub tariff_lines : Tariff → List Line
tariff_lines tariff = take tariff.count tariff.lines

-- it does not start at 0, end before it starts, end above the last size or exceed the price limit
unfoldable pub is_line : ℕ → Line → Bool
is_line last line = leb 1 line.first && leb line.first line.last && leb line.last last && leb line.price price_limit

-- size k is among those from the line's first to its last
unfoldable pub covers : ℕ → Line → Bool
covers k line = leb line.first k && leb k line.last

unfoldable pub lines_at : List Line → ℕ → ℕ
lines_at lines k = tally (covers k) lines

unfoldable pub has_line : List Line → ℕ → Bool
has_line lines k = leb 1 (lines_at lines k)

unfoldable pub has_no_second : List Line → ℕ → Bool
has_no_second lines k = leb (lines_at lines k) 1

-- 18 when a size has no line, 19 when a size has two
unfoldable pub cover_refusal : List Line → List ℕ → ℕ
cover_refusal lines ks = unless (all (has_line lines) ks) 18 (unless (all (has_no_second lines) ks) 19 0)

-- 17 when there are too many lines or one is wrong, and then the sizes from 1 to the last
unfoldable pub tariff_refusal : ℕ → Tariff → ℕ
tariff_refusal last tariff =
    unless (leb tariff.count line_limit) 17
    (unless (all (is_line last) (tariff_lines tariff)) 17 (cover_refusal (tariff_lines tariff) (from 1 last)))

-- the price of the line that covers size k, and 0 where none does: by a tariff that is not refused, only for what is no size
unfoldable pub price_at : List Line → ℕ → ℕ
price_at [] k = 0
price_at (line ∷ lines) k = cond (covers k line) line.price (price_at lines k)

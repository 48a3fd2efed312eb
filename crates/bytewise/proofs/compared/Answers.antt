-- `bytewise::compared` lends its bytes whole: their count is not worked out one by one.
use Rattle.std.proofs.Common.{◌≡◌, ℕ, length, replicate, sym}
use Rattle.std.proofs.lemmas.List.{length-replicate}
use Rattle.bytewise.proofs.compared.Goals as goal

-- so many of one number are so many
count_of : (n x : ℕ) → n ≡ length (replicate n x)
count_of n x = sym (length-replicate n x)

pub slice_bounds-searched_in-end-2 : goal.slice_bounds-searched_in-end-2
slice_bounds-searched_in-end-2 c = count_of 645120 255

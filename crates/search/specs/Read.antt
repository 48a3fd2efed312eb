-- Read an entry.
use Rattle.std.specs.Prelude.{cond, List, ℕ, ltb, eqb, length}
use Rattle.base.specs.Words.{unless}
use Rattle.stacks.specs.Stack.{stack_count}
use Rattle.stacks.specs.Operations.{kind_refusal}
use Rattle.search.specs.Entries.{bytes_for, entry_at}
use Rattle.search.specs.Answers.{Entry}

-- 1, 2, 10 for the table's length, then 4 for the index
unfoldable pub read_refusal : ℕ → ℕ → ℕ → ℕ → ℕ
read_refusal kind n bytes i =
    kind_refusal kind n
    (unless (eqb bytes (bytes_for (stack_count kind n))) 10 (unless (ltb i (stack_count kind n)) 4 0))

unfoldable pub read_of : ℕ → ℕ → List ℕ → ℕ → Entry
read_of kind n table i =
    let r = read_refusal kind n (length table) i in record { refusal = r; entry = cond (eqb r 0) (entry_at table i) 0 }

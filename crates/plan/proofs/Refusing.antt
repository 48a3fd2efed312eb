-- The rows of refusals as the code goes through them: where a check answers an error it is the longer row's, and else what is behind it decides.
use mathlib.Core.Path.{◌≡◌, refl, sym, ◌∙◌}
use mathlib.Core.Bool.{true, false}
use mathlib.Core.List.{List}
use Prim.Native.Nat.{ℕ, ◌/◌, ◌<◌, ◌≤◌}
use lib.Dec.{leb, ltb, eqb}
use lib.IntN.{ℤ}
use borrow.Author.Tests.{eq-eqb, ne_eqb, le-leb, lt-leb}
use Rattle.base.specs.Words.{unless}
use Rattle.base.proofs.Rows.{check, equal, below, ◌and_then◌}
use Rattle.stacks.specs.Operations.{kind_refusal, index_refusal}
use Rattle.stacks.specs.Refusals.{number}
use Rattle.stacks.specs.Stack.{is_stack, stack_count}
use Rattle.stacks.specs.Turn.{is_group_set}
use Rattle.stacks.specs.declared.refusal.Refusal.{Refusal}
use Rattle.stacks.proofs.Numbers.{number-some, row-errs, row-oks}
use Rattle.stacks.proofs.Refusals.{kind_row, stack-row}
use Rattle.search.specs.Entries.{bytes_for}
use Rattle.search.specs.Plan.{plan_limit, plan_row}
use Rattle.search.specs.Read.{read_refusal}
use Rattle.search.proofs.EntryLaws.{byte_inside}

-- ---- Read an entry's, behind the kind's
module _ (kind n bytes i : ℕ) where
  pub read-err : (r : Refusal) → number r ≡ kind_refusal kind n 0 → number r ≡ read_refusal kind n bytes i
  unfolding read_refusal
  read-err r e = row-errs (kind_row kind n) _ r e

  pub read-ok : 0 ≡ kind_refusal kind n 0
      → read_refusal kind n bytes i ≡ unless (eqb bytes (bytes_for (stack_count kind n))) 10 (unless (ltb i (stack_count kind n)) 4 0)
  unfolding read_refusal
  read-ok e = sym (row-oks (kind_row kind n) _ e)

  -- an entry that is read stands in the table
  pub read-inside : 0 ≡ read_refusal kind n bytes i → i / 4 < bytes
  unfolding read_refusal
  read-inside h =
      let count = stack_count kind n in
      let f = (kind_row kind n and_then equal bytes (bytes_for count) 10 refl and_then below i count 4 refl).asks (sym h) in
      rw f.1.0 (byte_inside i count f.1.1)

pub ruleset read_rows = (read-err, read-ok)

pub ruleset entry_rows = (read-inside, number-some)

-- ---- a question's, behind the kind's and the wanted stack's
module _ (kind n : ℕ) (wanted given : List ℤ) (groups bytes slots : ℕ) where
  abbrev row : ℕ
  row = plan_row kind n wanted given groups bytes slots 0

  abbrev length_row : ℕ
  length_row = unless (eqb bytes (bytes_for (stack_count kind n))) 10 (unless (leb plan_limit slots) 10 0)

  pub wanted-err : (r : Refusal) → number r ≡ index_refusal kind n wanted → number r ≡ row
  unfolding plan_row index_refusal
  wanted-err r e = row-errs (stack-row kind n wanted) _ r e

  module _ (w : 0 ≡ index_refusal kind n wanted) where
    wanted-ok : row ≡ unless (is_stack kind n given) 3 (unless (is_group_set kind n groups) 21 length_row)
    unfolding plan_row index_refusal
    wanted-ok = sym (row-oks (stack-row kind n wanted) _ w)

    pub given-none : is_stack kind n given ≡ false → 3 ≡ row
    given-none h = sym (wanted-ok ∙ rw h)

    module _ (g : is_stack kind n given ≡ true) where
      given-ok : row ≡ unless (is_group_set kind n groups) 21 length_row
      given-ok = wanted-ok ∙ rw g

      pub set-err : (r : Refusal) → number r ≡ unless (is_group_set kind n groups) 21 0 → number r ≡ row
      set-err r e = row-errs (check (is_group_set kind n groups) 21 refl) length_row r e ∙ sym given-ok

      module _ (s : 0 ≡ unless (is_group_set kind n groups) 21 0) where
        set-ok : length_row ≡ row
        set-ok = row-oks (check (is_group_set kind n groups) 21 refl) length_row s ∙ sym given-ok

        pub bytes-none : (bytes ≡ bytes_for (stack_count kind n) → ⊥) → 10 ≡ row
        bytes-none h = rw (ne_eqb bytes (bytes_for (stack_count kind n)) h) at set-ok

        module _ (b : bytes ≡ bytes_for (stack_count kind n)) where
          pub slots-none : slots < plan_limit → 10 ≡ row
          slots-none h = rw (eq-eqb bytes (bytes_for (stack_count kind n)) b, lt-leb plan_limit slots h) at set-ok

          pub asked-none : plan_limit ≤ slots → 0 ≡ row
          asked-none h = rw (eq-eqb bytes (bytes_for (stack_count kind n)) b, le-leb plan_limit slots h) at set-ok

-- One character more of a part of the input, and what stands beside an error.
use mathlib.Core.Path.{◌≡◌, sym, ap, ap₂, ◌∙◌}
use mathlib.Core.List.{List, [], ◌∷◌}
use Prim.Native.Nat.{ℕ, ◌+◌, ◌<◌}
use native.Mathlib.Numerals.{add-one}
use lib.ListN.{length, get_or, take}
use lib.Seq.{take-suc}
use Rattle.std.specs.Prelude.{Result, Ok, Err, OnErr}
use Rattle.text.specs.Reader.{byte_read, read_all, Shown}
use Rattle.text.specs.declared.Printed.{Printed}
use Rattle.text.specs.declared.Reader.{Reader}
use Rattle.text.proofs.ReadLaws.{read-on}

-- what holds in any case holds beside an error
pub on-err : {T E P : Type 0} (r : Result T E) → P → OnErr r P
on-err (Ok x) p = tt
on-err (Err e) p = p

-- a character is a part of its own
read-one : (reader : Reader) (table : List ℕ) (c : ℕ) (r : Printed) (table' before after : List ℕ) → Shown (byte_read reader c table) r table' before after
    → (r.reader, table') ≡ read_all reader table (c ∷ [])
unfolding read_all
read-one reader table c r table' before after shown = ap₂ (λ (x : Reader) (t : List ℕ). (x, t)) shown.reads shown.kept

pub read-next : (start now : Reader) (table held cs : List ℕ) (i : ℕ) (r : Printed) (table' before after : List ℕ) → i < length cs
    → (now, held) ≡ read_all start table (take i cs) → Shown (byte_read now (get_or cs i 0) held) r table' before after
    → (r.reader, table') ≡ read_all start table (take (i + 1) cs)
read-next start now table held cs i r table' before after h so-far shown =
    read-on start now r.reader table held table' (take i cs) (get_or cs i 0 ∷ []) so-far (read-one now held (get_or cs i 0) r table' before after shown)
    ∙ ap (λ (l : List ℕ). read_all start table l) (sym (rw (add-one i) (take-suc cs i 0 h)))

-- Rows of refusals, `unless t1 r1 (unless t2 r2 (.. rest))`, as functions of the rest. A row has one law, which each test has, and so have rows that
-- stand one behind the other: where what the row asks holds the rest decides, and elsewhere it refuses, whatever the rest.
--   or_else r rest    the refusal r, and what the rest says where r is 0
--   Row row Asks     the law, of a row and what it asks
use mathlib.Core.Path.{◌≡◌, refl, sym, ap, ◌∙◌}
use mathlib.Core.Logic.{◌↔◌}
use mathlib.Core.Bool.{Bool, true, false, not, cond, false≢true}
use Prim.Native.Nat.{ℕ, zero, suc, ◌<◌, ◌≤◌}
use native.Mathlib.Nat.{suc-ne-zero}
use lib.Dec.{leb, ltb, eqb}
use borrow.Author.Tests.{leb-true, le-leb, ltb-true, lt-ltb, eqb-true, eq-eqb, eqb-false, ne_eqb, not-true}
use Rattle.base.specs.Words.{unless}

abbrev pub or_else : ℕ → ℕ → ℕ
or_else r rest = cond (eqb r 0) rest r

-- a refusal stays
refused : (a rest : ℕ) → or_else (suc a) rest ≡ suc a
refused a rest = ap (λ (t : Bool). cond t rest (suc a)) (ne_eqb (suc a) 0 (suc-ne-zero a))

else-none : (r : ℕ) → or_else r 0 ≡ r
else-none zero = refl
else-none (suc r) = refused r 0

else-else : (a b rest : ℕ) → or_else a (or_else b rest) ≡ or_else (or_else a b) rest
else-else zero b rest = refl
else-else (suc a) b rest = refused a (or_else b rest) ∙ sym (ap (λ (r : ℕ). or_else r rest) (refused a b) ∙ refused a rest)

else-zero : (a b : ℕ) → or_else a b ≡ 0 → (a ≡ 0) × (b ≡ 0)
else-zero zero b h = (refl, h)
else-zero (suc a) b h = absurd (suc-ne-zero a (sym (refused a b) ∙ h))

pub record Row (row : ℕ → ℕ) (Asks : Type 0) : Type 0 where
  pub says : (rest : ℕ) → row rest ≡ or_else (row 0) rest
  pub asks : row 0 ≡ 0 → Asks
  pub accepts : Asks → row 0 ≡ 0

module _ {row : ℕ → ℕ} {Asks : Type 0} (law : Row row Asks) where
  -- a row that refuses nothing goes on with the rest
  pub row_on : Asks → (rest : ℕ) → row rest ≡ rest
  row_on f rest = law.says rest ∙ ap (λ (r : ℕ). or_else r rest) (law.accepts f)

  -- what holds where nothing is refused
  pub row-facts : (rest : ℕ) → row rest ≡ 0 → Asks × (rest ≡ 0)
  row-facts rest h =
      let z = else-zero (row 0) rest (sym (law.says rest) ∙ h) in
      (law.asks z.0, z.1)

  -- a row with nothing behind it
  pub row_ends : (row 0 ≡ 0) ↔ Asks
  row_ends = (law.asks, law.accepts)

  -- as code goes through it: r is what the row says by itself
  module _ (rest r : ℕ) (e : r ≡ row 0) where
    pub row-refuses : (r ≡ 0 → ⊥) → r ≡ row rest
    row-refuses h = sym (law.says rest ∙ ap (λ (k : ℕ). or_else k rest) (sym e) ∙ ap (λ (t : Bool). cond t rest r) (ne_eqb r 0 h))

    pub row-goes-on : r ≡ 0 → rest ≡ row rest
    row-goes-on h = sym (law.says rest ∙ ap (λ (k : ℕ). or_else k rest) (sym e ∙ h))

-- ---- the tests

pub check : (ok : Bool) (r : ℕ) → eqb r 0 ≡ false → Row (unless ok r) (ok ≡ true)
check true r some = record { says = λ rest. refl; asks = λ h. refl; accepts = λ h. refl }
check false r some =
    record {
      says = λ rest. sym (ap (λ (t : Bool). cond t rest r) some);
      asks = λ h. absurd (eqb-false r 0 some h);
      accepts = λ h. absurd (false≢true h);
    }

-- a row that asks the same in other words
pub asking : {row : ℕ → ℕ} {P Q : Type 0} → Row row P → (P → Q) → (Q → P) → Row row Q
asking law there back = record { says = law.says; asks = λ h. there (law.asks h); accepts = λ q. law.accepts (back q) }

pub equal : (a b r : ℕ) → eqb r 0 ≡ false → Row (unless (eqb a b) r) (a ≡ b)
equal a b r some = asking (check (eqb a b) r some) (eqb-true a b) (eq-eqb a b)

pub below : (a b r : ℕ) → eqb r 0 ≡ false → Row (unless (ltb a b) r) (a < b)
below a b r some = asking (check (ltb a b) r some) (ltb-true a b) (lt-ltb a b)

pub at_most : (a b r : ℕ) → eqb r 0 ≡ false → Row (unless (leb a b) r) (a ≤ b)
at_most a b r some = asking (check (leb a b) r some) (leb-true a b) (le-leb a b)

pub fails : (bad : Bool) (r : ℕ) → eqb r 0 ≡ false → Row (unless (not bad) r) (bad ≡ false)
fails bad r some = asking (check (not bad) r some) (not-true bad) (ap not)

-- another row's number, as the first of a row
pub first : (r : ℕ) → Row (or_else r) (r ≡ 0)
first r =
    record {
      says = λ rest. ap (λ (k : ℕ). or_else k rest) (sym (else-none r));
      asks = λ h. sym (else-none r) ∙ h;
      accepts = λ h. else-none r ∙ h;
    }

-- ---- one behind the other

infixr 5 ◌and_then◌
pub ◌and_then◌ : {f g : ℕ → ℕ} {P Q : Type 0} → Row f P → Row g Q → Row (λ rest. f (g rest)) (P × Q)
◌and_then◌ {f} {g} F G =
    record {
      says = λ rest. F.says (g rest) ∙ ap (or_else (f 0)) (G.says rest) ∙ else-else (f 0) (g 0) rest
          ∙ ap (λ (r : ℕ). or_else r rest) (sym (F.says (g 0)));
      asks = λ h. let z = else-zero (f 0) (g 0) (sym (F.says (g 0)) ∙ h) in (F.asks z.0, G.asks z.1);
      accepts = λ h. F.says (g 0) ∙ ap (λ (r : ℕ). or_else r (g 0)) (F.accepts h.0) ∙ G.accepts h.1;
    }

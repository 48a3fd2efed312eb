-- Load, refused and accepted, and a changed list as code fills it: byte by byte, and each byte bit by bit.
use mathlib.Core.Path.{◌≡◌, refl, sym, ap, ◌∙◌}
use mathlib.Core.Bool.{Bool, true, false}
use mathlib.Core.List.{List, [], ◌∷◌, ◌++◌, map, append-nil}
use Prim.Native.Nat.{ℕ, suc, ◌+◌, ◌-◌, ◌*◌, ◌%◌, ◌^◌, ◌<◌, ◌≤◌}
use native.Mathlib.Nat.{add-zero, zero-add, one-mul, pow-suc}
use native.Mathlib.Numerals.{add-one}
use native.Mathlib.Omega.{arith}
use lib.Dec.{eqb}
use lib.ListN.{length, get_or, set, drop, length-map, drop_of_length-le}
use lib.Pow.{pow_mono, shl_exact}
use lib.Seq.{drop-cons, set_at, append_snoc}
use Rattle.base.specs.Words.{from}
use Rattle.stacks.specs.Refusals.{number}
use Rattle.stacks.specs.declared.refusal.Refusal.{Refusal}
use Rattle.stacks.proofs.Numbers.{number-some}
use Rattle.search.specs.Changed.{list_bytes, list_of}
use Rattle.search.specs.Entries.{bytes_for, entry_at}
use Rattle.search.specs.Expand.{is_parent}
use Rattle.search.specs.JobState.{level_of, stack_count_of, stack_count_at, directed}
use Rattle.search.specs.Load.{load_refusal, changed_of, load_of}
use Rattle.search.specs.Segments.{segment_limit, most_size}
use Rattle.search.specs.Terms.{begin_refusal}
use Rattle.search.specs.declared.Job.{Job}
use Rattle.search.proofs.Accepted.{LoadFacts, load-facts, load-accepted, load-refused}
use Rattle.search.proofs.SegmentLaws.{stack_count_in-le}
use Rattle.job.proofs.Bounds.{Bounds, coherent-begins, coherent-bounds, reverse-least, segment-below}
use Rattle.calls.proofs.Rows.{stacks_are}
use Rattle.search.proofs.ChangedLaws.{bits_to, bits-more, bits-lt}
use Rattle.base.proofs.Lists.{map-append, from-length, from_more}

-- ---- the bits of a byte

-- one shifted up loses nothing
pub one_up : (t : ℕ) → t < 8 → 1 * 2 ^ t % 256 ≡ 2 ^ t
one_up t h = shl_exact {a = 1} 1 t 8 (omega arith) (omega arith) ∙ one-mul (2 ^ t)

module _ (is_set : ℕ → Bool) where
  -- the next one is within a byte too
  pub bits-byte : (t byte : ℕ) → t < 8 → byte ≡ bits_to is_set t → byte + 2 ^ t < 256
  bits-byte t byte h e =
      omega (arith, e, bits-lt is_set t, pow-suc 2 t, pow_mono {i = suc t} {j = 8} h)

  module _ (t byte : ℕ) (e : byte ≡ bits_to is_set t) where
    pub bit-set : is_set t ≡ true → byte + 2 ^ t ≡ bits_to is_set (t + 1)
    bit-set h = rw (add-one t, bits-more is_set t, h, e)

    pub bit-clear : is_set t ≡ false → byte ≡ bits_to is_set (t + 1)
    bit-clear h = rw (add-one t, bits-more is_set t, h, e) (sym (add-zero (bits_to is_set t)))

-- ---- a list that is filled from the front by a function of the place

module _ (f : ℕ → ℕ) (d : List ℕ) where
  abbrev pub filled_to : ℕ → List ℕ
  filled_to k = map f (from 0 k) ++ drop k d

  pub filled_none : d ≡ filled_to 0
  unfolding from
  filled_none = refl

  pub filled_more : (k : ℕ) → k < length d → set (filled_to k) k (f k) ≡ filled_to (k + 1)
  filled_more k h =
      let front : List ℕ = map f (from 0 k) in
      rw (drop-cons d k 0 h, add-one k)
      (set_at front (get_or d k 0) (drop (suc k) d) (f k) k (length-map (from 0 k) f ∙ from-length 0 k)
      ∙ sym (append_snoc front (f k) (drop (suc k) d))
      ∙ ap (λ (xs : List ℕ). xs ++ drop (suc k) d)
      (sym (ap (map f) (from_more 0 k ∙ ap (λ (x : ℕ). from 0 k ++ (x ∷ [])) (zero-add k)) ∙ map-append f (from 0 k) (k ∷ []))))

  pub filled-all : (k : ℕ) → k ≡ length d → filled_to k ≡ map f (from 0 (length d))
  filled-all k h =
      ap (λ (xs : List ℕ). map f (from 0 k) ++ xs) (drop_of_length-le d (let l : length d ≤ k = omega arith in l))
      ∙ append-nil (map f (from 0 k))
      ∙ ap (λ (n : ℕ). map f (from 0 n)) h

-- ---- Load, refused and accepted

module _ (job : Job) (b : ℕ) (segment list : List ℕ) where
  pub load_errs : (r : Refusal) → number r ≡ load_refusal job b (length segment) (length list)
      → load_of job b segment list ≡ (list, record { refusal = number r; job = job })
  load_errs r e = rw e (load-refused job b segment list (λ z. number-some r (e ∙ z)))

  module _ (h : 0 ≡ load_refusal job b (length segment) (length list)) where
    facts : LoadFacts job b (length segment) (length list)
    facts = load-facts job b (length segment) (length list) (sym h)

    bounds : Bounds job
    bounds = coherent-bounds job facts.called.coherent

    pub load_begins : begin_refusal job.terms ≡ 0
    load_begins = coherent-begins job facts.called.coherent

    pub load_below : b < segment_limit
    load_below = segment-below job facts.called.coherent b facts.called.inside

    pub load_level : 1 ≤ level_of job.phase
    load_level = reverse-least job facts.called.coherent facts.called.in-phase

    pub load_long : length segment ≡ bytes_for (stack_count_at job b)
    load_long = facts.long

    pub load_wide : length list ≡ list_bytes (stack_count_at job b)
    load_wide = facts.wide

    pub load_few : stack_count_at job b ≤ most_size
    unfolding stack_count_at stack_count_of
    load_few = omega (arith, bounds.small, stack_count_in-le (stack_count_of job) job.terms.size bounds.some b)

    pub load_oks : load_of job b segment list ≡ (
      list_of (stack_count_at job b) (λ i. eqb (entry_at segment i) ((level_of job.phase - 1) % 3)),
      record { refusal = 0; job = directed job job.way b job.swept },
    )
    unfolding changed_of is_parent
    load_oks = load-accepted job b segment list (sym h)

pub ruleset load_rows = (load_errs, load_begins, load_below, load_level, load_long, load_wide, load_few, load_oks, stacks_are)

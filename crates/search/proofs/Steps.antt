-- Every call, accepted or refused, keeps the invariant, and so does every list of calls; so in every build what is lent wrong is refused.
use mathlib.Core.Path.{◌≡◌, sym, ap, ◌∙◌, subst}
use mathlib.Core.Logic.{◌⊎◌, inl, inr}
use mathlib.Core.Bool.{true, false≢true}
use mathlib.Core.List.{List, [], ◌∷◌}
use Prim.Native.Nat.{ℕ}
use lib.ListN.{length, get_or}
use Rattle.base.proofs.Tests.{never, eq-or-ne}
use Rattle.search.specs.Build.{World, Call, own, other, do_blank, do_expand, do_settle, do_look, do_load, do_sweep, do_close, lent, kept, lent_list, is_own, is_lent_own, outcome, after}
use Rattle.search.specs.JobState.{is_level}
use Rattle.search.specs.Promise.{right_lengths}
use Rattle.search.specs.PromiseCalls.{WrongRefused}
use Rattle.search.specs.declared.Terms.{Terms}
use Rattle.search.proofs.Accepted.{forward-level, reverse-level, expand-facts, settle-facts, load-facts, sweep-facts}
use Rattle.search.proofs.BlankKeeps.{begun-invariant, blank-world, blank-keeps}
use Rattle.search.proofs.BuildCoherent.{invariant-coherent}
use Rattle.search.proofs.CloseKeeps.{close-world, close-keeps}
use Rattle.search.proofs.Coherence.{begin-given}
use Rattle.search.proofs.ExpandKeeps.{expand-keeps}
use Rattle.search.proofs.Invariant.{Invariant, InPhase, blanking, searching, ended}
use Rattle.search.proofs.Refused.{refusal_of, refusal_is, refused-same, accepted-own, refuses-wrong}
use Rattle.search.proofs.LoadKeeps.{load-keeps}
use Rattle.search.proofs.SettleKeeps.{settle-keeps}
use Rattle.search.proofs.SweepKeeps.{sweep-keeps}
use Rattle.search.proofs.Staging.{Searching}
use Rattle.search.proofs.Given.{Given}

module _ {terms : Terms} {w : World} where
  -- in a level the invariant is that of the search
  invariant-searching : Invariant terms w → is_level w.job.phase ≡ true → (d : ℕ) × Searching terms w d
  unfolding is_level
  invariant-searching invariant level = go invariant.phase
    where
      go : InPhase terms w
          → (d : ℕ) × Searching terms w d
      go (blanking s) = never level (ap is_level s.phase_is)
      go (searching d s) = (d, record { shaped = invariant.shaped; searches = s })
      go (ended d s) = never level (ap is_level s.phase_is)

  searching-invariant : {d : ℕ} → Searching terms w d → Invariant terms w
  searching-invariant {d} s = record { shaped = s.shaped; phase = searching d s.searches }

module _ {terms : Terms} (given : Given terms) where
  module _ {w : World} (invariant : Invariant terms w) where
    -- a call lent the build's own, and accepted
    own-keeps : (call : Call (right_lengths terms)) → refusal_of w call ≡ 0 → is_lent_own call ≡ true
        → Invariant terms (outcome w call).world
    unfolding outcome refusal_of is_lent_own is_own lent kept
    own-keeps (do_blank j own) h o = subst (Invariant terms) (sym (blank-world w j h)) (blank-keeps given invariant j h)
    own-keeps (do_blank j (other xs wrong)) h o = absurd (false≢true o)
    own-keeps (do_expand j own own) h o =
        let s =
        invariant-searching invariant (forward-level w.job (expand-facts w.job j (length (get_or w.segments j [])) (length w.log) h).0.called.in-phase).0 in
        searching-invariant (expand-keeps given s.1 (right_lengths terms) j h)
    own-keeps (do_expand j own (other xs wrong)) h o = absurd (false≢true o)
    own-keeps (do_expand j (other xs wrong) log) h o = absurd (false≢true o)
    own-keeps (do_settle j own own) h o =
        let s =
        invariant-searching invariant (forward-level w.job (settle-facts w.job j (length (get_or w.segments j [])) w.log h).0.called.in-phase).0 in
        searching-invariant (settle-keeps given s.1 (right_lengths terms) j h)
    own-keeps (do_settle j own (other xs wrong)) h o = absurd (false≢true o)
    own-keeps (do_settle j (other xs wrong) log) h o = absurd (false≢true o)
    own-keeps (do_look j log) h o = invariant
    own-keeps (do_load b own list) h o =
        let s =
        invariant-searching invariant (reverse-level w.job (load-facts w.job b (length (get_or w.segments b [])) (length list) h).called.in-phase).0 in
        searching-invariant (load-keeps given s.1 (right_lengths terms) b list h)
    own-keeps (do_load b (other xs wrong) list) h o = absurd (false≢true o)
    own-keeps (do_sweep j own list) h o =
        let lent = lent_list w.job list w.changed in
        let s =
        invariant-searching invariant (reverse-level w.job (sweep-facts w.job j (length (get_or w.segments j [])) (length lent) h).called.in-phase).0 in
        searching-invariant (sweep-keeps given s.1 (right_lengths terms) j list h)
    own-keeps (do_sweep j (other xs wrong) list) h o = absurd (false≢true o)
    own-keeps (do_close way) h o = subst (Invariant terms) (sym (close-world w way h)) (close-keeps way given invariant h)

    pub step_keeps : (call : Call (right_lengths terms)) → Invariant terms (outcome w call).world
    step_keeps call = go (eq-or-ne (outcome w call).refusal 0)
      where
        go : ((outcome w call).refusal ≡ 0) ⊎ ((outcome w call).refusal ≡ 0 → ⊥) → Invariant terms (outcome w call).world
        go (inl e) = own-keeps call (sym (refusal_is w call) ∙ e) (accepted-own invariant.shaped call e)
        go (inr ne) = subst (Invariant terms) (sym (refused-same w call ne)) invariant

  pub after-keeps : {w : World} → Invariant terms w → (calls : List (Call (right_lengths terms)))
      → Invariant terms (after w calls)
  unfolding after
  after-keeps {w} invariant [] = invariant
  after-keeps {w} invariant (call ∷ calls) = after-keeps {w = (outcome w call).world} (step_keeps invariant call) calls

pub wrong-refused : WrongRefused
unfolding WrongRefused
wrong-refused terms segments log changed accepted buffers calls =
    let given = begin-given accepted in
    let invariant = after-keeps given (begun-invariant terms segments log changed buffers) calls in
    refuses-wrong invariant.shaped (invariant-coherent given invariant)

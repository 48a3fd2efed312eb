-- A refusal from C stands alone, as that of the operation does: what is lent stays as it was, the mirror comes back as it was given but for what is
-- reserved, and every other number is 0.
use mathlib.Core.Path.{◌≡◌, refl, ap, ◌∙◌}
use mathlib.Core.Bool.{Bool, true, false, cond}
use mathlib.Core.List.{List, []}
use Prim.Native.Nat.{ℕ, ◌*◌}
use borrow.Author.Tests.{ne_eqb}
use Rattle.search.specs.Begin.{no_job, begin_of}
use Rattle.search.specs.Look.{look_of}
use Rattle.search.specs.PromiseCalls.{StandsAlone}
use Rattle.search.specs.PromiseCalls as calls
use Rattle.search.specs.Terms.{terms_of}
use Rattle.search.specs.Answers.{Answer}
use Rattle.search.specs.declared.Terms.{Terms}
use Rattle.search.proofs.Refused.{refused-keeps}
use Rattle.tariff.specs.Promise.{PriceKeeps}
use Rattle.tariff.specs.declared.Tariff.{Tariff}
use Rattle.tariff.proofs.PriceLaws as laws
use Rattle.hokrund.specs.Calls.{given_back, blank_call, expand_call, settle_call, load_call, sweep_call, look_call, close_call, build_call, plan_call, price_call}
use Rattle.mirror.specs.Mirror.{way_of, is_job, cleared, job_of, mirror_of, answer_of, expanded_of, looked_of, looked_at, planned_of, priced_of, one_lent, two_lent, three_lent}
use Rattle.mirror.specs.declared.HokrundAnswer.{HokrundAnswer}
use Rattle.mirror.specs.declared.HokrundExpanded.{HokrundExpanded}
use Rattle.mirror.specs.declared.HokrundJob.{HokrundJob}
use Rattle.mirror.specs.declared.HokrundLook.{HokrundLook}
use Rattle.mirror.specs.declared.HokrundPlanned.{HokrundPlanned}
use Rattle.mirror.specs.declared.HokrundPriced.{HokrundPriced}
use Rattle.mirror.specs.declared.HokrundStack.{HokrundStack}
use Rattle.mirror.proofs.MirrorLaws.{mirror-job}

-- of an outcome by a test, where it holds for either
alone : {X : Type 0} (refusal : X → ℕ) (beside : ℕ → X) (t : Bool) (done none : X) → none ≡ beside (refusal none)
    → (t ≡ true → StandsAlone refusal beside done) → StandsAlone refusal beside (cond t done none)
alone refusal beside true done none a b = b refl
alone refusal beside false done none a b = λ h. a

-- the number in an outcome: of a job's answer behind one buffer, and of an expansion
abbrev answered : List ℕ × HokrundAnswer → ℕ
answered o = o.1.refusal

abbrev expanded : List ℕ × List ℕ × HokrundExpanded → ℕ
expanded o = o.2.refusal

module _ (m : HokrundJob) where
  -- of an operation with one buffer
  answer_keeps : (lent : List ℕ) (out : List ℕ × Answer) → StandsAlone (λ o. o.1.refusal) (λ r. (lent, calls.given_back (job_of m) r)) out
      → StandsAlone answered (λ r. (lent, given_back m r)) (cond (is_job m) (one_lent answer_of out) (lent, given_back m 7))
  unfolding answer_of
  answer_keeps lent out keeps =
      alone answered (λ r. (lent, given_back m r)) (is_job m) _ _ refl (λ test h. ap (one_lent answer_of) (keeps h) ∙ rw (mirror-job m test))

  module _ (j : ℕ) (segment : List ℕ) where
    pub blank-keeps : StandsAlone answered (λ r. (segment, given_back m r)) (blank_call m j segment)
    unfolding blank_call
    blank-keeps = answer_keeps segment _ (refused-keeps.blank (job_of m) j segment)

    module _ (log : List ℕ) where
      abbrev not_expanded : ℕ → List ℕ × List ℕ × HokrundExpanded
      not_expanded r = (segment, log, record { refusal = r; waits = false; on = 0; job = cleared m })

      pub expand-keeps : StandsAlone expanded not_expanded (expand_call m j segment log)
      unfolding expand_call expanded_of
      expand-keeps =
          alone expanded not_expanded (is_job m) _ _ refl (λ test h.
          ap (two_lent expanded_of) (refused-keeps.expand (job_of m) j segment log h) ∙ rw (mirror-job m test))

      pub settle-keeps : StandsAlone answered (λ r. (segment, given_back m r)) (settle_call m j segment log)
      unfolding settle_call
      settle-keeps = answer_keeps segment _ (refused-keeps.settle (job_of m) j segment log)

    module _ (list : List ℕ) where
      -- Load leaves the list, Sweep the segment
      pub load-keeps : StandsAlone answered (λ r. (list, given_back m r)) (load_call m j segment list)
      unfolding load_call
      load-keeps = answer_keeps list _ (refused-keeps.load (job_of m) j segment list)

      pub sweep-keeps : StandsAlone answered (λ r. (segment, given_back m r)) (sweep_call m j segment list)
      unfolding sweep_call
      sweep-keeps = answer_keeps segment _ (refused-keeps.sweep (job_of m) j segment list)

  module _ (j : ℕ) (log : List ℕ) where
    abbrev looked : List ℕ × HokrundLook → ℕ
    looked o = o.1.refusal

    abbrev not_looked : ℕ → List ℕ × HokrundLook
    not_looked r = ([], record { refusal = r; start = 0; length = 0 })

    pub look-keeps : StandsAlone looked not_looked (look_call m j log)
    unfolding look_call looked_of
    look-keeps =
        alone looked not_looked (is_job m) _ _ refl (λ test h.
        ap (looked_at (j * m.room)) (refused-keeps.look (job_of m) j log h) ∙ rw (ne_eqb (look_of (job_of m) j log).1 0 h))

  pub close-keeps : (way : ℕ) → StandsAlone (λ (a : HokrundAnswer). a.refusal) (given_back m) (close_call m way)
  unfolding close_call answer_of
  close-keeps way =
      alone (λ (a : HokrundAnswer). a.refusal) (given_back m) (is_job m) _ _ refl (λ test h.
      ap answer_of (refused-keeps.close (job_of m) (way_of way) h) ∙ rw (mirror-job m test))

module _ (kind n : ℕ) (wanted : HokrundStack) where
  module _ (groups size room : ℕ) where
    abbrev terms : Terms
    terms = terms_of kind n wanted.places groups size room

    abbrev not_begun : ℕ → HokrundAnswer
    not_begun r = record { refusal = r; job = mirror_of no_job }

    pub begin-keeps : StandsAlone (λ (a : HokrundAnswer). a.refusal) not_begun (answer_of (begin_of terms))
    unfolding answer_of
    begin-keeps h = ap answer_of (refused-keeps.begin terms h)

    module _ (table log list : List ℕ) where
      pub build-keeps : StandsAlone (λ (o : List ℕ × List ℕ × List ℕ × HokrundAnswer). o.3.refusal) (λ r. (table, log, list, not_begun r))
          (build_call kind n wanted groups size room table log list)
      unfolding build_call answer_of
      build-keeps h = ap (three_lent answer_of) (refused-keeps.build terms table log list h)

  module _ (given : HokrundStack) (groups : ℕ) (table list : List ℕ) where
    pub plan-keeps : StandsAlone (λ (o : List ℕ × HokrundPlanned). o.1.refusal) (λ r. (list, record { refusal = r; turns = 0 }))
        (plan_call kind n wanted given groups table list)
    unfolding plan_call planned_of
    plan-keeps h = ap (one_lent planned_of) (refused-keeps.plan kind n wanted.places given.places groups table list h)

    pub price-keeps : (tariff : Tariff)
        → StandsAlone (λ (o : List ℕ × HokrundPriced). o.1.refusal) (λ r. (list, record { refusal = r; turns = 0; pennies = 0 }))
        (price_call kind n wanted given groups table list tariff)
    unfolding price_call priced_of PriceKeeps
    price-keeps tariff h = ap (one_lent priced_of) (laws.price-keeps kind n wanted.places given.places groups table list tariff h)

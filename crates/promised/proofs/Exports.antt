-- What each call promises C, clause by clause: what it answers for a mirror of a job and for one of none, and what stands beside a refusal.
use mathlib.Core.Path.{◌≡◌, refl}
use mathlib.Core.Bool.{false}
use mathlib.Core.List.{List, [], ◌∷◌}
use Prim.Native.Nat.{ℕ, ◌*◌}
use lib.IntN.{pos}
use lib.ListN.{replicate}
use Rattle.search.specs.Begin.{begin_of}
use Rattle.search.specs.Blank.{blank_of}
use Rattle.search.specs.Close.{close_of}
use Rattle.search.specs.Drive.{build_of}
use Rattle.search.specs.Expand.{expand_of}
use Rattle.search.specs.Load.{load_of}
use Rattle.search.specs.Look.{look_of}
use Rattle.search.specs.Plan.{plan_of}
use Rattle.search.specs.Settle.{settle_of}
use Rattle.search.specs.Sweep.{sweep_of}
use Rattle.search.specs.Terms.{terms_of}
use Rattle.search.specs.declared.Job.{Job}
use Rattle.tariff.specs.Price.{price_of}
use Rattle.tariff.specs.declared.Tariff.{Tariff}
use Rattle.mirror.specs.Mirror.{way_of, cleared, mirror_of, answer_of, expanded_of, looked_at, planned_of, priced_of, one_lent, two_lent, three_lent}
use Rattle.hokrund.specs.Version.{interface_version}
use Rattle.mirror.specs.declared.HokrundAnswer.{HokrundAnswer}
use Rattle.mirror.specs.declared.HokrundExpanded.{HokrundExpanded}
use Rattle.mirror.specs.declared.HokrundJob.{HokrundJob}
use Rattle.mirror.specs.declared.HokrundLook.{HokrundLook}
use Rattle.mirror.specs.declared.HokrundPlanned.{HokrundPlanned}
use Rattle.mirror.specs.declared.HokrundPriced.{HokrundPriced}
use Rattle.mirror.specs.declared.HokrundStack.{HokrundStack}
use Rattle.exports.specs.Mirrored.{Mirrored, Given}
use Rattle.exports.specs.Outcomes.{Begins, Blanks, Expands, Settles, Loads, Sweeps, Looks, Closes, Builds, Plans, Prices}

-- of a call on a mirror, and of one that takes none
module _ {X : Type 0} {refusal : X → ℕ} {beside : ℕ → X} {r : X} where
  mirrored-is : {m : HokrundJob} {done : Job → X} → Mirrored m done refusal beside r
      → ((job : Job) → cleared m ≡ mirror_of job → r ≡ done job)
      × (((job : Job) → cleared m ≡ mirror_of job → ⊥) → r ≡ beside 7)
      × ((refusal r ≡ 0 → ⊥) → r ≡ beside (refusal r))
  mirrored-is p = (p.of_job, p.of_none, p.refused)

  given_is : {done : X} → Given done refusal beside r → (r ≡ done) × ((refusal r ≡ 0 → ⊥) → r ≡ beside (refusal r))
  given_is p = (p.same, p.refused)

-- a mirror with its two reserved bytes 0, all else its own
cleared-is : (m : HokrundJob)
    → cleared m
    ≡ record {
      kind = m.kind;
      n = m.n;
      phase = m.phase;
      level = m.level;
      way = m.way;
      loaded = m.loaded;
      wanted = m.wanted;
      reserved = 0 ∷ 0 ∷ [];
      groups = m.groups;
      size = m.size;
      room = m.room;
      passed = m.passed;
      waiting = m.waiting;
      swept = m.swept;
      counts = m.counts;
    }
unfolding cleared
cleared-is m = refl

-- so they are in the mirror of every job
mirror-zeros : (job : Job) → (mirror_of job).reserved ≡ 0 ∷ 0 ∷ []
unfolding mirror_of
mirror-zeros job = refl

version-is : interface_version ≡ 6
version-is = refl

-- ---- each call: the operation's outcome, converted; and beside a refusal what was lent and the mirror, or zeros

module _ (m : HokrundJob) where
  answers : (r : ℕ) → HokrundAnswer
  answers r = record { refusal = r; job = cleared m }

  module _ (j : ℕ) (segment : List ℕ) where
    blanks : {r : List ℕ × HokrundAnswer} → Blanks m j segment r
        → Mirrored m (λ job. one_lent answer_of (blank_of job j segment)) (λ o. o.1.refusal) (λ n. (segment, answers n)) r
    unfolding answers
    blanks p = p

    module _ (log : List ℕ) where
      expands : {r : List ℕ × List ℕ × HokrundExpanded} → Expands m j segment log r
          → Mirrored m (λ job. two_lent expanded_of (expand_of job j segment log)) (λ o. o.2.refusal)
          (λ n. (segment, log, record { refusal = n; waits = false; on = 0; job = cleared m })) r
      expands p = p

      settles : {r : List ℕ × HokrundAnswer} → Settles m j segment log r
          → Mirrored m (λ job. one_lent answer_of (settle_of job j segment log)) (λ o. o.1.refusal) (λ n. (segment, answers n)) r
      unfolding answers
      settles p = p

    module _ (list : List ℕ) where
      loads : {r : List ℕ × HokrundAnswer} → Loads m j segment list r
          → Mirrored m (λ job. one_lent answer_of (load_of job j segment list)) (λ o. o.1.refusal) (λ n. (list, answers n)) r
      unfolding answers
      loads p = p

      sweeps : {r : List ℕ × HokrundAnswer} → Sweeps m j segment list r
          → Mirrored m (λ job. one_lent answer_of (sweep_of job j segment list)) (λ o. o.1.refusal) (λ n. (segment, answers n)) r
      unfolding answers
      sweeps p = p

  looks : (j : ℕ) (log : List ℕ) {r : List ℕ × HokrundLook} → Looks m j log r
      → Mirrored m (λ job. looked_at (j * job.terms.room) (look_of job j log)) (λ o. o.1.refusal)
      (λ n. ([], record { refusal = n; start = 0; length = 0 })) r
  looks j log p = p

  closes : (way : ℕ) {r : HokrundAnswer} → Closes m way r → Mirrored m (λ job. answer_of (close_of job (way_of way))) (λ a. a.refusal) answers r
  unfolding answers
  closes way p = p

-- beside a refusal of Begin and of Build the whole table
no-build : ℕ → HokrundAnswer
no-build r =
    record {
      refusal = r;
      job =
          record {
            kind = 0;
            n = 0;
            phase = 0;
            level = 0;
            way = 0;
            loaded = 64;
            wanted = record { places = replicate 12 (pos 0) };
            reserved = 0 ∷ 0 ∷ [];
            groups = 0;
            size = 0;
            room = 0;
            passed = replicate 64 0;
            waiting = replicate 64 0;
            swept = replicate 64 0;
            counts = replicate 256 0;
          };
    }

module _ (kind n : ℕ) (wanted : HokrundStack) where
  module _ (groups size room : ℕ) where
    begins : {r : HokrundAnswer} → Begins kind n wanted groups size room r
        → Given (answer_of (begin_of (terms_of kind n wanted.places groups size room))) (λ a. a.refusal) no-build r
    unfolding no-build
    begins p = p

    builds : (table log list : List ℕ) {r : List ℕ × List ℕ × List ℕ × HokrundAnswer} → Builds kind n wanted groups size room table log list r
        → Given (three_lent answer_of (build_of (terms_of kind n wanted.places groups size room) table log list)) (λ o. o.3.refusal)
        (λ q. (table, log, list, no-build q)) r
    unfolding no-build
    builds table log list p = p

  module _ (given : HokrundStack) (groups : ℕ) (table list : List ℕ) where
    plans : {r : List ℕ × HokrundPlanned} → Plans kind n wanted given groups table list r
        → Given (one_lent planned_of (plan_of kind n wanted.places given.places groups table list)) (λ o. o.1.refusal)
        (λ q. (list, record { refusal = q; turns = 0 })) r
    plans p = p

    prices : (tariff : Tariff) {r : List ℕ × HokrundPriced} → Prices kind n wanted given groups table list tariff r
        → Given (one_lent priced_of (price_of kind n wanted.places given.places groups table list tariff)) (λ o. o.1.refusal)
        (λ q. (list, record { refusal = q; turns = 0; pennies = 0 })) r
    prices tariff p = p

-- What each call on a job, and each that lends a buffer to be written, leaves and answers, by the operation's definition; and what stands beside a
-- refusal: what is lent as it was, the mirror with its reserved bytes 0 and else as it was, and no other number.
use Rattle.std.specs.Prelude.{false, List, [], ◌∷◌, ℕ, ◌*◌, pos, replicate}
use Rattle.search.specs.Begin.{begin_of}
use Rattle.search.specs.Blank.{blank_of}
use Rattle.search.specs.Close.{close_of}
use Rattle.search.specs.Drive.{build_of}
use Rattle.search.specs.Expand.{expand_of}
use Rattle.search.specs.Load.{load_of}
use Rattle.search.specs.Look.{look_of}
use Rattle.search.specs.Plan.{plan_of}
use Rattle.search.specs.Settle.{settle_of}
use Rattle.search.specs.Sweep.{sweep_of}
use Rattle.search.specs.Terms.{terms_of}
use Rattle.search.specs.Answers.{Answer}
use Rattle.search.specs.declared.Job.{Job}
use Rattle.tariff.specs.Price.{price_of}
use Rattle.tariff.specs.declared.Tariff.{Tariff}
use Rattle.mirror.specs.Mirror.{way_of, cleared, answer_of, expanded_of, looked_at, planned_of, priced_of, one_lent, two_lent, three_lent}
use Rattle.mirror.specs.declared.HokrundAnswer.{HokrundAnswer}
use Rattle.mirror.specs.declared.HokrundExpanded.{HokrundExpanded}
use Rattle.mirror.specs.declared.HokrundJob.{HokrundJob}
use Rattle.mirror.specs.declared.HokrundLook.{HokrundLook}
use Rattle.mirror.specs.declared.HokrundPlanned.{HokrundPlanned}
use Rattle.mirror.specs.declared.HokrundPriced.{HokrundPriced}
use Rattle.mirror.specs.declared.HokrundStack.{HokrundStack}
use Rattle.exports.specs.Mirrored.{Mirrored, Given}

module _ (m : HokrundJob) where
  -- beside a refusal
  abbrev given_back : ℕ → HokrundAnswer
  given_back r = record { refusal = r; job = cleared m }

  -- of an operation that answers the job, with one buffer that it may write
  abbrev Lends : List ℕ → (Job → List ℕ × Answer) → List ℕ × HokrundAnswer → Type 0
  Lends lent done = Mirrored m (λ job. one_lent answer_of (done job)) (λ o. o.1.refusal) (λ r. (lent, given_back r))

  module _ (j : ℕ) where
    abbrev pub Blanks : List ℕ → List ℕ × HokrundAnswer → Type 0
    Blanks segment = Lends segment (λ job. blank_of job j segment)

    abbrev pub Expands : List ℕ → List ℕ → List ℕ × List ℕ × HokrundExpanded → Type 0
    Expands segment log =
        Mirrored m (λ job. two_lent expanded_of (expand_of job j segment log)) (λ o. o.2.refusal)
        (λ r. (segment, log, record { refusal = r; waits = false; on = 0; job = cleared m }))

    abbrev pub Settles : List ℕ → List ℕ → List ℕ × HokrundAnswer → Type 0
    Settles segment log = Lends segment (λ job. settle_of job j segment log)

    -- Load is given the segment and fills the list, Sweep is given the list and marks the segment
    abbrev pub Loads : List ℕ → List ℕ → List ℕ × HokrundAnswer → Type 0
    Loads segment list = Lends list (λ job. load_of job j segment list)

    abbrev pub Sweeps : List ℕ → List ℕ → List ℕ × HokrundAnswer → Type 0
    Sweeps segment list = Lends segment (λ job. sweep_of job j segment list)

    abbrev pub Looks : List ℕ → List ℕ × HokrundLook → Type 0
    Looks log =
        Mirrored m (λ job. looked_at (j * job.terms.room) (look_of job j log)) (λ o. o.1.refusal) (λ r. ([], record { refusal = r; start = 0; length = 0 }))

  -- 0 is forward, any other number reverse
  abbrev pub Closes : ℕ → HokrundAnswer → Type 0
  Closes way = Mirrored m (λ job. answer_of (close_of job (way_of way))) (λ a. a.refusal) given_back

-- beside a refusal of Begin and of Build the whole table: zeros, but that no segment is loaded
abbrev pub no_build : ℕ → HokrundAnswer
no_build r =
    record {
      refusal = r;
      job =
          record {
            kind = 0;
            n = 0;
            phase = 0;
            level = 0;
            way = 0;
            loaded = 64;
            wanted = record { places = replicate 12 (pos 0) };
            reserved = 0 ∷ 0 ∷ [];
            groups = 0;
            size = 0;
            room = 0;
            passed = replicate 64 0;
            waiting = replicate 64 0;
            swept = replicate 64 0;
            counts = replicate 256 0;
          };
    }

module _ (kind n : ℕ) (wanted : HokrundStack) where
  module _ (groups size room : ℕ) where
    abbrev pub Begins : HokrundAnswer → Type 0
    Begins = Given (answer_of (begin_of (terms_of kind n wanted.places groups size room))) (λ a. a.refusal) no_build

    abbrev pub Builds : List ℕ → List ℕ → List ℕ → List ℕ × List ℕ × List ℕ × HokrundAnswer → Type 0
    Builds table log list =
        Given (three_lent answer_of (build_of (terms_of kind n wanted.places groups size room) table log list)) (λ o. o.3.refusal)
        (λ r. (table, log, list, no_build r))

  module _ (given : HokrundStack) (groups : ℕ) (table list : List ℕ) where
    abbrev pub Plans : List ℕ × HokrundPlanned → Type 0
    Plans =
        Given (one_lent planned_of (plan_of kind n wanted.places given.places groups table list)) (λ o. o.1.refusal)
        (λ r. (list, record { refusal = r; turns = 0 }))

    abbrev pub Prices : Tariff → List ℕ × HokrundPriced → Type 0
    Prices tariff =
        Given (one_lent priced_of (price_of kind n wanted.places given.places groups table list tariff)) (λ o. o.1.refusal)
        (λ r. (list, record { refusal = r; turns = 0; pennies = 0 }))

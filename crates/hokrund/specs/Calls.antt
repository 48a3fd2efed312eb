-- The calls that lend a buffer or take a job: what each leaves in the buffers and its answer, by the definition of the operation.
-- A mirror whose numbers are no phase or no way is refused 7, and given back as it was, what is reserved cleared.
use Rattle.std.specs.Prelude.{false, cond, List, [], ℕ, ◌*◌}
use Rattle.search.specs.Blank.{blank_of}
use Rattle.search.specs.Close.{close_of}
use Rattle.search.specs.Drive.{build_of}
use Rattle.search.specs.Terms.{terms_of}
use Rattle.search.specs.Expand.{expand_of}
use Rattle.search.specs.Load.{load_of}
use Rattle.search.specs.Look.{look_of}
use Rattle.search.specs.Plan.{plan_of}
use Rattle.search.specs.Settle.{settle_of}
use Rattle.search.specs.Sweep.{sweep_of}
use Rattle.tariff.specs.Price.{price_of}
use Rattle.tariff.specs.declared.Tariff.{Tariff}
use Rattle.mirror.specs.Mirror.{way_of, is_job, cleared, job_of, answer_of, expanded_of, looked_at, planned_of, priced_of, one_lent, two_lent, three_lent}
use Rattle.mirror.specs.declared.HokrundAnswer.{HokrundAnswer}
use Rattle.mirror.specs.declared.HokrundExpanded.{HokrundExpanded}
use Rattle.mirror.specs.declared.HokrundJob.{HokrundJob}
use Rattle.mirror.specs.declared.HokrundLook.{HokrundLook}
use Rattle.mirror.specs.declared.HokrundPlanned.{HokrundPlanned}
use Rattle.mirror.specs.declared.HokrundPriced.{HokrundPriced}
use Rattle.mirror.specs.declared.HokrundStack.{HokrundStack}

-- beside the refusal of a call on a job
abbrev pub given_back : HokrundJob → ℕ → HokrundAnswer
given_back m r = record { refusal = r; job = cleared m }

unfoldable pub blank_call : HokrundJob → ℕ → List ℕ → List ℕ × HokrundAnswer
blank_call m j segment =
    cond (is_job m) (one_lent answer_of (blank_of (job_of m) j segment)) (segment, given_back m 7)

unfoldable pub expand_call : HokrundJob → ℕ → List ℕ → List ℕ → List ℕ × List ℕ × HokrundExpanded
expand_call m j segment log =
    cond (is_job m)
    (two_lent expanded_of (expand_of (job_of m) j segment log))
    (segment, log, record { refusal = 7; waits = false; on = 0; job = cleared m })

unfoldable pub settle_call : HokrundJob → ℕ → List ℕ → List ℕ → List ℕ × HokrundAnswer
settle_call m j segment log =
    cond (is_job m) (one_lent answer_of (settle_of (job_of m) j segment log)) (segment, given_back m 7)

-- the list is lent to be filled, the segment only read
unfoldable pub load_call : HokrundJob → ℕ → List ℕ → List ℕ → List ℕ × HokrundAnswer
load_call m b segment list =
    cond (is_job m) (one_lent answer_of (load_of (job_of m) b segment list)) (list, given_back m 7)

unfoldable pub sweep_call : HokrundJob → ℕ → List ℕ → List ℕ → List ℕ × HokrundAnswer
sweep_call m j segment list =
    cond (is_job m) (one_lent answer_of (sweep_of (job_of m) j segment list)) (segment, given_back m 7)

unfoldable pub close_call : HokrundJob → ℕ → HokrundAnswer
close_call m way = cond (is_job m) (answer_of (close_of (job_of m) (way_of way))) (given_back m 7)

-- the part that Look hands back, and where it stands in the log area
unfoldable pub look_call : HokrundJob → ℕ → List ℕ → List ℕ × HokrundLook
look_call m j log =
    cond (is_job m)
    (looked_at (j * m.room) (look_of (job_of m) j log))
    ([], record { refusal = 7; start = 0; length = 0 })

unfoldable pub build_call : ℕ → ℕ → HokrundStack → ℕ → ℕ → ℕ → List ℕ → List ℕ → List ℕ → List ℕ × List ℕ × List ℕ × HokrundAnswer
build_call kind n wanted groups size room table log list =
    three_lent answer_of (build_of (terms_of kind n wanted.places groups size room) table log list)

unfoldable pub plan_call : ℕ → ℕ → HokrundStack → HokrundStack → ℕ → List ℕ → List ℕ → List ℕ × HokrundPlanned
plan_call kind n wanted given groups table list =
    one_lent planned_of (plan_of kind n wanted.places given.places groups table list)

unfoldable pub price_call : ℕ → ℕ → HokrundStack → HokrundStack → ℕ → List ℕ → List ℕ → Tariff → List ℕ × HokrundPriced
price_call kind n wanted given groups table list tariff =
    one_lent priced_of (price_of kind n wanted.places given.places groups table list tariff)

-- Begin.
use Rattle.std.specs.Prelude.{cond, eqb, pos, replicate}
use Rattle.stacks.specs.Stack.{stack_places}
use Rattle.search.specs.JobState.{count_places, no_segment}
use Rattle.search.specs.Segments.{segment_limit}
use Rattle.search.specs.Terms.{begin_refusal}
use Rattle.search.specs.Answers.{Answer}
use Rattle.search.specs.declared.Job.{Job}
use Rattle.search.specs.declared.Phase.TheVariants.{Blanking}
use Rattle.search.specs.declared.Terms.{Terms}
use Rattle.search.specs.declared.Way.TheVariants.{Forward}

-- a job in Blanking with all passed and waiting numbers and counts 0; its way is forward, with nothing loaded or swept
unfoldable pub begun : Terms → Job
begun terms =
    record {
      terms = terms;
      phase = Blanking;
      way = Forward;
      loaded = no_segment;
      passed = replicate segment_limit 0;
      waiting = replicate segment_limit 0;
      swept = replicate segment_limit 0;
      counts = replicate count_places 0;
    }

-- beside a refusal: Begin's job of nothing, 0 in every field but loaded, which is none; every later call says 7 of it
abbrev pub no_terms : Terms
no_terms = record { kind = 0; n = 0; wanted = replicate stack_places (pos 0); groups = 0; size = 0; room = 0 }

abbrev pub no_job : Job
no_job = begun no_terms

unfoldable pub begin_of : Terms → Answer
begin_of terms =
    let r = begin_refusal terms in
    record { refusal = r; job = cond (eqb r 0) (begun terms) no_job }

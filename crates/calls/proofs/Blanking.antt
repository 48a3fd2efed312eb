-- A blanked segment by the definition, and the byte of the wanted stack's entry.
use mathlib.Core.Path.{◌≡◌, refl, sym, subst, ◌∙◌}
use mathlib.Core.Bool.{true}
use mathlib.Core.List.{List}
use Prim.Native.Nat.{ℕ, ◌/◌, ◌%◌, ◌<◌}
use lib.ListN.{length, set, replicate}
use Rattle.stacks.specs.Refusals.{number}
use Rattle.stacks.specs.declared.refusal.Refusal.{Refusal}
use Rattle.stacks.proofs.Numbers.{number-some}
use Rattle.stacks.proofs.Numbering.{rank_lt}
use Rattle.stacks.specs.Stack.{is_stack}
use Rattle.search.specs.Blank.{blank_refusal, goal_of, blanked, blank_of}
use Rattle.search.specs.Entries.{bytes_for, blank}
use Rattle.search.specs.JobState.{is_coherent, stack_count_of, stack_count_at, progressed}
use Rattle.search.specs.Segments.{segment_limit}
use Rattle.search.specs.Terms.{N, begin_refusal}
use Rattle.search.specs.declared.Job.{Job}
use Rattle.search.proofs.Accepted.{BlankFacts, blank-facts, blank-accepted, blank-refused}
use Rattle.search.proofs.Coherence.{begin-given}
use Rattle.search.proofs.EntryLaws.{byte_inside}
use Rattle.search.proofs.Given.{Given, some}
use Rattle.search.proofs.SegmentLaws.{stack-offset}
use Rattle.job.proofs.Bounds.{coherent-begins, segment-below}
use Rattle.calls.proofs.Rows.{stacks_are}

-- ---- the entry of the wanted stack

module _ (job : Job) (coherent : is_coherent job ≡ true) where
  pub wanted_begins : begin_refusal job.terms ≡ 0
  wanted_begins = coherent-begins job coherent

  given : Given job.terms
  given = begin-given wanted_begins

  pub wanted_stack : is_stack job.terms.kind job.terms.n job.terms.wanted ≡ true
  wanted_stack = given.stack

  pub size_some : 0 < job.terms.size
  size_some = some given

  -- its byte stands in the segment that it falls in
  pub goal_inside : (j : ℕ) → goal_of job / job.terms.size ≡ j → goal_of job % job.terms.size / 4 < bytes_for (stack_count_at job j)
  unfolding goal_of stack_count_at stack_count_of
  goal_inside j h =
      let t = job.terms in
      let goal = goal_of job in
      byte_inside (goal % t.size) (stack_count_at job j)
      (subst (λ (i : ℕ). goal % t.size < stack_count_at job i) h
      (stack-offset (N t) t.size size_some goal (rank_lt t.kind t.n t.wanted given.in-range wanted_stack)))

pub blank_is : (m : ℕ) → blank m ≡ replicate (bytes_for m) 255
unfolding blank
blank_is m = refl

pub ruleset wanted_rows = (wanted_begins, wanted_stack, size_some, goal_inside, blank_is)

-- ---- Blank, refused and accepted

module _ (job : Job) (j : ℕ) (segment : List ℕ) where
  pub blank_errs : (r : Refusal) → number r ≡ blank_refusal job j (length segment)
      → blank_of job j segment ≡ (segment, record { refusal = number r; job = job })
  blank_errs r e = rw e (blank-refused job j segment (λ z. number-some r (e ∙ z)))

  module _ (h : 0 ≡ blank_refusal job j (length segment)) where
    facts : BlankFacts job j (length segment)
    facts = blank-facts job j (length segment) (sym h)

    pub blank_coherent : is_coherent job ≡ true
    blank_coherent = facts.called.coherent

    pub blank_begins : begin_refusal job.terms ≡ 0
    blank_begins = coherent-begins job blank_coherent

    pub blank_below : j < segment_limit
    blank_below = segment-below job blank_coherent j facts.called.inside

    pub blank_long : length segment ≡ bytes_for (stack_count_at job j)
    blank_long = facts.long

    pub blank_oks : blank_of job j segment ≡ (
      blanked job j,
      record { refusal = 0; job = progressed job job.phase (set job.passed j (stack_count_at job j)) job.waiting },
    )
    blank_oks = blank-accepted job j segment (sym h)

pub ruleset blank_rows = (blank_errs, blank_coherent, blank_begins, blank_below, blank_long, blank_oks, stacks_are)

-- A call of Expand: the scan of an accepted job fits, its run is the job's, and so is the answer; and the row of refusals.
use mathlib.Core.Path.{◌≡◌, refl, sym, ap, ◌∙◌}
use mathlib.Core.Logic.{◌⊎◌, inl, inr}
use mathlib.Core.Bool.{Bool, true, false, cond}
use mathlib.Core.List.{List, [], ◌∷◌}
use Prim.Native.Nat.{ℕ, zero, suc, ◌+◌, ◌-◌, ◌*◌, ◌%◌, ◌<◌, ◌≤◌}
use native.Mathlib.Nat.{le_of_lt}
use native.Mathlib.Omega.{arith}
use lib.Dec.{ltb, eqb}
use lib.ListN.{length, get_or, set, get_or-eq_default}
use borrow.Author.Tests.{lt-ltb, le-ltb}
use Rattle.std.specs.Prelude.{Option, Some, None, Ok, Err, is_some, unwrap_or}
use Rattle.base.specs.Words.{unless, first_from}
use Rattle.base.proofs.Tests.{lt-or-ge}
use Rattle.stacks.specs.Refusals.{number}
use Rattle.stacks.specs.declared.refusal.Refusal.{Refusal}
use Rattle.stacks.proofs.Numbers.{number-some, row-oks}
use Rattle.search.specs.Entries.{entry_at, next_entry}
use Rattle.search.specs.Expand.{Expansion, is_parent, expand_refusal, children_of, place_child, place_all, pass_one, wait_for, expand_stack, expand_next, expand_run, expansion, expanded_job, expand_of}
use Rattle.search.specs.JobState.{no_segment, is_coherent, level_of, stack_count_of, segment_count_of, stack_count_at, log_length, moves_of, passed_of, waiting_of, count_of, progressed, recounted}
use Rattle.search.specs.Marks.{found_one, mark_one, found_at}
use Rattle.search.specs.Refusals.{level_refusal}
use Rattle.search.specs.Results.{as_expanded}
use Rattle.search.specs.Segments.{segment_limit}
use Rattle.search.specs.Logs.{lacks_room}
use Rattle.search.specs.Terms.{G, m}
use Rattle.search.specs.Answers.{Expanded}
use Rattle.search.specs.declared.Job.{Job}
use Rattle.search.specs.declared.Phase.TheVariants.{Level}
use Rattle.search.specs.declared.Terms.{Terms}
use Rattle.search.specs.declared.Way.TheVariants.{Forward}
use Rattle.search.proofs.Accepted.{LevelFacts, expand-facts, expand-accepted, expand-refused, level-row}
use Rattle.search.proofs.Coherence.{begin-given, coherent-facts}
use Rattle.search.proofs.EntryLaws.{next_level}
use Rattle.search.specs.declared.Found.{Found}
use Rattle.twobit.specs.Mark.{found_in}
use Rattle.perm.specs.declared.groups.TurnSet.{TurnSet}
use Rattle.job.proofs.Bounds.{coherent-found}
use Rattle.expand.specs.Scan.{ScanFits, RunFits, SetOf, ScanOf, expansion_at, moves_in, scan_job, scan_for}
use Rattle.expand.specs.declared.place.Running.{Running}
use Rattle.expand.specs.declared.run.Reached.{Reached}
use Rattle.expand.specs.declared.scan.Scan.{Scan}
use Rattle.expand.proofs.Placing.{state}

-- ---- refusals

-- once the row that Settle shares is through
module _ (job : Job) (j bytes words : ℕ) (through : 0 ≡ level_refusal job j bytes words 0) where
  pub level_facts : LevelFacts job j bytes words
  level_facts = (level-row job j bytes words).asks (sym through)

  -- the count of stacks as the code has it
  module _ {stacks : ℕ} (all : stacks ≡ m job.terms j) where
    rest : unless (ltb (passed_of job j) stacks) 11 0 ≡ expand_refusal job j bytes words
    unfolding expand_refusal stack_count_at stack_count_of
    rest = rw all (row-oks (level-row job j bytes words) _ through)

    pub refusal-passed : stacks ≤ passed_of job j → 11 ≡ expand_refusal job j bytes words
    refusal-passed l = ap (λ (t : Bool). unless t 11 0) (sym (le-ltb (passed_of job j) stacks l)) ∙ rest

    pub refusal-none : passed_of job j < stacks → 0 ≡ expand_refusal job j bytes words
    refusal-none l = ap (λ (t : Bool). unless t 11 0) (sym (lt-ltb (passed_of job j) stacks l)) ∙ rest

pub refused-call : (job : Job) (j : ℕ) (segment log : List ℕ) (e : Refusal) → number e ≡ expand_refusal job j (length segment) (length log)
    → ◌≡◌ {A = List ℕ × List ℕ × Expanded} (segment, log, as_expanded job (Err e)) (expand_of job j segment log)
refused-call job j segment log e is =
    ap (λ (n : ℕ). (segment, log, record { refusal = n; waits = false; on = 0; job = job })) is
    ∙ sym (expand-refused job j segment log (λ h. number-some e (is ∙ h)))

-- ---- the scan, as the code fills it
pub scan-is : (set : TurnSet) (terms : Terms) (level j : ℕ) {segments turns mark : ℕ} → segments ≡ G terms
    → turns ≡ length (moves_in set) → 1 ≤ level → mark ≡ next_entry ((level - 1) % 3)
    → ◌≡◌ {A = Scan} (record {
      set = set;
      size = terms.size;
      room = terms.room;
      segments = segments;
      turns = turns;
      j = j;
      level = level;
      from = (level - 1) % 3;
      mark = mark;
    }) (scan_for set terms level j)
unfolding scan_for
scan-is set terms level j a b some e = rw (a, b, e ∙ next_level level some)

-- what a call that is not refused answers
waiting_for : (job : Job) (t : Option ℕ) → as_expanded job (Ok t) ≡ record { refusal = 0; waits = is_some t; on = unwrap_or t 0; job = job }
waiting_for job None = refl
waiting_for job (Some t) = refl

-- ---- a run over a scan is a run over its job

-- the job that a scan of a job stands for, by that job's own numbers
abbrev alike : Job → Job
alike job =
    record {
      terms = record {
        kind = job.terms.kind;
        n = job.terms.n;
        wanted = [];
        groups = job.terms.groups;
        size = job.terms.size;
        room = job.terms.room;
      };
      phase = Level (level_of job.phase);
      way = Forward;
      loaded = no_segment;
      passed = [];
      waiting = [];
      swept = [];
      counts = [];
    }

module _ (job : Job) (j : ℕ) where
  place_same : (children : List ℕ) (e : Expansion) → place_all (alike job) j children e ≡ place_all job j children e
  unfolding place_all place_child mark_one found_one level_of
  place_same [] e = refl
  place_same (c ∷ children) e = place_same children (place_child job j c e)

  next-same : (e : Expansion) → expand_next (alike job) j e ≡ expand_next job j e
  unfolding is_parent expand_next expand_stack pass_one wait_for level_of segment_count_of stack_count_of
  next-same e =
      let children = children_of job.terms.kind job.terms.n (moves_of job) (j * job.terms.size + e.at) in
      let t = first_from (lacks_room job.terms.size job.terms.room j e.logs.waiting children) 0 (segment_count_of job) in
      ap
      (λ (x : Expansion). cond e.waits e
      (cond (eqb (entry_at e.marks.segment e.at) ((level_of job.phase - 1) % 3))
      (cond (ltb t (segment_count_of job)) (wait_for job j t e) (pass_one job j x))
      (pass_one job j e)))
      (place_same children e)

  run-same : (left : ℕ) (e : Expansion) → expand_run (alike job) j left e ≡ expand_run job j left e
  unfolding expand_run
  run-same zero e = refl
  run-same (suc left) e = ap (expand_run (alike job) j left) (next-same e) ∙ run-same left (expand_next job j e)

  -- ---- an accepted call

  -- what it answers, from how far it came
  abbrev answer : Expansion → List ℕ × List ℕ × Expanded
  answer x = (x.marks.segment, x.logs.log, record { refusal = 0; waits = x.waits; on = x.on; job = expanded_job job j x })

  -- a scan by a set that is the job's
  stands : (set : TurnSet) → SetOf job.terms set → scan_job (scan_for set job.terms (level_of job.phase) j) ≡ alike job
  unfolding scan_job scan_for
  stands set own = rw (own.0, own.1, own.2) refl

  scan-fits : (set : TurnSet) → SetOf job.terms set → is_coherent job ≡ true → j < segment_count_of job
      → ScanFits (scan_for set job.terms (level_of job.phase) j)
  unfolding scan_job scan_for segment_count_of stack_count_of level_of
  scan-fits set own coherent inside =
      let given = begin-given (coherent-facts job coherent).begins in
      record {
        size_fits = rw (own.0, own.1) given.segments;
        room_fits = given.room;
        segments_are = rw (own.0, own.1) refl;
        turns_are = refl;
        inside = inside;
        from_is = refl;
        mark_is = refl;
      }

  waiting-most : is_coherent job ≡ true → length job.waiting ≡ segment_limit → (t : ℕ) → get_or job.waiting t 0 ≤ job.terms.room
  unfolding waiting_of
  waiting-most coherent long t = go (lt-or-ge t segment_limit)
    where
      at_most : (b : Bool) → cond b job.terms.room 0 ≤ job.terms.room
      at_most true = omega arith
      at_most false = omega arith

      go : (t < segment_limit) ⊎ (segment_limit ≤ t) → get_or job.waiting t 0 ≤ job.terms.room
      go (inl h) = omega (arith, (coherent-facts job coherent).waiting-fits t h, at_most (ltb t (segment_count_of job)))
      go (inr h) =
          let past : length job.waiting ≤ t = omega arith in
          rw (get_or-eq_default job.waiting 0 past) (omega arith)

  module _ (segment log : List ℕ) (accepted : expand_refusal job j (length segment) (length log) ≡ 0) where
    pub call_facts : LevelFacts job j (length segment) (length log)
    call_facts = (expand-facts job j (length segment) (length log) accepted).0

    -- the scan, m, and what the level has found, as the code has them
    module _ {scan : Scan} {stacks : ℕ} {found : Found} (of : ScanOf job j scan) (all : stacks ≡ m job.terms j)
        (taken : found ≡ found_in job.counts scan.level) where
      so_far : found ≡ found_at job (level_of job.phase)
      unfolding scan_for count_of
      so_far = taken ∙ ap (λ (s : Scan). found_in job.counts s.level) of.0

      -- what a run over the segment asks
      pub run-given : (r : Running) → r.segment.now ≡ segment → r.log.now ≡ log → r.waiting.now ≡ job.waiting → r.found ≡ found
          → length job.waiting ≡ segment_limit → RunFits scan (passed_of job j) stacks r
      unfolding scan_job scan_for stack_count_at stack_count_of segment_count_of log_length level_of passed_of
      run-given r bytes words numbers counted long =
          let f = call_facts in
          rw (of.0, all)
          (record {
            fit = scan-fits scan.set of.1 f.called.coherent f.called.inside;
            lent = rw (bytes, words, numbers)
                (record { bytes = rw (of.1.0, of.1.1) f.long; places = f.wide; logs = long; most = waiting-most f.called.coherent long });
            all = rw (of.1.0, of.1.1) refl;
            within = le_of_lt (expand-facts job j (length segment) (length log) accepted).1;
            few = rw (counted, so_far) (coherent-found job f.called.coherent (level_of job.phase));
          })

      run_is : expand_run (scan_job scan) scan.j (stacks - passed_of job j) (state segment found log job.waiting (passed_of job j)) ≡ expansion job j segment log
      unfolding scan_for expansion stack_count_at stack_count_of passed_of
      run_is =
          let left = stack_count_at job j - passed_of job j in
          let start = state segment (found_at job (level_of job.phase)) log job.waiting (passed_of job j) in
          rw (so_far, of.0, all) (ap (λ (q : Job). expand_run q j left start) (stands scan.set of.1) ∙ run-same left start)

      -- the answer, from how far the run came and what it leaves in the caller's segment and log area
      pub answer-is : (reached : Reached) (r' : Running) {counts segment' log' : List ℕ}
          → expansion_at r' reached.at reached.waits_for
          ≡ expand_run (scan_job scan) scan.j (stacks - passed_of job j) (state segment found log job.waiting (passed_of job j))
          → counts ≡ set job.counts scan.level r'.found.count → segment' ≡ r'.segment.now → log' ≡ r'.log.now
          → ◌≡◌ {A = List ℕ × List ℕ × Expanded}
          (segment', log', as_expanded (progressed (recounted job counts) job.phase (set job.passed j reached.at) r'.waiting.now) (Ok reached.waits_for))
          (expand_of job j segment log)
      unfolding expanded_job scan_for
      answer-is reached r' {counts} run e bytes' words' =
          let next = progressed (recounted job counts) job.phase (set job.passed j reached.at) r'.waiting.now in
          let level = ap (λ (s : Scan). set job.counts s.level r'.found.count) of.0 in
          rw (bytes', words')
          (ap (λ (x : Expanded). (r'.segment.now, r'.log.now, x)) (waiting_for next reached.waits_for)
          ∙ rw (e, level) (ap answer (run ∙ run_is) ∙ sym (expand-accepted job j segment log accepted)))

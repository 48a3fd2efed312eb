-- What an accepted Sweep was given and leaves.
use mathlib.Core.Path.{◌≡◌, refl, sym, ap, ◌∙◌, subst}
use mathlib.Core.Bool.{Bool, cond}
use mathlib.Core.List.{List, []}
use Prim.Native.Nat.{ℕ, ◌+◌, ◌-◌, ◌*◌, ◌%◌, ◌^◌, ◌<◌, ◌≤◌}
use native.Mathlib.Omega.{arith}
use borrow.Author.Tests.{lt-ltb}
use lib.ListN.{length, set}
use lib.Pow.{pow_mono, shl_exact}
use Rattle.base.proofs.Bits.{put-lt}
use Rattle.search.specs.Entries.{next_entry}
use Rattle.search.specs.JobState.{count_limit, swept_of, level_of, stack_count_of, segment_count_of, stack_count_at, progressed, directed}
use Rattle.search.specs.Logs.{indexes_of}
use Rattle.search.specs.Marks.{Marks, mark_all, found_at, with_found}
use Rattle.search.specs.Segments.{segment_limit}
use Rattle.search.specs.Sweep.{sweep_refusal, is_reached, reached_in, with_pair, sweep_of}
use Rattle.search.specs.Terms.{m, begin_refusal, terms_of}
use Rattle.search.specs.Answers.{Answer}
use Rattle.search.specs.declared.Found.{Found}
use Rattle.search.specs.declared.Job.{Job}
use Rattle.search.specs.declared.Terms.{Terms}
use Rattle.search.proofs.Accepted.{SweepFacts, sweep-facts, sweep-accepted}
use Rattle.search.proofs.Coherence.{coherent-facts}
use Rattle.search.proofs.EntryLaws.{next-lt, next_level}
use Rattle.search.proofs.MarkLaws.{marks-alike}
use Rattle.search.proofs.PairLaws as PairLaws
use Rattle.search.proofs.PairLaws.{unswept-bit}
use Rattle.search.proofs.SegmentLaws.{segment-starts}
use Rattle.perm.specs.Panes.{kind_of}
use Rattle.perm.specs.declared.groups.TurnSet.{TurnSet}
use Rattle.twobit.specs.Mark.{AtMost, marks_of}
use Rattle.twobit.proofs.LeafMarks.{marks-level}
use Rattle.job.proofs.Bounds.{Bounds, coherent-begins, coherent-bounds, coherent-found, segment-below, reverse-least}
use Rattle.sweep.specs.Reach.{RunFits, Sweeps}
use Rattle.sweep.specs.declared.reach.Pair.{Pair}

-- ---- an accepted Sweep

-- what a call on segment j copies from the job, with its level's entry
abbrev pair_of : TurnSet → Job → ℕ → ℕ → Pair
pair_of turns job j mark =
    record {
      set = turns;
      size = job.terms.size;
      j = j;
      b = job.loaded;
      mark = mark;
    }

module _ (job : Job) (j : ℕ) (segment list : List ℕ) (accepted : sweep_refusal job j (length segment) (length list) ≡ 0) where
  given : SweepFacts job j (length segment) (length list)
  given = sweep-facts job j (length segment) (length list) accepted

  bounds : Bounds job
  bounds = coherent-bounds job given.called.coherent

  pub sweep-begins : begin_refusal job.terms ≡ 0
  sweep-begins = coherent-begins job given.called.coherent

  pub sweep-below : j < segment_limit
  sweep-below = segment-below job given.called.coherent j given.called.inside

  loaded-inside : job.loaded < segment_count_of job
  loaded-inside = PairLaws.loaded-below job (coherent-facts job given.called.coherent).loaded-fits given.loaded

  pub loaded-within : job.loaded < segment_limit
  loaded-within = segment-below job given.called.coherent job.loaded loaded-inside

  shifted : 1 * 2 ^ j % 2 ^ 64 ≡ 2 ^ j
  shifted = shl_exact {a = 1} 1 j 64 (omega arith) (omega (arith, sweep-below)) ∙ (let e : 1 * 2 ^ j ≡ 2 ^ j = omega arith in e)

  -- the loaded segment's number has room for the pair's bit
  pub pair_fits : swept_of job job.loaded + 1 * 2 ^ j % 2 ^ 64 < 2 ^ 64
  pair_fits =
      let G = segment_count_of job in
      let low : swept_of job job.loaded < 2 ^ G =
      subst (λ (t : Bool). swept_of job job.loaded < cond t (2 ^ G) 1) (lt-ltb job.loaded G loaded-inside)
      ((coherent-facts job given.called.coherent).swept-fits job.loaded loaded-within) in
      rw shifted
      (omega (arith, put-lt G (swept_of job job.loaded) j given.called.inside low (unswept-bit job job.loaded j given.left), pow_mono {i = G} {j = 64} bounds.few))

  pub level-some : (level : ℕ) → level ≡ level_of job.phase → 1 ≤ level
  level-some level l = rw l (reverse-least job given.called.coherent given.called.in-phase)

  -- the values as the code has them
  module _ (turns : TurnSet) (own : (kind_of turns.panes ≡ job.terms.kind) × (turns.panes.n ≡ job.terms.n) × (turns.groups ≡ job.terms.groups))
      (level mark stacks : ℕ) (l : level ≡ level_of job.phase) (k : mark ≡ next_entry ((level - 1) % 3))
      (stacks-are : stacks ≡ m job.terms j) (found : Found) (so_far : found ≡ found_at job level) where
    pub run_fits : RunFits (pair_of turns job j mark) stacks found segment list
    unfolding stack_count_at stack_count_of segment_count_of
    run_fits =
        let f = given in
        let N = stack_count_of job in
        record {
          some = bounds.some;
          listed = rw (own.0, own.1) f.wide;
          starts = rw (own.0, own.1) (segment-starts N job.terms.size bounds.some j f.called.inside);
          all = rw (own.0, own.1) stacks-are;
          bytes = rw stacks-are f.long;
          label = omega (arith, k, next-lt ((level - 1) % 3));
          few = subst (λ (x : Found). AtMost x count_limit) (sym so_far) (coherent-found job f.called.coherent level);
        }

    -- what the code leaves is what the definition says
    pub sweep-is : (marked : Found) (after : List ℕ)
        → Sweeps (pair_of turns job j mark) stacks list (marks_of segment found) (marks_of after marked)
        → (next : Job) → next ≡ with_found job level marked
        → ◌≡◌ {A = List ℕ × Answer} (
          after,
          record {
            refusal = 0;
            job = directed
                (progressed next job.phase job.passed job.waiting)
                job.way
                job.loaded
                (set job.swept job.loaded (swept_of job job.loaded + 1 * 2 ^ j % 2 ^ 64));
          },
        )
        (sweep_of job j segment list)
    unfolding reached_in is_reached with_pair stack_count_at stack_count_of
    sweep-is marked after swept next e =
        let t = job.terms in
        let d = level_of job.phase in
        let left : ℕ → ℕ → Marks → Job = λ at put x. directed
        (progressed (with_found job d x.found) job.phase job.passed job.waiting) job.way job.loaded (set job.swept at put) in
        let stacks' : List ℕ = indexes_of t.size j (reached_in job j list) in
        let start : Marks = record { segment = segment; found = found_at job d } in
        let like : Terms = terms_of t.kind t.n [] t.groups t.size 0 in
        let first : marks_of after marked ≡ mark_all like (d % 3) stacks' start =
        rw (so_far, k ∙ next_level level (level-some level l), l, stacks-are, own.0, own.1, own.2) at swept in
        let marks : marks_of after marked ≡ mark_all t d stacks' start =
        first ∙ marks-alike like t refl refl refl (d % 3) stacks' start ∙ marks-level t d stacks' start in
        ap (λ (x : Job). (after, record { refusal = 0; job = x })) (rw (e, l, shifted) refl)
        ∙ ap (λ (x : Marks). (x.segment, record { refusal = 0; job = left job.loaded (swept_of job job.loaded + 2 ^ j) x })) marks
        ∙ sym (sweep-accepted job j segment list accepted)

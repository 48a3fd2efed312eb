-- A build in the midst of a call on segment j, and each step of Expand, Settle and Sweep that keeps the invariant of the search.
--   MarksFit    the segment's bytes are bytes and as many as is right, and its spare entries are 3
--   FoundFits   what the level has found is what the entries say
--   LogsFit     what waits fits the logs, and is an offset of its segment
--   stage       the world that a call on segment j of w has come to
--   Staged      what holds of it
--   Searching   what holds before and after a call: shape and search
--   Marking     what holds when the stacks of a list are marked
--   redirect    a world with another loaded segment, other pairs and another changed list
use mathlib.Core.Path.{◌≡◌, refl, sym, ap, ◌∙◌, subst}
use mathlib.Core.Logic.{◌⊎◌, inl, inr}
use mathlib.Core.Bool.{true, cond}
use mathlib.Core.List.{List, [], ◌∷◌}
use Prim.Native.Nat.{ℕ, zero, suc, ◌+◌, ◌*◌, ◌/◌, ◌%◌, ◌^◌, ◌<◌, ◌≤◌}
use native.Mathlib.Nat.{div-add-mod', mul-le-mul_right, suc-mul}
use native.Mathlib.Omega.{arith}
use lib.Arith.{digits_div, digits_mod}
use lib.Dec.{ltb, eqb}
use lib.ListN.{length, get_or, set, length-set}
use lib.Seq.{get_or-set_same, get_or-set_other, set-get_or}
use Rattle.base.specs.Words.{tally, from}
use Rattle.base.proofs.Tests.{eq-or-ne, lt-or-ge}
use Rattle.graph.specs.Walks.{is_move}
use Rattle.graph.proofs.Counts.{found}
use Rattle.graph.proofs.LevelCounts.{counting-found}
use Rattle.graph.proofs.Levels.{Level, Marked, level-mark, level-log, level-look, level-unlog}
use Rattle.search.specs.Build.{World, with_job, with_segment, with_log, with_changed}
use Rattle.search.specs.Entries.{entry_at, bytes_for}
use Rattle.search.specs.JobState.{passed_of, waiting_of, count_of, swept_of, is_swept, is_reverse, no_segment, progressed, recounted, directed}
use Rattle.search.specs.Segments.{segment_limit}
use Rattle.search.specs.Marks.{every_stack, found_one, Marks, mark_one, mark_all, found_at, with_found}
use Rattle.search.specs.Logs.{Logs, log_one}
use Rattle.search.specs.Terms.{N, G, m}
use Rattle.search.specs.declared.Found.{Found}
use Rattle.search.specs.declared.Terms.{Terms}
use Rattle.search.proofs.Invariant.{Shaped, Searches, Listing, Looked, Logged, entry_in}
use Rattle.search.proofs.MarkLaws.{mark-length, mark-bytes, mark-other, mark-marked, mark-count, marked-before, marked-after}
use Rattle.search.proofs.SegmentLaws.{stack-segment, stack-offset}
use Rattle.search.proofs.Given.{Given, moves, step, D, some, few}

pub record MarksFit (terms : Terms) (j : ℕ) (marks : Marks) : Type 0 where
  pub bytes : length marks.segment ≡ bytes_for (m terms j)
  pub byte : (k : ℕ) → get_or marks.segment k 0 < 256
  pub spare : (i : ℕ) → m terms j ≤ i → i < 4 * bytes_for (m terms j) → entry_at marks.segment i ≡ 3

pub record LogsFit (terms : Terms) (logs : Logs) : Type 0 where
  pub waiting-length : length logs.waiting ≡ segment_limit
  pub log_length : length logs.log ≡ G terms * terms.room
  pub waiting-fits : (t : ℕ) → get_or logs.waiting t 0 ≤ terms.room
  pub waiting-beyond : (t : ℕ) → G terms ≤ t → get_or logs.waiting t 0 ≡ 0
  pub offsets : (t i : ℕ) → t < G terms → i < get_or logs.waiting t 0 → get_or logs.log (t * terms.room + i) 0 < m terms t

-- stack v waits in its log; stack u was passed, or its segment is swept by v's, and it has child v
abbrev pub Held : Terms → Logs → ℕ → Type 0
Held terms logs v =
    (v < N terms) × ((i : ℕ) × (i < get_or logs.waiting (v / terms.size) 0) × (get_or logs.log (v / terms.size * terms.room + i) 0 ≡ v % terms.size))

abbrev pub Met : Terms → List ℕ → List ℕ → ℕ → ℕ → Type 0
Met terms swept passed u v =
    ((u % terms.size < get_or passed (u / terms.size) 0) ⊎ (eqb (get_or swept (u / terms.size) 0 / 2 ^ (v / terms.size) % 2) 1 ≡ true))
    × ((k : ℕ) × (is_move (moves terms) k ≡ true) × (step terms k u ≡ v))

-- what level d has found is what its entries say
pub record FoundFits (terms : Terms) (d : ℕ) (e : ℕ → ℕ) (all : Found) : Type 0 where
  pub count : all.count ≡ tally (found (every_stack terms) (D terms) d e) (from 0 (N terms))

pub mark-fits : (terms : Terms) (j d v : ℕ) (marks : Marks) → v % terms.size < m terms j → MarksFit terms j marks
    → MarksFit terms j (mark_one terms d v marks)
mark-fits terms j d v marks h fit =
    record {
      bytes = mark-length terms d v marks ∙ fit.bytes;
      byte = mark-bytes terms d v marks fit.byte;
      spare = λ l g k. mark-other terms d v marks l (λ e. omega arith) ∙ fit.spare l g k;
    }

-- an offset appended to the log of segment t, which has room
module _ (terms : Terms) (few : G terms ≤ segment_limit) (logs : Logs) (fit : LogsFit terms logs) (t i : ℕ) (inside : t < G terms)
    (room : get_or logs.waiting t 0 < terms.room) where
  pub log-waiting : get_or (log_one terms.room t i logs).waiting t 0 ≡ get_or logs.waiting t 0 + 1
  unfolding log_one
  log-waiting = get_or-set_same logs.waiting t (get_or logs.waiting t 0 + 1) 0 (omega (arith, fit.waiting-length))

  pub log-waiting-other : (u : ℕ) → (u ≡ t → ⊥) → get_or (log_one terms.room t i logs).waiting u 0 ≡ get_or logs.waiting u 0
  unfolding log_one
  log-waiting-other u ne = get_or-set_other logs.waiting t u (get_or logs.waiting t 0 + 1) 0 ne

  log-new : get_or (log_one terms.room t i logs).log (t * terms.room + get_or logs.waiting t 0) 0 ≡ i
  unfolding log_one
  log-new =
      get_or-set_same logs.log (t * terms.room + get_or logs.waiting t 0) i 0
      (omega (arith, fit.log_length, suc-mul t terms.room, mul-le-mul_right terms.room inside))

  -- what waits already stands at another place
  log-old : (u k : ℕ) → k < get_or logs.waiting u 0 → get_or (log_one terms.room t i logs).log (u * terms.room + k) 0 ≡ get_or logs.log (u * terms.room + k) 0
  unfolding log_one
  log-old u k h = get_or-set_other logs.log (t * terms.room + get_or logs.waiting t 0) (u * terms.room + k) i 0 apart
    where
      apart : u * terms.room + k ≡ t * terms.room + get_or logs.waiting t 0 → ⊥
      apart e =
          let small : k < terms.room = omega (arith, fit.waiting-fits u) in
          let same : u ≡ t = sym (digits_div u small) ∙ ap (λ (x : ℕ). x / terms.room) e ∙ digits_div t room in
          let place : k ≡ get_or logs.waiting t 0 = sym (digits_mod u small) ∙ ap (λ (x : ℕ). x % terms.room) e ∙ digits_mod t room in
          omega (arith, ap (λ (x : ℕ). get_or logs.waiting x 0) same)

  -- an entry that waits now waited before, or is the new one
  log-cases : (u k : ℕ) → k < get_or (log_one terms.room t i logs).waiting u 0
      → (k < get_or logs.waiting u 0) ⊎ ((u ≡ t) × (k ≡ get_or logs.waiting t 0))
  log-cases u k h = go (eq-or-ne u t) (lt-or-ge k (get_or logs.waiting u 0))
    where
      go : (u ≡ t) ⊎ (u ≡ t → ⊥) → (k < get_or logs.waiting u 0) ⊎ (get_or logs.waiting u 0 ≤ k)
          → (k < get_or logs.waiting u 0) ⊎ ((u ≡ t) × (k ≡ get_or logs.waiting t 0))
      go e (inl l) = inl l
      go (inl e) (inr l) =
          inr (
            e,
            omega (
              arith,
              log-waiting,
              ap (λ (x : ℕ). get_or logs.waiting x 0) e,
              ap (λ (x : ℕ). get_or (log_one terms.room t i logs).waiting x 0) e,
            ),
          )
      go (inr ne) (inr l) = absurd (omega (arith, log-waiting-other u ne))

  log-kept : (u : ℕ) → get_or logs.waiting u 0 ≤ get_or (log_one terms.room t i logs).waiting u 0
  log-kept u = go (eq-or-ne u t)
    where
      go : (u ≡ t) ⊎ (u ≡ t → ⊥) → get_or logs.waiting u 0 ≤ get_or (log_one terms.room t i logs).waiting u 0
      go (inl e) = rw e (omega (arith, log-waiting))
      go (inr ne) = omega (arith, log-waiting-other u ne)

  pub log-fits : i < m terms t → LogsFit terms (log_one terms.room t i logs)
  unfolding log_one
  log-fits h =
      record {
        waiting-length = length-set logs.waiting t (get_or logs.waiting t 0 + 1) ∙ fit.waiting-length;
        log_length = length-set logs.log (t * terms.room + get_or logs.waiting t 0) i ∙ fit.log_length;
        waiting-fits = λ u. go u (eq-or-ne u t);
        waiting-beyond = λ u l. log-waiting-other u (λ e. omega arith) ∙ fit.waiting-beyond u l;
        offsets = λ u k l m. at u k l (log-cases u k m);
      }
    where
      go : (u : ℕ) → (u ≡ t) ⊎ (u ≡ t → ⊥) → get_or (log_one terms.room t i logs).waiting u 0 ≤ terms.room
      go u (inl e) = rw e (omega (arith, log-waiting))
      go u (inr ne) = omega (arith, log-waiting-other u ne, fit.waiting-fits u)

      at : (u k : ℕ) → u < G terms → (k < get_or logs.waiting u 0) ⊎ ((u ≡ t) × (k ≡ get_or logs.waiting t 0))
          → get_or (log_one terms.room t i logs).log (u * terms.room + k) 0 < m terms u
      at u k l (inl m) = omega (arith, log-old u k m, fit.offsets u k l m)
      at u k l (inr e) = rw (e.0, e.1) (omega (arith, log-new))

  pub log-more : (v : ℕ) → Held terms logs v → Held terms (log_one terms.room t i logs) v
  log-more v h = (h.0, (h.1.0, omega (arith, log-kept (v / terms.size)), log-old (v / terms.size) h.1.0 h.1.1 ∙ h.1.2))

  log-only : (v : ℕ) → Held terms (log_one terms.room t i logs) v → (Held terms logs v) ⊎ ((v / terms.size ≡ t) × (v % terms.size ≡ i))
  log-only v h = go (log-cases (v / terms.size) h.1.0 h.1.1)
    where
      go : (h.1.0 < get_or logs.waiting (v / terms.size) 0) ⊎ ((v / terms.size ≡ t) × (h.1.0 ≡ get_or logs.waiting t 0))
          → (Held terms logs v) ⊎ ((v / terms.size ≡ t) × (v % terms.size ≡ i))
      go (inl l) = inl (h.0, (h.1.0, l, sym (log-old (v / terms.size) h.1.0 l) ∙ h.1.2))
      go (inr e) = inr (
        e.0,
        sym h.1.2
            ∙ ap (λ (x : ℕ). get_or (log_one terms.room t i logs).log (x * terms.room + h.1.0) 0) e.0
            ∙ ap (λ (x : ℕ). get_or (log_one terms.room t i logs).log (t * terms.room + x) 0) e.1
            ∙ log-new,
      )

  pub log-held : (v : ℕ) → v < N terms → v / terms.size ≡ t → v % terms.size ≡ i → Held terms (log_one terms.room t i logs) v
  log-held v h e m =
      (h, (get_or logs.waiting t 0, rw e (omega (arith, log-waiting)), rw (e, m) log-new))

-- the world that a call on segment j, in level d, has come to
unfoldable pub stage : World → ℕ → ℕ → Marks → Logs → ℕ → World
stage w d j marks logs at =
    with_job (progressed (with_found w.job d marks.found) w.job.phase (set w.job.passed j at) logs.waiting)
    (with_log logs.log (with_segment j marks.segment w))

module _ (terms : Terms) where
  pub record Searching (w : World) (d : ℕ) : Type 0 where
    pub shaped : Shaped terms w
    pub searches : Searches terms w d

  pub record Staged (w : World) (d j : ℕ) (marks : Marks) (logs : Logs) (at : ℕ) : Type 0 where
    pub at-fits : at ≤ m terms j
    pub marks-fit : MarksFit terms j marks
    pub logs-fit : LogsFit terms logs
    pub level : Level (N terms) (D terms) d (entry_in terms.size (set w.segments j marks.segment)) (Met terms w.job.swept (set w.job.passed j at)) (Held terms logs)
    pub found-fits : FoundFits terms d (entry_in terms.size (set w.segments j marks.segment)) marks.found

module _ {terms : Terms} (given : Given terms) {w : World} {d : ℕ} (search : Searching terms w d) (j : ℕ) (inside : j < G terms) where
  listed : j < length w.segments
  listed = omega (arith, search.shaped.segments-length)

  counted : d < length w.job.counts
  counted = omega (arith, search.shaped.counts-length, search.searches.last)

  passed_here : (at t : ℕ) → t ≡ j → get_or (set w.job.passed j at) t 0 ≡ at
  passed_here at t e =
      ap (λ (x : ℕ). get_or (set w.job.passed j at) x 0) e
      ∙ get_or-set_same w.job.passed j at 0 (omega (arith, search.shaped.passed_length, few given))

  -- a call starts from the world as it is
  pub stage-start : Staged terms w d j (record { segment = get_or w.segments j []; found = found_at w.job d })
      (record { log = w.log; waiting = w.job.waiting }) (passed_of w.job j)
  unfolding count_of passed_of waiting_of swept_of is_swept Looked Logged
  stage-start =
      record {
        at-fits = search.searches.passed-fits j;
        marks-fit = record {
          bytes = search.shaped.segment-bytes j inside;
          byte = λ k. search.searches.spares.byte j k inside;
          spare = λ i. search.searches.spares.spare j i inside;
        };
        logs-fit = record {
          waiting-length = search.shaped.waiting-length;
          log_length = search.shaped.log_length;
          waiting-fits = search.searches.waiting-fits;
          waiting-beyond = search.searches.waiting-beyond;
          offsets = search.searches.offsets;
        };
        level = rw (set-get_or w.segments j [], set-get_or w.job.passed j 0) search.searches.level;
        found-fits = record { count = rw (set-get_or w.segments j []) search.searches.counts.here };
      }

  module _ {marks : Marks} {logs : Logs} {at : ℕ} (staged : Staged terms w d j marks logs at) where
    module _ (v : ℕ) (h : v < N terms) (here : v / terms.size ≡ j) where
      pub stage-marked : Marked (N terms) d (entry_in terms.size (set w.segments j marks.segment))
          (entry_in terms.size (set w.segments j (mark_one terms d v marks).segment)) v
      stage-marked = mark-marked terms (some given) w.segments j listed d v marks h here staged.marks-fit.bytes

      stage-found : D terms v ≤ d → FoundFits terms d (entry_in terms.size (set w.segments j (mark_one terms d v marks).segment)) (mark_one terms d v marks).found
      unfolding found_one
      stage-found near =
          record {
            count = mark-count terms (some given) w.segments j listed d v marks h here staged.marks-fit.bytes
                (every_stack terms) (λ all. all.count) (λ all. refl) staged.level near staged.found-fits.count;
          }

      -- a stack of this segment that is no deeper than d is marked
      pub stage-mark : D terms v ≤ d → Staged terms w d j (mark_one terms d v marks) logs at
      stage-mark near =
          record {
            at-fits = staged.at-fits;
            marks-fit = mark-fits terms j d v marks
                (subst (λ (t : ℕ). v % terms.size < m terms t) here (stack-offset (N terms) terms.size (some given) v h)) staged.marks-fit;
            logs-fit = staged.logs-fit;
            level = level-mark staged.level near stage-marked;
            found-fits = stage-found near;
          }

    -- a stack elsewhere that is no deeper than d is logged
    pub stage-log : (v : ℕ) → v < N terms → D terms v ≤ d → get_or logs.waiting (v / terms.size) 0 < terms.room
        → Staged terms w d j marks (log_one terms.room (v / terms.size) (v % terms.size) logs) at
    stage-log v h near room =
        let t : v / terms.size < G terms = stack-segment (N terms) terms.size (some given) v h in
        let fit : LogsFit terms logs = staged.logs-fit in
        record {
          at-fits = staged.at-fits;
          marks-fit = staged.marks-fit;
          logs-fit = log-fits terms (few given) logs fit (v / terms.size) (v % terms.size) t room (stack-offset (N terms) terms.size (some given) v h);
          level = level-log staged.level v h near (log-more terms (few given) logs fit (v / terms.size) (v % terms.size) t room)
              (λ u i. only u (log-only terms (few given) logs fit (v / terms.size) (v % terms.size) t room u i));
          found-fits = staged.found-fits;
        }
      where
        only : (u : ℕ) → (Held terms logs u) ⊎ ((u / terms.size ≡ v / terms.size) × (u % terms.size ≡ v % terms.size))
            → (Held terms logs u) ⊎ (u ≡ v)
        only u (inl i) = inl i
        only u (inr e) =
            inr (omega (arith, div-add-mod' u terms.size, div-add-mod' v terms.size, ap (λ (x : ℕ). x * terms.size) e.0))

    -- the next stack is passed, if the children of a stack of the level before are seen or logged
    pub stage-pass : at < m terms j
        → ((k : ℕ) → is_move (moves terms) k ≡ true → suc (D terms (j * terms.size + at)) ≡ d
        → entry_in terms.size (set w.segments j marks.segment) (step terms k (j * terms.size + at)) ≡ 3
        → Held terms logs (step terms k (j * terms.size + at)))
        → Staged terms w d j marks logs (suc at)
    stage-pass h placed =
        record {
          at-fits = h;
          marks-fit = staged.marks-fit;
          logs-fit = staged.logs-fit;
          level = level-look staged.level (λ u v g i s m e. go u v s m.0 m.1 e (eq-or-ne (u / terms.size) j) (eq-or-ne (u % terms.size) at));
          found-fits = staged.found-fits;
        }
      where
        go : (u v : ℕ) → suc (D terms u) ≡ d
            → (u % terms.size < get_or (set w.job.passed j (suc at)) (u / terms.size) 0) ⊎ (eqb (get_or w.job.swept (u / terms.size) 0 / 2 ^ (v / terms.size) % 2) 1 ≡ true)
            → ((k : ℕ) × (is_move (moves terms) k ≡ true) × (step terms k u ≡ v))
            → entry_in terms.size (set w.segments j marks.segment) v ≡ 3 → (u / terms.size ≡ j) ⊎ (u / terms.size ≡ j → ⊥) → (u % terms.size ≡ at) ⊎ (u % terms.size ≡ at → ⊥)
            → (Met terms w.job.swept (set w.job.passed j at) u v) ⊎ (Held terms logs v)
        go u v s (inr swept) edge e i l = inl (inr swept, edge)
        go u v s (inl p) edge e (inl i) (inl l) =
            let k = edge.0 in
            let this : u ≡ j * terms.size + at = omega (arith, div-add-mod' u terms.size, ap (λ (x : ℕ). x * terms.size) i) in
            let child : step terms k (j * terms.size + at) ≡ v = ap (step terms k) (sym this) ∙ edge.2 in
            inr
            (subst (Held terms logs) child
            (placed k edge.1 (ap (λ (x : ℕ). suc (D terms x)) (sym this) ∙ s)
            (ap (entry_in terms.size (set w.segments j marks.segment)) child ∙ e)))
        go u v s (inl p) edge e (inl i) (inr l) =
            inl (inl (omega (arith, passed_here at (u / terms.size) i, passed_here (suc at) (u / terms.size) i)), edge)
        go u v s (inl p) edge e (inr i) l =
            inl (
              inl (omega (
                arith,
                get_or-set_other w.job.passed j (u / terms.size) at 0 i,
                get_or-set_other w.job.passed j (u / terms.size) (suc at) 0 i,
              )),
              edge,
            )

    -- segment j's log is emptied, if all that waits there is seen
    pub stage-empty : ((v : ℕ) → v < N terms → v / terms.size ≡ j → entry_in terms.size (set w.segments j marks.segment) v ≡ 3
        → Held terms logs v → ⊥)
        → Staged terms w d j marks (record { log = logs.log; waiting = set logs.waiting j 0 }) at
    stage-empty seen =
        record {
          at-fits = staged.at-fits;
          marks-fit = staged.marks-fit;
          logs-fit = record {
            waiting-length = length-set logs.waiting j 0 ∙ fit.waiting-length;
            log_length = fit.log_length;
            waiting-fits = λ t. omega (arith, fewer t, fit.waiting-fits t);
            waiting-beyond = λ t l. omega (arith, fewer t, fit.waiting-beyond t l);
            offsets = λ t i l m. fit.offsets t i l (omega (arith, fewer t));
          };
          level = level-unlog staged.level
              (λ v i. (i.0, (i.1.0, omega (arith, fewer (v / terms.size)), i.1.2)))
              (λ v h e i. keeps v h e i (eq-or-ne (v / terms.size) j));
          found-fits = staged.found-fits;
        }
      where
        fit : LogsFit terms logs
        fit = staged.logs-fit

        none : get_or (set logs.waiting j 0) j 0 ≡ 0
        none = get_or-set_same logs.waiting j 0 0 (omega (arith, fit.waiting-length, few given))

        fewer : (t : ℕ) → get_or (set logs.waiting j 0) t 0 ≤ get_or logs.waiting t 0
        fewer t = go (eq-or-ne t j)
          where
            go : (t ≡ j) ⊎ (t ≡ j → ⊥) → get_or (set logs.waiting j 0) t 0 ≤ get_or logs.waiting t 0
            go (inl e) = rw e (omega (arith, none))
            go (inr ne) = omega (arith, get_or-set_other logs.waiting j t 0 0 ne)

        keeps : (v : ℕ) → v < N terms → entry_in terms.size (set w.segments j marks.segment) v ≡ 3 → Held terms logs v → (v / terms.size ≡ j) ⊎ (v / terms.size ≡ j → ⊥)
            → Held terms (record { log = logs.log; waiting = set logs.waiting j 0 }) v
        keeps v h e i (inl here) = absurd (seen v h here e i)
        keeps v h e i (inr ne) = (h, (i.1.0, omega (arith, get_or-set_other logs.waiting j (v / terms.size) 0 0 ne), i.1.2))

    -- in a reverse level nothing may wait
    pub stage-end : (is_reverse w.job.way ≡ true → (t : ℕ) → get_or logs.waiting t 0 ≡ 0) → Searching terms (stage w d j marks logs at) d
    unfolding stage progressed recounted passed_of waiting_of count_of swept_of is_swept Looked Logged
    stage-end idle =
        record {
          shaped = record {
            terms_is = search.shaped.terms_is;
            passed_length = length-set w.job.passed j at ∙ search.shaped.passed_length;
            waiting-length = staged.logs-fit.waiting-length;
            swept-length = search.shaped.swept-length;
            counts-length = length-set w.job.counts d marks.found.count ∙ search.shaped.counts-length;
            segments-length = length-set w.segments j marks.segment ∙ search.shaped.segments-length;
            segment-bytes = λ t h. bytes t h (eq-or-ne t j);
            log_length = staged.logs-fit.log_length;
            loaded-fits = search.shaped.loaded-fits;
            swept-fits = search.shaped.swept-fits;
          };
          searches = record {
            phase_is = search.searches.phase_is;
            last = search.searches.last;
            before = search.searches.before;
            passed-fits = λ t. passed t (eq-or-ne t j);
            waiting-fits = staged.logs-fit.waiting-fits;
            waiting-beyond = staged.logs-fit.waiting-beyond;
            offsets = staged.logs-fit.offsets;
            level = staged.level;
            spares = record { byte = λ t k h. byte t k h (eq-or-ne t j); spare = λ t i h. spare t i h (eq-or-ne t j) };
            counts = counting-found search.searches.counts (λ i ne. get_or-set_other w.job.counts d i marks.found.count 0 ne)
                (get_or-set_same w.job.counts d marks.found.count 0 counted ∙ staged.found-fits.count);
            idle = idle;
            listed = λ r l. record { long = (search.searches.listed r l).long; bits = (search.searches.listed r l).bits };
          };
        }
      where
        bytes : (t : ℕ) → t < G terms → (t ≡ j) ⊎ (t ≡ j → ⊥)
            → length (get_or (set w.segments j marks.segment) t []) ≡ bytes_for (m terms t)
        bytes t h (inl e) = rw (e, get_or-set_same w.segments j marks.segment [] listed) staged.marks-fit.bytes
        bytes t h (inr ne) = rw (get_or-set_other w.segments j t marks.segment [] ne) (search.shaped.segment-bytes t h)

        passed : (t : ℕ) → (t ≡ j) ⊎ (t ≡ j → ⊥) → get_or (set w.job.passed j at) t 0 ≤ m terms t
        passed t (inl e) = rw (passed_here at t e, e) staged.at-fits
        passed t (inr ne) = rw (get_or-set_other w.job.passed j t at 0 ne) (search.searches.passed-fits t)

        byte : (t k : ℕ) → t < G terms → (t ≡ j) ⊎ (t ≡ j → ⊥) → get_or (get_or (set w.segments j marks.segment) t []) k 0 < 256
        byte t k h (inl e) = rw (e, get_or-set_same w.segments j marks.segment [] listed) (staged.marks-fit.byte k)
        byte t k h (inr ne) = rw (get_or-set_other w.segments j t marks.segment [] ne) (search.searches.spares.byte t k h)

        spare : (t i : ℕ) → t < G terms → (t ≡ j) ⊎ (t ≡ j → ⊥) → m terms t ≤ i → i < 4 * bytes_for (m terms t)
            → entry_at (get_or (set w.segments j marks.segment) t []) i ≡ 3
        spare t i h (inl e) g k =
            ap (λ (x : ℕ). entry_at (get_or (set w.segments j marks.segment) x []) i) e
            ∙ ap (λ (b : List ℕ). entry_at b i) (get_or-set_same w.segments j marks.segment [] listed)
            ∙ staged.marks-fit.spare i (rw e at g) (rw e at k)
        spare t i h (inr ne) g k =
            ap (λ (b : List ℕ). entry_at b i) (get_or-set_other w.segments j t marks.segment [] ne) ∙ search.searches.spares.spare t i h g k

module _ {terms : Terms} (given : Given terms) {w : World} {d : ℕ} (search : Searching terms w d) (j : ℕ) (inside : j < G terms) where
  -- the stacks of a list, each of this segment and no deeper than d, were marked: each is seen, and nothing else is unseen that was not
  pub record Marking (logs : Logs) (at : ℕ) (stacks : List ℕ) (marks marks' : Marks) : Type 0 where
    pub staged : Staged terms w d j marks' logs at
    pub before : (v : ℕ) → v < N terms → entry_in terms.size (set w.segments j marks'.segment) v ≡ 3
        → entry_in terms.size (set w.segments j marks.segment) v ≡ 3
    pub done : (k : ℕ) → k < length stacks → entry_in terms.size (set w.segments j marks'.segment) (get_or stacks k 0) ≡ 3 → ⊥

  -- what must hold of each of them
  pub record Due (v : ℕ) : Type 0 where
    pub low : v < N terms
    pub here : v / terms.size ≡ j
    pub near : D terms v ≤ d

  pub mark-all : (logs : Logs) (at : ℕ) (stacks : List ℕ) (marks : Marks) → Staged terms w d j marks logs at
      → ((k : ℕ) → k < length stacks → Due (get_or stacks k 0)) → Marking logs at stacks marks (mark_all terms d stacks marks)
  unfolding mark_all
  mark-all logs at [] marks staged due = record { staged = staged; before = λ v h e. e; done = λ k h. absurd (omega arith) }
  mark-all logs at (v ∷ stacks) marks staged due =
      let first : Due v = due 0 (omega arith) in
      let one = stage-mark given search j inside staged v first.low first.here first.near in
      let marked = stage-marked given search j inside staged v first.low first.here in
      let rest = mark-all logs at stacks (mark_one terms d v marks) one (λ k l. due (suc k) (omega arith)) in
      record {
        staged = rest.staged;
        before = λ u l e. marked-before marked u l (rest.before u l e);
        done = λ k. each marked rest k;
      }
    where
      each : Marked (N terms) d (entry_in terms.size (set w.segments j marks.segment))
          (entry_in terms.size (set w.segments j (mark_one terms d v marks).segment)) v
          → Marking logs at stacks (mark_one terms d v marks) (mark_all terms d stacks (mark_one terms d v marks))
          → (k : ℕ) → k < suc (length stacks)
          → entry_in terms.size (set w.segments j (mark_all terms d stacks (mark_one terms d v marks)).segment) (get_or (v ∷ stacks) k 0) ≡ 3 → ⊥
      each marked rest zero l e = marked-after marked (rest.before v (due 0 (omega arith)).low e)
      each marked rest (suc k) l e = rest.done k (omega arith) e

-- ---- what is loaded and swept

-- the world with another loaded segment, other swept pairs and another changed list
abbrev pub redirect : World → ℕ → List ℕ → List ℕ → World
redirect w loaded swept changed = with_job (directed w.job w.job.way loaded swept) (with_changed changed w)

pub redirected : {terms : Terms} {w : World} {d : ℕ} → Searching terms w d → (loaded : ℕ) (swept changed : List ℕ)
    → (let x = redirect w loaded swept changed in
    (loaded ≡ no_segment) ⊎ (loaded < G terms)
    → length swept ≡ segment_limit
    → ((b : ℕ) → get_or swept b 0 < cond (ltb b (G terms)) (2 ^ G terms) 1)
    → Level (N terms) (D terms) d (entry_in terms.size w.segments) (Looked terms x.job) (Logged terms w)
    → (is_reverse w.job.way ≡ true → loaded < G terms → Listing terms x d)
    → Searching terms x d)
unfolding directed passed_of waiting_of count_of swept_of Logged
redirected search loaded swept changed low long fits level listed =
    record {
      shaped = record {
        terms_is = search.shaped.terms_is;
        passed_length = search.shaped.passed_length;
        waiting-length = search.shaped.waiting-length;
        swept-length = long;
        counts-length = search.shaped.counts-length;
        segments-length = search.shaped.segments-length;
        segment-bytes = search.shaped.segment-bytes;
        log_length = search.shaped.log_length;
        loaded-fits = low;
        swept-fits = fits;
      };
      searches = record {
        phase_is = search.searches.phase_is;
        last = search.searches.last;
        before = search.searches.before;
        passed-fits = search.searches.passed-fits;
        waiting-fits = search.searches.waiting-fits;
        waiting-beyond = search.searches.waiting-beyond;
        offsets = search.searches.offsets;
        level = level;
        spares = record { byte = search.searches.spares.byte; spare = search.searches.spares.spare };
        counts = search.searches.counts;
        idle = search.searches.idle;
        listed = listed;
      };
    }

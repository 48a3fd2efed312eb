-- What a report means: the table of an accepted first frame is that of a finished build, so the levels are its levels and the plans are shortest.
use mathlib.Core.Path.{◌≡◌, refl, sym, ap, subst, ◌∙◌}
use mathlib.Core.Logic.{◌⊎◌, inl, inr}
use mathlib.Core.Bool.{Bool, true, false, cond}
use mathlib.Core.List.{List, [], ◌∷◌, ◌++◌}
use Prim.Native.Nat.{ℕ, suc, ◌+◌, ◌/◌, ◌%◌, ◌<◌, ◌≤◌}
use native.Mathlib.Nat.{mod-eq_of_lt}
use native.Mathlib.Omega.{arith}
use lib.Dec.{leb, ltb, eqb}
use lib.IntN.{ℤ}
use lib.ListN.{length, get_or, take, drop, replicate, length-replicate, take-append-drop, get_or-eq_default}
use lib.Seq.{take_at, take-append_seam, length-take-le, get_or-take, get_or-drop}
use borrow.Author.Tests.{eq-eqb, ne_eqb, lt-ltb, le-leb}
use Rattle.base.specs.Words.{all, tally, total}
use Rattle.base.proofs.Counting.{tally-le, tally-at, total-append}
use Rattle.base.proofs.Tests.{and_left, and_right, and_both, lt-or-ge}
use Rattle.stacks.specs.Counts.{CountsAt}
use Rattle.stacks.specs.Index.{rank_of, all_stacks}
use Rattle.stacks.specs.Stack.{stack_places, is_pane_count, is_stack, stack_count}
use Rattle.stacks.specs.Turn.{last_turn, is_turn, UndoesItself, turns_in, all_groups, Road, Fewest}
use Rattle.stacks.proofs.KindLaws.{kind-low}
use Rattle.stacks.proofs.MoveLaws.{undoes-itself}
use Rattle.stacks.proofs.Numbering.{rank_lt}
use Rattle.stacks.proofs.GroupLaws.{all-groups}
use Rattle.stacks.proofs.TurnLaws.{turn_last, last-places}
use Rattle.search.specs.Build.{World}
use Rattle.search.specs.Changed.{list_bytes}
use Rattle.search.specs.Drive.{build_refusal, built, build_of, Builds}
use Rattle.search.specs.Entries.{seen_in, bytes_for}
use Rattle.search.specs.JobState.{last_level, count_of, level_of}
use Rattle.search.specs.Plan.{plan_of, plan_limit, plan_refusal, route_from}
use Rattle.search.specs.Promise.{right_words, Plans, Finishes}
use Rattle.search.specs.PromiseBy.{PlanArrives}
use Rattle.search.specs.Segments.{segment_count, stack_count_in, is_log_room, joined}
use Rattle.search.specs.Terms.{terms_of}
use Rattle.search.specs.Answers.{Answer}
use Rattle.search.specs.declared.Job.{Job}
use Rattle.search.specs.Answers.{Planned}
use Rattle.search.specs.declared.Terms.{Terms}
use Rattle.search.proofs.AllStacks.{all-stacks-length, all-stacks-each}
use Rattle.search.proofs.Coherence.{given-begin}
use Rattle.search.proofs.Given.{Given}
use Rattle.search.proofs.Finishing.{plan-arrives}
use Rattle.search.proofs.WholeTable.{build_ends, build-finishes}
use Rattle.search.proofs.AllTurns.{few-turns}
use Rattle.text.specs.Frame.{First, as_first, stack_limit, table_limit, report_room, places_of, kind_in, panes_in, wanted_in, size_in, first_with, first_refusal, first_of, later_refusal, later_of}
use Rattle.text.specs.Hex.{is_byte, bytes_of, line_of, four_bytes}
use Rattle.text.specs.Output.{level_line, line_at, level_counts, level_lines, deepest_line, total_line, plan_line, refusal_line}
use Rattle.text.proofs.FrameRefusals.{FirstPasses, first_passes, later-facts}
use Rattle.text.proofs.HexLaws.{number-four, line-says}
use Rattle.text.specs.Report.{is_reported, report_groups, table_bytes, log_words, changed_bytes, built_in, printed_total, head_text, plan_text, later_texts, report_from, report_of}
use Rattle.text.specs.Promise.{Answers, Reports}
use Rattle.text.proofs.Writing.{levels-same}
use Rattle.text.specs.declared.FirstFrame.{FirstFrame}
use Rattle.std.specs.Prelude.{Ok}
use Rattle.text.proofs.LentLaws.{built_answer, groups-some, table-some, log-some, changed-some}
use Rattle.text.proofs.AnswerLaws.{plan-accepted, later-accepted, later-refused}

-- as many turns are answered as stand at the front of the list
front-count : (t : Bool) (r : ℕ) (turns list : List ℕ)
    → (let accepted : List ℕ × Planned = (turns ++ drop (length turns) list, record { refusal = 0; turns = length turns }) in
    let out = cond t accepted (list, record { refusal = r; turns = 0 }) in
    length (take out.1.turns out.0) ≡ out.1.turns)
front-count true r turns list = ap length (take-append_seam turns (drop (length turns) list))
front-count false r turns list = refl

plan-count : (kind n : ℕ) (wanted given : List ℤ) (groups : ℕ) (table list : List ℕ)
    → (let out = plan_of kind n wanted given groups table list in length (take out.1.turns out.0) ≡ out.1.turns)
unfolding plan_of
plan-count kind n wanted given groups table list =
    let r = plan_refusal kind n wanted given groups table (length list) 0 in
    front-count (eqb r 0) r (route_from kind n table wanted (turns_in kind n groups) given).turns list

later-stack : (kind n : ℕ) (cs : List ℕ) → later_refusal kind n cs ≡ 0 → (later_of kind n cs).stack ≡ places_of (bytes_of cs)
unfolding later_of
later-stack kind n cs h = rw (eq-eqb (later_refusal kind n cs) 0 h)

later-is-stack : (kind n : ℕ) (cs : List ℕ) → later_refusal kind n cs ≡ 0 → is_stack kind n (places_of (bytes_of cs)) ≡ true
later-is-stack kind n cs h = (later-facts kind n cs h).1.1

-- turns fit their byte, and so does the number of a plan's turns
turns_fit : (kind n : ℕ) (ks : List ℕ) → last_turn kind n ≤ stack_places → all (is_turn kind n) ks ≡ true → all is_byte ks ≡ true
unfolding all is_byte
turns_fit kind n [] h t = refl
turns_fit kind n (k ∷ ks) h t =
    let last = turn_last kind n k (and_left (is_turn kind n k) (all (is_turn kind n) ks) t) in
    and_both (ltb k 256) (all is_byte ks) (lt-ltb k 256 (omega arith)) (turns_fit kind n ks h (and_right (is_turn kind n k) (all (is_turn kind n) ks) t))

plan-fits : (kind n : ℕ) (turns : List ℕ) → last_turn kind n ≤ stack_places → length turns ≤ plan_limit → all (is_turn kind n) turns ≡ true
    → all is_byte (length turns ∷ turns) ≡ true
unfolding all is_byte
plan-fits kind n turns h l t =
    and_both (ltb (length turns) 256) (all is_byte turns) (lt-ltb (length turns) 256 (omega arith)) (turns_fit kind n turns h t)

-- Plan's promise, of a set and a table
pub record PlansIn (kind n : ℕ) (wanted : List ℤ) (groups : ℕ) (table : List ℕ) (given : List ℤ) : Type 0 where
  pub accepts : (plan_of kind n wanted given groups table (replicate plan_limit 0)).1.refusal ≡ 0
  pub arrives : (let out = plan_of kind n wanted given groups table (replicate plan_limit 0) in Road kind n (take out.1.turns out.0) given wanted)
  pub shortest : Fewest kind n given wanted (plan_of kind n wanted given groups table (replicate plan_limit 0)).1.turns

module _ (kind n : ℕ) (wanted : List ℤ) (table : List ℕ) where
  abbrev groups : ℕ
  groups = report_groups kind n

  answers : (cs : List ℕ) → is_pane_count kind n ≡ true → later_refusal kind n cs ≡ 0
      → PlansIn kind n wanted groups table (places_of (bytes_of cs)) → Answers kind n wanted table cs
  unfolding later_of PlanArrives
  answers cs in-range h p =
      let given = places_of (bytes_of cs) in
      let out = plan_of kind n wanted given groups table (replicate plan_limit 0) in
      let count = plan-count kind n wanted given groups table (replicate plan_limit 0) in
      record {
        turns = take out.1.turns out.0;
        text = sym (later-accepted kind n wanted table cs (later_of kind n cs) refl h)
            ∙ ap (plan_text kind n wanted table) (later-stack kind n cs h)
            ∙ sym (plan-accepted kind n wanted table given out.0 out.1 refl p.accepts);
        arrives = p.arrives;
        shortest = subst (Fewest kind n given wanted) (sym count) p.shortest;
        fit = plan-fits kind n (take out.1.turns out.0) (last-places kind n in-range)
            (rw count (plan-arrives kind n wanted given groups table (replicate plan_limit 0) p.accepts).1) p.arrives.turns;
      }

plans-in : (w : World) (terms : Terms) (given : List ℤ) → w.job.terms ≡ terms → Plans w given (replicate plan_limit 0)
    → PlansIn terms.kind terms.n terms.wanted terms.groups (joined w.segments) given
plans-in w terms given same p =
    subst (λ (t : Terms). PlansIn t.kind t.n t.wanted t.groups (joined w.segments) given) same
    (record { accepts = p.accepts; arrives = p.arrives; shortest = p.shortest })

-- A later frame that is not refused is answered a road of fewest turns, from its stack to the wanted one.
later-means : (w : World) (terms : Terms) (cs : List ℕ) → is_pane_count terms.kind terms.n ≡ true
    → terms.groups ≡ report_groups terms.kind terms.n → Finishes terms w → later_refusal terms.kind terms.n cs ≡ 0
    → Answers terms.kind terms.n terms.wanted (joined w.segments) cs
later-means w terms cs in-range full f h =
    let given = places_of (bytes_of cs) in
    answers terms.kind terms.n terms.wanted (joined w.segments) cs in-range h
    (subst (λ (g : ℕ). PlansIn terms.kind terms.n terms.wanted g (joined w.segments) given) full
    (plans-in w terms given f.given_terms (f.plans given (replicate plan_limit 0) (later-is-stack terms.kind terms.n cs h) (omega arith))))

total-zeros : (xs : List ℕ) → ((i : ℕ) → get_or xs i 0 ≡ 0) → total xs ≡ 0
unfolding total
total-zeros [] h = refl
total-zeros (x ∷ xs) h = omega (arith, h 0, total-zeros xs (λ i. h (suc i)))

-- ---- the build of an accepted first frame

-- what it is given
module _ (cs table : List ℕ) (h : first_refusal cs ≡ 0) (long : length table ≡ table_limit) where
  abbrev bs : List ℕ
  bs = bytes_of cs

  abbrev kind : ℕ
  kind = kind_in bs

  abbrev n : ℕ
  n = panes_in bs

  abbrev wanted : List ℤ
  wanted = wanted_in n bs

  abbrev S : ℕ
  S = size_in n bs

  abbrev part : List ℕ
  part = take (table_bytes kind n) table

  abbrev log : List ℕ
  log = replicate (log_words kind n S) 0

  abbrev list : List ℕ
  list = replicate (changed_bytes kind n S) 0

  passes : FirstPasses cs
  passes = first_passes cs h

  -- what its build is given
  abbrev terms : Terms
  terms = terms_of kind n wanted (all_groups kind n) S report_room

  given : Given terms
  unfolding is_log_room
  given = record { is-kind = passes.is-kind; in-range = passes.in-range; stack = passes.stack; of-set = all-groups kind n passes.in-range; segments = passes.segments; room = refl }

  -- the kinds of a report are those whose turns undo themselves
  itself : UndoesItself kind
  itself = undoes-itself kind (kind-low kind passes.is-kind)

  reported : is_reported kind n ≡ true
  unfolding is_reported
  reported = and_both (is_pane_count kind n) (leb (stack_count kind n) stack_limit) passes.in-range (le-leb (stack_count kind n) stack_limit passes.few)

  bytes-are : table_bytes kind n ≡ bytes_for (stack_count kind n)
  unfolding table_bytes
  bytes-are = rw reported

  part_length : length part ≡ table_bytes kind n
  part_length = length-take-le (table_bytes kind n) table (omega (arith, table-some kind n (bytes_for (stack_count kind n)) reported refl))

  words_are : log_words kind n S ≡ right_words terms
  unfolding right_words
  words_are = sym (log-some kind n S (segment_count (stack_count kind n) S) reported passes.segments refl).0

  listed-are : changed_bytes kind n S ≡ list_bytes (stack_count_in (stack_count kind n) S 0)
  listed-are = sym (changed-some kind n S (list_bytes (stack_count_in (stack_count kind n) S 0)) reported refl).0

  accepted : build_refusal terms (length part) (length log) (length list) ≡ 0
  unfolding build_refusal
  accepted =
      rw (
        given-begin terms given,
        eq-eqb (length part) (bytes_for (stack_count kind n)) (part_length ∙ bytes-are),
        eq-eqb (length log) (right_words terms) (length-replicate (log_words kind n S) 0 ∙ words_are),
        eq-eqb (length list) (list_bytes (stack_count_in (stack_count kind n) S 0)) (length-replicate (changed_bytes kind n S) 0 ∙ listed-are),
      )

  builds : Builds terms part log list
  builds = build_ends terms part log list accepted

  abbrev end : World
  end = built terms part log list

  finishes : Finishes terms end
  finishes = (build-finishes terms part log list itself refl accepted).1

  built-end : built_in kind n wanted S table ≡ (joined end.segments ++ drop (table_bytes kind n) table, end.job)
  unfolding built_in
  built-end =
      ap (λ (x : List ℕ × List ℕ × List ℕ × Answer). (x.0 ++ drop (table_bytes kind n) table, x.3.job))
      (ap (λ (g : ℕ). build_of (terms_of kind n wanted g S report_room) part log list) (groups-some kind n reported) ∙ builds.leaves)

  -- the part of the table that later frames are answered from
  table_is : take (table_bytes kind n) (built_in kind n wanted S table).0 ≡ joined end.segments
  table_is =
      ap (λ (x : List ℕ × Job). take (table_bytes kind n) x.0) built-end
      ∙ take_at (joined end.segments) (drop (table_bytes kind n) table) (table_bytes kind n) (builds.table_length ∙ part_length)

  -- ---- its counts

  abbrev deepest : ℕ
  deepest = level_of end.job.phase

  deepest-low : deepest ≤ last_level
  deepest-low =
      let s = finishes.deepest in
      omega (arith, few-turns given itself s.0 deepest s.1 s.2)

  counts-at : (d : ℕ) → d ≤ deepest → CountsAt kind n wanted d (count_of end.job d)
  counts-at d l = finishes.counts d (omega (arith, deepest-low))

  count-is : (d : ℕ) (l : d ≤ deepest) → count_of end.job d ≡ tally (counts-at d l).test (all_stacks kind n)
  count-is d l = let at = counts-at d l in at.tallied at.test at.tells

  count-few : (d : ℕ) → d ≤ deepest → count_of end.job d ≤ stack_limit
  count-few d l = omega (arith, count-is d l, tally-le (counts-at d l).test (all_stacks kind n), all-stacks-length kind n, passes.few)

  -- a stack is at the deepest level, so its count stands in the list
  deepest-stands : deepest < length end.job.counts
  unfolding count_of
  deepest-stands = go (lt-or-ge deepest (length end.job.counts))
    where
      s : (t : List ℤ) × (is_stack kind n t ≡ true) × Fewest kind n t wanted deepest
      s = finishes.deepest

      here : deepest ≤ deepest
      here = omega arith

      test : List ℤ → Bool
      test = (counts-at deepest here).test

      some : 0 < count_of end.job deepest
      some =
          rw (count-is deepest here)
          (tally-at test (all_stacks kind n) (rank_of kind n s.0) []
          (rw (all-stacks-length kind n) (rank_lt kind n s.0 given.in-range s.1))
          (ap test (all-stacks-each kind n s.0 given.in-range s.1) ∙ (counts-at deepest here).tells.every s.0 s.1 s.2))

      go : (deepest < length end.job.counts) ⊎ (length end.job.counts ≤ deepest) → deepest < length end.job.counts
      go (inl l) = l
      go (inr l) = absurd (omega (arith, some, get_or-eq_default end.job.counts 0 l))

  abbrev shown : List ℕ
  shown = level_counts deepest end.job.counts

  shown-at : (d : ℕ) → d ≤ deepest → get_or shown d 0 ≡ count_of end.job d
  unfolding count_of
  shown-at d l = get_or-take (suc deepest) end.job.counts d 0 (omega arith)

  -- past the deepest level there is no stack to count
  seen-is : total shown ≡ seen_in (joined end.segments) (stack_count kind n)
  unfolding count_of
  seen-is =
      let past = suc deepest in
      let counts = end.job.counts in
      let rest = total-zeros (drop past counts) (λ i. get_or-drop past counts i 0 ∙ finishes.past (past + i) (omega arith)) in
      omega (arith, total-append (take past counts) (drop past counts), ap total (take-append-drop past counts), finishes.added)

  total-is : printed_total end.job ≡ total shown
  unfolding printed_total
  total-is = refl

  added_is : total shown ≡ stack_count kind n
  added_is = seen-is ∙ finishes.all_seen

  -- a line says the same by all counts and by those that are shown
  lines-shown : level_lines deepest end.job.counts ≡ level_lines deepest shown
  unfolding level_lines count_of
  lines-shown =
      levels-same (line_at end.job.counts) (line_at shown) (suc deepest) (λ d l. ap (level_line d) (sym (shown-at d (omega arith))))

  head-is : head_text (built_in kind n wanted S table).1 ≡ level_lines deepest shown ++ deepest_line deepest ++ total_line (printed_total end.job)
  unfolding head_text
  head-is =
      ap (λ (x : List ℕ × Job). head_text x.1) built-end
      ∙ ap (λ (lines : List ℕ). lines ++ deepest_line deepest ++ total_line (printed_total end.job)) lines-shown

  reports : (lines : List (List ℕ)) (text : List ℕ)
      → (let built = take (table_bytes kind n) (built_in kind n wanted S table).0 in
      text ≡ head_text (built_in kind n wanted S table).1 ++ later_texts kind n wanted built lines → Reports kind n wanted built lines text)
  unfolding later_of
  reports lines text = subst (λ (b : List ℕ). text ≡ head_text (built_in kind n wanted S table).1 ++ later_texts kind n wanted b lines → Reports kind n wanted b lines text)
      (sym table_is)
      (λ e. record {
        deepest = deepest;
        counts = shown;
        sum = printed_total end.job;
        text_is = e ∙ ap (λ (head : List ℕ). head ++ later_texts kind n wanted (joined end.segments) lines) head-is;
        levels = length-take-le (suc deepest) end.job.counts deepest-stands;
        counted = λ d l. subst (CountsAt kind n wanted d) (sym (shown-at d l)) (counts-at d l);
        whole = λ d l. number-four (get_or shown d 0) ∙ mod-eq_of_lt (omega (arith, shown-at d l, count-few d l));
        fit = omega (arith, deepest-low);
        summed = total-is;
        seen = total-is ∙ seen-is;
        spare = finishes.spare;
        sum_whole = number-four (printed_total end.job) ∙ mod-eq_of_lt (omega (arith, total-is, added_is, passes.few));
        added = added_is;
        reached = finishes.deepest;
        greatest = finishes.greatest;
        refused = λ ds ne. sym (later-refused kind n wanted (joined end.segments) ds (later_of kind n ds) refl ne);
        planned = λ ds z. later-means end terms ds given.in-range (sym (groups-some kind n reported)) finishes z;
      })

-- its build is not refused
pub build-accepts : (f : FirstFrame) (cs table : List ℕ) → as_first (Ok f) ≡ first_of cs → length table ≡ table_limit
    → (built_answer f.kind f.n f.wanted f.size table).1.refusal ≡ 0
unfolding first_of built_answer
build-accepts f cs table e long =
    let h : first_refusal cs ≡ 0 = sym (ap (λ (x : First). x.refusal) e) in
    let same : as_first (Ok f) ≡ first_with 0 (bytes_of cs) = e ∙ ap (λ (r : ℕ). first_with r (bytes_of cs)) h in
    ap (λ (x : First). (built_answer x.kind x.n x.wanted x.size table).1.refusal) same
    ∙ ap (λ (g : ℕ). (build_of (terms_of (kind cs table h long) (n cs table h long) (wanted cs table h long) g (S cs table h long) report_room)
    (part cs table h long) (log cs table h long) (list cs table h long)).3.refusal)
    (groups-some (kind cs table h long) (n cs table h long) (reported cs table h long))
    ∙ ap (λ (x : List ℕ × List ℕ × List ℕ × Answer). x.3.refusal) (builds cs table h long).leaves

-- The report of an accepted first frame: its counts are the numbers of stacks at each distance, its total is their sum and the number of
-- entries other than 3 in the table that its build leaves, and its plans are shortest.
pub report-means : (table cs : List ℕ) (lines : List (List ℕ)) → length table ≡ table_limit → first_refusal cs ≡ 0
    → (let first = first_of cs in
    let built = take (table_bytes first.kind first.n) (built_in first.kind first.n first.wanted first.size table).0 in
    Reports first.kind first.n first.wanted built lines (report_of table (cs ∷ lines)))
unfolding first_of report_of report_from
report-means table cs lines long h =
    subst
    (λ (r : ℕ). (let first = first_with r (bytes_of cs) in
    let built = take (table_bytes first.kind first.n) (built_in first.kind first.n first.wanted first.size table).0 in
    Reports first.kind first.n first.wanted built lines (report_from first table lines)))
    (sym h)
    (reports cs table h long lines (report_from (first_with 0 (bytes_of cs)) table lines) refl)

-- a refused one ends the run
pub report-refused : (table cs : List ℕ) (lines : List (List ℕ)) → (first_refusal cs ≡ 0 → ⊥)
    → report_of table (cs ∷ lines) ≡ refusal_line (first_refusal cs)
unfolding first_of report_of report_from
report-refused table cs lines ne = rw (ne_eqb (first_refusal cs) 0 ne)

-- What is printed can be read back from its line: the number of turns and the turns, a level's number and its count, and the total.
pub answer-says : {kind n : ℕ} {wanted : List ℤ} {table cs : List ℕ} (answer : Answers kind n wanted table cs)
    → bytes_of (plan_line answer.turns) ≡ length answer.turns ∷ answer.turns
unfolding plan_line
answer-says answer = line-says (length answer.turns ∷ answer.turns) answer.fit

number-says : (first x : ℕ) → first < 256 → bytes_of (line_of (first ∷ four_bytes x)) ≡ first ∷ four_bytes x
unfolding four_bytes all is_byte
number-says first x h =
    line-says (first ∷ four_bytes x)
    (rw (
      lt-ltb first 256 h,
      lt-ltb (x / 16777216 % 256) 256 (omega arith),
      lt-ltb (x / 65536 % 256) 256 (omega arith),
      lt-ltb (x / 256 % 256) 256 (omega arith),
      lt-ltb (x % 256) 256 (omega arith),
    ))

pub level-says : (d count : ℕ) → d < 256 → bytes_of (level_line d count) ≡ d ∷ four_bytes count
unfolding level_line
level-says d count h = number-says d count h

pub total-says : (sum : ℕ) → bytes_of (total_line sum) ≡ 254 ∷ four_bytes sum
unfolding total_line
total-says sum = number-says 254 sum (omega arith)

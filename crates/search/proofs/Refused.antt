-- A refused call leaves the world as it was, and each operation what it was lent; in a build whose buffers have their right lengths, every
-- call that names no segment, or is lent another buffer or a list of a wrong length, is refused.
use mathlib.Core.Path.{◌≡◌, refl, sym, ap, ◌∙◌}
use mathlib.Core.Logic.{◌⊎◌, inl, inr}
use mathlib.Core.Bool.{Bool, true, false, not, ◌&&◌, cond, true≢false}
use mathlib.Core.List.{List, []}
use Prim.Native.Nat.{ℕ}
use lib.Dec.{ltb, eqb}
use lib.ListN.{length, get_or, set}
use lib.Seq.{set-get_or}
use borrow.Author.Tests.{eqb-true, eqb-false, ne_eqb}
use Rattle.base.specs.Words.{unless, all}
use Rattle.base.proofs.Tests.{test-cases, and_both}
use Rattle.stacks.specs.Operations.{index_refusal, stack_refusal, turn_refusal, index_of, stack_of, turned_of}
use Rattle.search.specs.Begin.{begin_of}
use Rattle.search.specs.Blank.{blank_refusal, blank_of}
use Rattle.search.specs.Build.{World, with_job, with_segment, with_log, with_changed, Lengths, Lent, Listed, Call, own, other, own_list, other_list, do_blank, do_expand, do_settle, do_look, do_load, do_sweep, do_close, lent, kept, lent_list, is_own, is_lent_own, outcome}
use Rattle.search.specs.Close.{close_refusal, close_of}
use Rattle.search.specs.Drive.{build_refusal, build_of}
use Rattle.search.specs.Entries.{bytes_for}
use Rattle.search.specs.Expand.{expand_refusal, expand_of}
use Rattle.search.specs.JobState.{is_coherent, is_blanking, in_forward, in_reverse, segment_count_of, stack_count_at, passed_of, log_length, is_loaded, is_swept}
use Rattle.search.specs.Logs.{pending}
use Rattle.search.specs.Look.{look_refusal, look_of}
use Rattle.search.specs.Plan.{plan_refusal, plan_of}
use Rattle.search.specs.Promise.{right_bytes, right_words, right_lengths}
use Rattle.search.specs.PromiseCalls.{RefusedSame, StandsAlone, no_build, given_back, no_stack, RefusedKeeps, is_inside, wrong_refusal, RefusesWrong}
use Rattle.search.specs.Read.{read_refusal, read_of}
use Rattle.search.specs.Changed.{list_bytes}
use Rattle.search.specs.Load.{load_refusal, load_of}
use Rattle.search.specs.Refusals.{call_refusal, segment_refusal, level_refusal}
use Rattle.search.specs.Settle.{settle_refusal, settle_of}
use Rattle.search.specs.Sweep.{sweep_refusal, sweep_of}
use Rattle.search.specs.Terms.{begin_refusal}
use Rattle.search.specs.Answers.{Answer}
use Rattle.search.specs.Answers.{Expanded}
use Rattle.search.specs.declared.Job.{Job}
use Rattle.search.specs.declared.Terms.{Terms}
use Rattle.search.proofs.Accepted.{LevelFacts, blank-facts, expand-facts, settle-facts, look-facts, load-facts, sweep-facts, load-refused, load-refusal, sweep-refused, sweep-refusal, blank-refused, blank-refusal, expand-refused, expand-refusal, settle-refused, settle-refusal, close-refused}
use Rattle.search.proofs.Invariant.{Shaped}
use Rattle.search.proofs.Shapes.{stacks-is, area-is}

-- what a call gives back as it was lent it, the build keeps
kept-lent : {right : ℕ} (buffer : Lent right) (mine : List ℕ) → kept buffer mine (lent buffer mine) ≡ mine
unfolding kept lent
kept-lent own mine = refl
kept-lent (other xs wrong) mine = refl

keeps-segment : {right : ℕ} (segments : List (List ℕ)) (j : ℕ) (buffer : Lent right)
    → set segments j (kept buffer (get_or segments j []) (lent buffer (get_or segments j []))) ≡ segments
keeps-segment segments j buffer =
    ap (λ (s : List ℕ). set segments j s) (kept-lent buffer (get_or segments j [])) ∙ set-get_or segments j []

-- a world with what a call on segment j has given back
abbrev given_back_world : {right : ℕ} → World → ℕ → Lent right → List ℕ × Answer → World
given_back_world w j segment out = with_job out.1.job (with_segment j (kept segment (get_or w.segments j []) out.0) w)

-- a world with all segments replaced
abbrev with_segments : World → List (List ℕ) → World
with_segments w segments = record { job = w.job; segments = segments; log = w.log; changed = w.changed }

module _ {right : Lengths} (w : World) where
  -- the refusal that a call meets
  unfoldable pub refusal_of : Call right → ℕ
  refusal_of (do_blank j segment) = blank_refusal w.job j (length (lent segment (get_or w.segments j [])))
  refusal_of (do_expand j segment log) =
      expand_refusal w.job j (length (lent segment (get_or w.segments j []))) (length (lent log w.log))
  refusal_of (do_settle j segment log) =
      settle_refusal w.job j (length (lent segment (get_or w.segments j []))) (lent log w.log)
  refusal_of (do_look j log) = look_refusal w.job j (length (lent log w.log))
  refusal_of (do_load b segment list) = load_refusal w.job b (length (lent segment (get_or w.segments b []))) (length list)
  refusal_of (do_sweep j segment list) =
      sweep_refusal w.job j (length (lent segment (get_or w.segments j []))) (length (lent_list w.job list w.changed))
  refusal_of (do_close way) = close_refusal w.job

  pub refusal_is : (call : Call right) → (outcome w call).refusal ≡ refusal_of call
  unfolding outcome refusal_of look_of close_of
  refusal_is (do_blank j segment) = blank-refusal w.job j (lent segment (get_or w.segments j []))
  refusal_is (do_expand j segment log) = expand-refusal w.job j (lent segment (get_or w.segments j [])) (lent log w.log)
  refusal_is (do_settle j segment log) = settle-refusal w.job j (lent segment (get_or w.segments j [])) (lent log w.log)
  refusal_is (do_look j log) = refl
  refusal_is (do_load b segment list) = load-refusal w.job b (lent segment (get_or w.segments b [])) list
  refusal_is (do_sweep j segment list) = sweep-refusal w.job j (lent segment (get_or w.segments j [])) (lent_list w.job list w.changed)
  refusal_is (do_close way) = refl

  same-world : (call : Call right) → (refusal_of call ≡ 0 → ⊥) → (outcome w call).world ≡ w
  unfolding outcome refusal_of
  same-world (do_blank j segment) h =
      ap (given_back_world w j segment) (blank-refused w.job j (lent segment (get_or w.segments j [])) h)
      ∙ ap (with_segments w) (keeps-segment w.segments j segment)
  same-world (do_expand j segment log) h =
      ap (λ (o : List ℕ × List ℕ × Expanded). with_job o.2.job
      (with_log (kept log w.log o.1) (with_segment j (kept segment (get_or w.segments j []) o.0) w))) (expand-refused w.job j (lent segment (get_or w.segments j [])) (lent log w.log) h)
      ∙ ap (λ (x : List (List ℕ)). with_log (kept log w.log (lent log w.log)) (with_segments w x)) (keeps-segment w.segments j segment)
      ∙ ap (λ (x : List ℕ). with_log x w) (kept-lent log w.log)
  same-world (do_settle j segment log) h =
      ap (given_back_world w j segment) (settle-refused w.job j (lent segment (get_or w.segments j [])) (lent log w.log) h)
      ∙ ap (with_segments w) (keeps-segment w.segments j segment)
  same-world (do_look j log) h = refl
  same-world (do_load b segment list) h =
      let r = load_refusal w.job b (length (lent segment (get_or w.segments b []))) (length list) in
      ap (λ (o : List ℕ × Answer). with_job o.1.job (with_changed (cond (eqb o.1.refusal 0) o.0 w.changed) w)) (load-refused w.job b (lent segment (get_or w.segments b [])) list h)
      ∙ ap (λ (t : Bool). with_changed (cond t list w.changed) w) (ne_eqb r 0 h)
  same-world (do_sweep j segment list) h =
      ap (given_back_world w j segment) (sweep-refused w.job j (lent segment (get_or w.segments j [])) (lent_list w.job list w.changed) h)
      ∙ ap (with_segments w) (keeps-segment w.segments j segment)
  same-world (do_close way) h = ap (λ (o : Answer). with_job o.job w) (close-refused w.job way h)

  pub refused-same : (call : Call right) → ((outcome w call).refusal ≡ 0 → ⊥) → (outcome w call).world ≡ w
  refused-same call h = same-world call (λ e. h (refusal_is call ∙ e))

-- as the promises name it: in any world, and each operation by itself
pub refused-leaves : RefusedSame
unfolding RefusedSame
refused-leaves right w call h = refused-same w call h

-- an outcome by a test of its row of refusals
pub alone : {X : Type 0} (refusal : X → ℕ) (beside : ℕ → X) (r : ℕ) (out : X)
    → (eqb r 0 ≡ true → refusal out ≡ 0) → (eqb r 0 ≡ false → out ≡ beside r) → refusal (beside r) ≡ r → StandsAlone refusal beside out
alone refusal beside r out done kept names h = go (test-cases (eqb r 0))
  where
    go : (eqb r 0 ≡ true) ⊎ (eqb r 0 ≡ false) → out ≡ beside (refusal out)
    go (inl e) = absurd (h (done e))
    go (inr e) = kept e ∙ ap beside (sym (ap refusal (kept e) ∙ names))

pub refused-keeps : RefusedKeeps
unfolding index_of stack_of turned_of begin_of blank_of expand_of settle_of look_of load_of sweep_of close_of read_of plan_of build_of
refused-keeps =
    record {
      index = λ kind n s.
          let r = index_refusal kind n s in
          alone (λ a. a.refusal) (λ q. record { refusal = q; index = 0 }) r (index_of kind n s) (eqb-true r 0) (λ h. rw h) refl;
      stack = λ kind n i.
          let r = stack_refusal kind n i in alone (λ a. a.refusal) no_stack r (stack_of kind n i) (eqb-true r 0) (λ h. rw h) refl;
      turn = λ kind n s k.
          let r = turn_refusal kind n s k in alone (λ a. a.refusal) no_stack r (turned_of kind n s k) (eqb-true r 0) (λ h. rw h) refl;
      begin = λ terms.
          let r = begin_refusal terms in
          alone (λ a. a.refusal) no_build r (begin_of terms) (eqb-true r 0) (λ h. rw h) refl;
      blank = λ job j segment.
          alone (λ o. o.1.refusal) (λ q. (segment, given_back job q)) (blank_refusal job j (length segment)) (blank_of job j segment)
          (λ h. rw h refl) (λ h. rw h) refl;
      expand = λ job j segment log.
          alone (λ o. o.2.refusal) (λ q. (segment, log, record { refusal = q; waits = false; on = 0; job = job }))
          (expand_refusal job j (length segment) (length log)) (expand_of job j segment log) (λ h. rw h refl) (λ h. rw h) refl;
      settle = λ job j segment log.
          alone (λ o. o.1.refusal) (λ q. (segment, given_back job q)) (settle_refusal job j (length segment) log) (settle_of job j segment log)
          (λ h. rw h refl) (λ h. rw h) refl;
      look = λ job j log.
          let r = look_refusal job j (length log) in alone (λ o. o.1) (λ q. ([], q)) r (look_of job j log) (eqb-true r 0) (λ h. rw h) refl;
      load = λ job b segment list.
          alone (λ o. o.1.refusal) (λ q. (list, given_back job q)) (load_refusal job b (length segment) (length list)) (load_of job b segment list)
          (λ h. rw h refl) (λ h. rw h) refl;
      sweep = λ job j segment list.
          alone (λ o. o.1.refusal) (λ q. (segment, given_back job q)) (sweep_refusal job j (length segment) (length list))
          (sweep_of job j segment list) (λ h. rw h refl) (λ h. rw h) refl;
      close = λ job way. alone (λ a. a.refusal) (given_back job) (close_refusal job) (close_of job way) (eqb-true (close_refusal job) 0) (λ h. rw h) refl;
      read = λ kind n table i.
          let r = read_refusal kind n (length table) i in
          alone (λ e. e.refusal) (λ q. record { refusal = q; entry = 0 }) r (read_of kind n table i) (eqb-true r 0) (λ h. rw h) refl;
      plan = λ kind n wanted given groups table list.
          alone (λ o. o.1.refusal) (λ q. (list, record { refusal = q; turns = 0 })) (plan_refusal kind n wanted given groups table (length list) 0)
          (plan_of kind n wanted given groups table list) (λ h. rw h refl) (λ h. rw h) refl;
      build = λ terms table log list.
          alone (λ o. o.3.refusal) (λ q. (table, log, list, no_build q))
          (build_refusal terms (length table) (length log) (length list)) (build_of terms table log list)
          (λ h. rw h refl) (λ h. rw h) refl;
    }

-- ---- wrong arguments are refused

-- a list of the right length is the build's own
pub own-list : (job : Job) (list : Listed) (changed : List ℕ) → length (lent_list job list changed) ≡ list_bytes (stack_count_at job job.loaded)
    → lent_list job list changed ≡ changed
unfolding lent_list
own-list job own_list changed h = refl
own-list job (other_list xs) changed h = go (eqb (length xs) right) refl h
  where
    right : ℕ
    right = list_bytes (stack_count_at job job.loaded)

    go : (t : Bool) → eqb (length xs) right ≡ t → length (cond t changed xs) ≡ right → cond t changed xs ≡ changed
    go true e l = refl
    go false e l = absurd (eqb-false (length xs) right e l)

module _ {terms : Terms} {w : World} (shaped : Shaped terms w) where
  own-segment : (j : ℕ) (segment : Lent ((right_lengths terms).bytes j))
      → length (lent segment (get_or w.segments j [])) ≡ bytes_for (stack_count_at w.job j) → is_own segment ≡ true
  unfolding right_bytes lent is_own
  own-segment j own h = refl
  own-segment j (other xs wrong) h = absurd (wrong (h ∙ ap bytes_for (stacks-is shaped j)))

  own-log : (log : Lent (right_lengths terms).words) → length (lent log w.log) ≡ log_length w.job → is_own log ≡ true
  unfolding right_words lent is_own
  own-log own h = refl
  own-log (other xs wrong) h = absurd (wrong (h ∙ area-is shaped))

  own-both : (j : ℕ) (segment : Lent ((right_lengths terms).bytes j)) (log : Lent (right_lengths terms).words)
      → LevelFacts w.job j (length (lent segment (get_or w.segments j []))) (length (lent log w.log))
      → (is_own segment && is_own log) ≡ true
  own-both j segment log f = and_both (is_own segment) (is_own log) (own-segment j segment f.long) (own-log log f.wide)

  own-accepted : (call : Call (right_lengths terms)) → refusal_of w call ≡ 0 → is_lent_own call ≡ true
  unfolding refusal_of is_lent_own
  own-accepted (do_blank j segment) e = own-segment j segment (blank-facts w.job j (length (lent segment (get_or w.segments j []))) e).long
  own-accepted (do_expand j segment log) e =
      own-both j segment log (expand-facts w.job j (length (lent segment (get_or w.segments j []))) (length (lent log w.log)) e).0
  own-accepted (do_settle j segment log) e =
      own-both j segment log (settle-facts w.job j (length (lent segment (get_or w.segments j []))) (lent log w.log) e).0
  own-accepted (do_look j log) e = own-log log (look-facts w.job j (length (lent log w.log)) e).1
  own-accepted (do_load b segment list) e =
      own-segment b segment (load-facts w.job b (length (lent segment (get_or w.segments b []))) (length list) e).long
  own-accepted (do_sweep j segment list) e =
      own-segment j segment
      (sweep-facts w.job j (length (lent segment (get_or w.segments j []))) (length (lent_list w.job list w.changed)) e).long
  own-accepted (do_close way) e = refl

  -- a call lent another buffer is refused
  pub accepted-own : (call : Call (right_lengths terms)) → (outcome w call).refusal ≡ 0 → is_lent_own call ≡ true
  accepted-own call h = own-accepted call (sym (refusal_is w call) ∙ h)

-- ---- by which number

-- a length that is wrong is refused 10, also behind another that may be
ten : (a b rest : ℕ) → (a ≡ b → ⊥) → unless (eqb a b) 10 rest ≡ 10
ten a b rest wrong = ap (λ (t : Bool). unless t 10 rest) (ne_eqb a b wrong)

ten-after : (ok : Bool) (rest : ℕ) → rest ≡ 10 → unless ok 10 rest ≡ 10
ten-after true rest e = e
ten-after false rest e = refl

module _ {terms : Terms} {w : World} (shaped : Shaped terms w) (coherent : is_coherent w.job ≡ true) where
  -- where a call on segment j names none, or is refused by the rest of its row
  row : (in_phase : Bool) (j rest x : ℕ) → (ltb j (segment_count_of w.job) ≡ false) ⊎ (rest ≡ x)
      → call_refusal in_phase w.job j rest ≡ unless in_phase 8 (unless (ltb j (segment_count_of w.job)) 9 x)
  unfolding call_refusal
  row in_phase j rest x (inl out) = rw (coherent, out)
  row in_phase j rest x (inr e) = rw (coherent, e)

  row-outside : (call : Call (right_lengths terms)) → is_inside (segment_count_of w.job) call ≡ false → refusal_of w call ≡ wrong_refusal w.job call
  unfolding refusal_of is_inside wrong_refusal blank_refusal expand_refusal settle_refusal look_refusal load_refusal sweep_refusal level_refusal segment_refusal
  row-outside (do_blank j segment) out = row (is_blanking w.job.phase) j _ 10 (inl out)
  row-outside (do_expand j segment log) out = row (in_forward w.job) j _ 10 (inl out)
  row-outside (do_settle j segment log) out = row (in_forward w.job) j _ 10 (inl out)
  row-outside (do_look j log) out = row true j _ 10 (inl out)
  row-outside (do_load b segment list) out = row (in_reverse w.job) b _ 10 (inl out)
  row-outside (do_sweep j segment list) out = row (in_reverse w.job) j _ (unless (is_loaded w.job) 22 10) (inl out)
  row-outside (do_close way) out = absurd (true≢false out)

  -- a buffer of a wrong length
  wrong-segment : (j rest : ℕ) (xs : List ℕ) → (length xs ≡ (right_lengths terms).bytes j → ⊥)
      → unless (eqb (length xs) (bytes_for (stack_count_at w.job j))) 10 rest ≡ 10
  unfolding right_bytes
  wrong-segment j rest xs wrong = ten (length xs) (bytes_for (stack_count_at w.job j)) rest (λ e. wrong (e ∙ ap bytes_for (stacks-is shaped j)))

  wrong-log : (rest : ℕ) (xs : List ℕ) → (length xs ≡ (right_lengths terms).words → ⊥) → unless (eqb (length xs) (log_length w.job)) 10 rest ≡ 10
  unfolding right_words
  wrong-log rest xs wrong = ten (length xs) (log_length w.job) rest (λ e. wrong (e ∙ area-is shaped))

  -- behind the segment's
  row-log : (j bytes rest : ℕ) (xs : List ℕ) → (length xs ≡ (right_lengths terms).words → ⊥)
      → level_refusal w.job j bytes (length xs) rest ≡ unless (in_forward w.job) 8 (unless (ltb j (segment_count_of w.job)) 9 10)
  unfolding level_refusal segment_refusal
  row-log j bytes rest xs wrong =
      let words : ℕ = unless (eqb (length xs) (log_length w.job)) 10 rest in
      let long : Bool = eqb bytes (bytes_for (stack_count_at w.job j)) in
      row (in_forward w.job) j (unless long 10 words) 10 (inr (ten-after long words (wrong-log rest xs wrong)))

  row-buffers : (call : Call (right_lengths terms)) → is_lent_own call ≡ false → refusal_of w call ≡ wrong_refusal w.job call
  unfolding refusal_of is_lent_own is_own lent wrong_refusal blank_refusal expand_refusal settle_refusal look_refusal load_refusal sweep_refusal level_refusal segment_refusal
  row-buffers (do_blank j own) not_own = absurd (true≢false not_own)
  row-buffers (do_blank j (other xs wrong)) not_own = row (is_blanking w.job.phase) j _ 10 (inr (wrong-segment j _ xs wrong))
  row-buffers (do_expand j own own) not_own = absurd (true≢false not_own)
  row-buffers (do_expand j own (other xs wrong)) not_own =
      row-log j (length (get_or w.segments j [])) (unless (ltb (passed_of w.job j) (stack_count_at w.job j)) 11 0) xs wrong
  row-buffers (do_expand j (other xs wrong) log) not_own = row (in_forward w.job) j _ 10 (inr (wrong-segment j _ xs wrong))
  row-buffers (do_settle j own own) not_own = absurd (true≢false not_own)
  row-buffers (do_settle j own (other xs wrong)) not_own =
      row-log j (length (get_or w.segments j [])) (unless (all (λ i. ltb i (stack_count_at w.job j)) (pending w.job j xs)) 12 0) xs wrong
  row-buffers (do_settle j (other xs wrong) log) not_own = row (in_forward w.job) j _ 10 (inr (wrong-segment j _ xs wrong))
  row-buffers (do_look j own) not_own = absurd (true≢false not_own)
  row-buffers (do_look j (other xs wrong)) not_own = row true j _ 10 (inr (wrong-log _ xs wrong))
  row-buffers (do_load b own list) not_own = absurd (true≢false not_own)
  row-buffers (do_load b (other xs wrong) list) not_own = row (in_reverse w.job) b _ 10 (inr (wrong-segment b _ xs wrong))
  row-buffers (do_sweep j own list) not_own = absurd (true≢false not_own)
  row-buffers (do_sweep j (other xs wrong) list) not_own =
      row (in_reverse w.job) j _ (unless (is_loaded w.job) 22 10) (inr (ap (unless (is_loaded w.job) 22) (wrong-segment j _ xs wrong)))
  row-buffers (do_close way) not_own = absurd (true≢false not_own)

  -- a list of a wrong length, behind the segment
  row-load : (b bytes listed : ℕ) → (listed ≡ list_bytes (stack_count_at w.job b) → ⊥)
      → load_refusal w.job b bytes listed ≡ unless (in_reverse w.job) 8 (unless (ltb b (segment_count_of w.job)) 9 10)
  unfolding load_refusal segment_refusal
  row-load b bytes listed wrong =
      let right : ℕ = list_bytes (stack_count_at w.job b) in
      let long : Bool = eqb bytes (bytes_for (stack_count_at w.job b)) in
      row (in_reverse w.job) b (unless long 10 (unless (eqb listed right) 10 0)) 10
      (inr (ten-after long (unless (eqb listed right) 10 0) (ten listed right 0 wrong)))

  row-sweep : (j bytes listed : ℕ) → (listed ≡ list_bytes (stack_count_at w.job w.job.loaded) → ⊥)
      → sweep_refusal w.job j bytes listed
      ≡ unless (in_reverse w.job) 8 (unless (ltb j (segment_count_of w.job)) 9 (unless (is_loaded w.job) 22 10))
  unfolding sweep_refusal
  row-sweep j bytes listed wrong =
      let right : ℕ = list_bytes (stack_count_at w.job w.job.loaded) in
      let long : Bool = eqb bytes (bytes_for (stack_count_at w.job j)) in
      let left : ℕ = unless (not (is_swept w.job w.job.loaded j)) 11 0 in
      row (in_reverse w.job) j (unless (is_loaded w.job) 22 (unless long 10 (unless (eqb listed right) 10 left))) (unless (is_loaded w.job) 22 10)
      (inr (ap (unless (is_loaded w.job) 22) (ten-after long (unless (eqb listed right) 10 left) (ten listed right left wrong))))

  -- another list is lent as it is
  wrong-list : (list : List ℕ) → (length list ≡ list_bytes (stack_count_at w.job w.job.loaded) → ⊥)
      → length (lent_list w.job (other_list list) w.changed) ≡ list_bytes (stack_count_at w.job w.job.loaded) → ⊥
  unfolding lent_list
  wrong-list list wrong e =
      wrong
      (sym (ap (λ (t : Bool). length (cond t w.changed list)) (ne_eqb (length list) (list_bytes (stack_count_at w.job w.job.loaded)) wrong)) ∙ e)

  pub refuses-wrong : RefusesWrong (right_lengths terms) w
  unfolding refusal_of wrong_refusal
  refuses-wrong =
      record {
        outside = λ call out. refusal_is w call ∙ row-outside call out;
        buffers = λ call not_own. refusal_is w call ∙ row-buffers call not_own;
        loads = λ b segment list wrong. refusal_is w (do_load b segment list)
            ∙ row-load b (length (lent segment (get_or w.segments b []))) (length list) wrong;
        sweeps = λ j segment list wrong. refusal_is w (do_sweep j segment (other_list list))
            ∙ row-sweep j (length (lent segment (get_or w.segments j []))) (length (lent_list w.job (other_list list) w.changed))
            (wrong-list list wrong);
      }

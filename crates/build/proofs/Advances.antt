-- The driver's step in the store, for each call that it may choose.
use mathlib.Core.Path.{◌≡◌, refl, sym, ap, ◌∙◌, subst}
use mathlib.Core.Logic.{◌⊎◌, inl, inr}
use mathlib.Core.Bool.{true, false, ◌&&◌, cond}
use mathlib.Core.List.{List, [], ◌∷◌, ◌++◌}
use Prim.Native.Nat.{ℕ, zero, suc, ◌≤◌, ◌<◌}
use native.Mathlib.Omega.{arith}
use borrow.Author.Tests.{ne_eqb}
use lib.Dec.{ltb, eqb}
use lib.ListN.{length, take, drop, take-append-drop}
use Rattle.std.specs.Prelude.{Result, Ok, Err, Option, Some, None}
use Rattle.base.proofs.Tests.{eq-or-ne}
use Rattle.stacks.specs.declared.refusal.Refusal.{Refusal}
use Rattle.search.specs.Build.{Call, own, own_list, do_blank, do_expand, do_settle, do_load, do_sweep, do_close, lent, lent_list, kept, outcome}
use Rattle.search.specs.Close.{close_of}
use Rattle.search.specs.Drive.{Store, first_open, first_pending, first_unswept, first_pair, way_after, list_bytes_at, next_call, cut, advanced, held, laid, store_of}
use Rattle.search.specs.Entries.{bytes_for, entry_at}
use Rattle.search.specs.Expand.{is_parent}
use Rattle.search.specs.JobState.{is_blanking, is_coherent, is_loaded, in_reverse, level_of, segment_count_of, stack_count_at, stack_count_of}
use Rattle.search.specs.Load.{load_refusal, changed_of, load_of}
use Rattle.search.specs.Promise.{right_lengths}
use Rattle.search.specs.Results.{as_expanded}
use Rattle.search.specs.Segments.{joined}
use Rattle.search.specs.Answers.{Answer}
use Rattle.search.specs.Answers.{Expanded}
use Rattle.search.specs.declared.Job.{Job}
use Rattle.search.proofs.Accepted.{load-accepted, load-refused}
use Rattle.search.proofs.ChangedLaws.{list_length}
use Rattle.search.proofs.CutLaws.{joined-cut}
use Rattle.search.proofs.Driving.{next-blank, next_level, next-settle, next-expand, next-close, next-sweep, next-load, next-done}
use Rattle.build.specs.Part.{part_of, with_part, blanked_in, settled_in, expanded_in, loaded_in, swept_in}
use Rattle.build.proofs.Parts.{sizes}

-- a list whose front is laid back as it was
front_kept : (n : ℕ) (list : List ℕ) → take n list ++ drop (length (take n list)) list ≡ list
front_kept zero list = refl
front_kept (suc n) [] = refl
front_kept (suc n) (x ∷ xs) = ap (λ (l : List ℕ). x ∷ l) (front_kept n xs)

-- what Load leaves in the front of the list: its segment's list, or refused what stood there
loads-front : (job : Job) (b : ℕ) (segment list changed : List ℕ)
    → changed ++ drop (length changed) list ≡ list
    → (let out = load_of job b segment (take (list_bytes_at job b) list) in
    let left = cond (eqb out.1.refusal 0) out.0 changed in
    out.0 ++ drop (list_bytes_at job b) list ≡ left ++ drop (length left) list)
unfolding list_bytes_at changed_of
loads-front job b segment list changed same = go (eq-or-ne (load_refusal job b (length segment) (length front)) 0)
  where
    front : List ℕ
    front = take (list_bytes_at job b) list

    Fronts : List ℕ × Answer → Type 0
    Fronts out =
        let left = cond (eqb out.1.refusal 0) out.0 changed in
        out.0 ++ drop (list_bytes_at job b) list ≡ left ++ drop (length left) list

    go : (load_refusal job b (length segment) (length front) ≡ 0) ⊎ (load_refusal job b (length segment) (length front) ≡ 0 → ⊥)
        → Fronts (load_of job b segment front)
    go (inl e) =
        subst Fronts (sym (load-accepted job b segment front e))
        (ap (λ (k : ℕ). changed_of job b segment ++ drop k list)
        (sym (list_length (stack_count_at job b) (λ i. is_parent (level_of job.phase) (entry_at segment i)))))
    go (inr ne) =
        subst Fronts (sym (load-refused job b segment front ne))
        (rw (ne_eqb (load_refusal job b (length segment) (length front)) 0 ne) (take-append-drop (list_bytes_at job b) list ∙ sym same))

-- the job of what Expand answers
expanded-job : (job : Job) (r : Result (Option ℕ) Refusal) → (as_expanded job r).job ≡ job
expanded-job job (Ok None) = refl
expanded-job job (Ok (Some t)) = refl
expanded-job job (Err r) = refl

module _ (job : Job) (table log list : List ℕ) where
  abbrev Calls : Type 0
  Calls = Call (right_lengths job.terms)

  abbrev store : Store
  store = store_of job table log list

  -- what the chosen call leaves
  chosen : (call : Calls) → next_call job list ≡ call → laid list (outcome (held store) call).world ≡ advanced store
  unfolding advanced
  chosen call e = ap (λ (c : Calls). laid list (outcome (held store) c).world) (sym e)

  -- a call that leaves the list as it was
  unchanged : (after : Job) (left log' : List ℕ)
      → store_of after left log' list ≡ store_of after left log' ((held store).changed ++ drop (length (held store).changed) list)
  unfolding held
  unchanged after left log' = ap (store_of after left log') (sym (front_kept (list_bytes_at job job.loaded) list))

  pub advance-blanks : (j : ℕ) → j ≡ first_open job → is_blanking job.phase ≡ true → first_open job < segment_count_of job
      → (left : List ℕ) (after : Job) (refusal : ℕ) → (left, record { refusal = refusal; job = after }) ≡ blanked_in job j table
      → store_of after left log list ≡ advanced store
  unfolding laid outcome lent kept held blanked_in part_of with_part
  advance-blanks j at blanking h left after refusal e =
      unchanged after left log
      ∙ ap (λ (o : List ℕ × Answer). store_of o.1.job o.0 log ((held store).changed ++ drop (length (held store).changed) list))
      (e ∙ ap (λ (i : ℕ). blanked_in job i table) at)
      ∙ chosen (do_blank (first_open job) own) (next-blank job list blanking h)

  module _ (blanked : is_blanking job.phase ≡ false) (forward : in_reverse job ≡ false) where
    pub advance-settles : (j : ℕ) → j ≡ first_pending job → first_pending job < segment_count_of job
        → (left : List ℕ) (after : Job) (refusal : ℕ) → (left, record { refusal = refusal; job = after }) ≡ settled_in job j table log
        → store_of after left log list ≡ advanced store
    unfolding laid outcome lent kept held settled_in part_of with_part
    advance-settles j at h left after refusal e =
        unchanged after left log
        ∙ ap (λ (o : List ℕ × Answer). store_of o.1.job o.0 log ((held store).changed ++ drop (length (held store).changed) list))
        (e ∙ ap (λ (i : ℕ). settled_in job i table log) at)
        ∙ chosen (do_settle (first_pending job) own own) (next-settle job list blanked forward h)

    pub advance-expands : (j : ℕ) → j ≡ first_open job → segment_count_of job ≤ first_pending job → first_open job < segment_count_of job
        → (left log' : List ℕ) (after : Job) (r : Result (Option ℕ) Refusal) → (left, log', as_expanded after r) ≡ expanded_in job j table log
        → store_of after left log' list ≡ advanced store
    unfolding laid outcome lent kept held expanded_in part_of with_part
    advance-expands j at h l left log' after r e =
        ap (λ (x : Job). store_of x left log' list) (sym (expanded-job after r))
        ∙ unchanged (as_expanded after r).job left log'
        ∙ ap (λ (o : List ℕ × List ℕ × Expanded). store_of o.2.job o.0 o.1 ((held store).changed ++ drop (length (held store).changed) list))
        (e ∙ ap (λ (i : ℕ). expanded_in job i table log) at)
        ∙ chosen (do_expand (first_open job) own own) (next-expand job list blanked forward h l)

  pub advance-sweeps : is_blanking job.phase ≡ false → in_reverse job ≡ true → is_loaded job ≡ true
      → (j : ℕ) → j ≡ first_pair job → first_pair job < segment_count_of job
      → (left : List ℕ) (after : Job) (refusal : ℕ) → (left, record { refusal = refusal; job = after }) ≡ swept_in job j table list
      → store_of after left log list ≡ advanced store
  unfolding laid outcome lent lent_list kept held swept_in part_of with_part
  advance-sweeps blanked reverse loaded j at h left after refusal e =
      unchanged after left log
      ∙ ap (λ (o : List ℕ × Answer). store_of o.1.job o.0 log ((held store).changed ++ drop (length (held store).changed) list))
      (e ∙ ap (λ (i : ℕ). swept_in job i table list) at)
      ∙ chosen (do_sweep (first_pair job) own own_list) (next-sweep job list blanked reverse loaded h)

  -- a call that leaves the table as it was
  module _ (coherent : is_coherent job ≡ true) (long : length table ≡ bytes_for (stack_count_of job)) where
    whole : table ≡ joined (cut (stack_count_of job) job.terms.size table)
    whole = sym (joined-cut (stack_count_of job) job.terms.size (omega (arith, (sizes job coherent).least)) (sizes job coherent).four table long)

    pub advance-loads : is_blanking job.phase ≡ false → in_reverse job ≡ true
        → (is_loaded job && ltb (first_pair job) (segment_count_of job)) ≡ false
        → (b : ℕ) → b ≡ first_unswept job → first_unswept job < segment_count_of job
        → (left : List ℕ) (after : Job) (refusal : ℕ) → (left, record { refusal = refusal; job = after }) ≡ loaded_in job b table list
        → store_of after table log left ≡ advanced store
    unfolding laid outcome lent held loaded_in part_of
    advance-loads blanked reverse none b at h left after refusal e =
        let first = first_unswept job in
        let segment = part_of job first table in
        let call = load_of job first segment (take (list_bytes_at job first) list) in
        ap (λ (o : List ℕ × Answer). store_of o.1.job table log o.0) (e ∙ ap (λ (i : ℕ). loaded_in job i table list) at)
        ∙ ap (store_of call.1.job table log)
        (loads-front job first segment list (held store).changed (front_kept (list_bytes_at job job.loaded) list))
        ∙ ap (λ (t : List ℕ). store_of call.1.job t log
        (let left = cond (eqb call.1.refusal 0) call.0 (held store).changed in left ++ drop (length left) list)) whole
        ∙ chosen (do_load first own (take (list_bytes_at job first) list)) (next-load job list blanked reverse none h)

    module _ (after : Job) (closes : after ≡ (close_of job (way_after job)).job) where
      closed : next_call {right = right_lengths job.terms} job list ≡ do_close (way_after job)
          → store_of after table log list ≡ advanced store
      unfolding laid outcome held
      closed e =
          unchanged after table log
          ∙ ap (λ (x : Job). store_of x table log ((held store).changed ++ drop (length (held store).changed) list)) closes
          ∙ ap (λ (t : List ℕ). store_of (close_of job (way_after job)).job t log ((held store).changed ++ drop (length (held store).changed) list)) whole
          ∙ chosen (do_close (way_after job)) e

      pub advance-opens : is_blanking job.phase ≡ true → segment_count_of job ≤ first_open job → store_of after table log list ≡ advanced store
      advance-opens blanking h = closed (next_level job list blanking h)

      pub advance-closes : is_blanking job.phase ≡ false → in_reverse job ≡ false → segment_count_of job ≤ first_pending job → segment_count_of job ≤ first_open job
          → store_of after table log list ≡ advanced store
      advance-closes blanked forward h l = closed (next-close job list blanked forward h l)

      pub advance-done : is_blanking job.phase ≡ false → in_reverse job ≡ true
          → (is_loaded job && ltb (first_pair job) (segment_count_of job)) ≡ false → segment_count_of job ≤ first_unswept job
          → store_of after table log list ≡ advanced store
      advance-done blanked reverse none h = closed (next-done job list blanked reverse none h)

-- with nothing left to do in a phase
pub ruleset phase_closes = (advance-opens, advance-closes, advance-done)

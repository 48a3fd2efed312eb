-- Reverse levels: each clause computes from the definitions, or is drawn from the theorems on either way.
use mathlib.Core.Path.{◌≡◌, refl}
use mathlib.Core.Bool.{true, true≢false, false≢true}
use mathlib.Core.List.{[]}
use Prim.Native.Nat.{ℕ, zero, suc, ◌<◌}
use native.Mathlib.Omega.{arith}
use lib.ListN.{take}
use Rattle.search.specs.Build.{after}
use Rattle.search.specs.EitherWay.{SearchedWhole, SameLevel, EitherWay, JustClosed, SameClosed, EitherWayClosed}
use Rattle.search.specs.JobState.{stack_count_at, passed_of, waiting_of, is_swept}
use Rattle.search.specs.Promise.{right_lengths}
use Rattle.search.specs.declared.Way.TheVariants.{Forward}
use Rattle.search.proofs.EitherWay.{either_way, either-way-closed}
use Rattle.worked.specs.PlainThree.{start, terms}
use Rattle.worked.specs.Reverse.{mixed, forward, half, searched, straight, Reversed}
use Rattle.worked.proofs.Open.{all-open}
use Rattle.worked.proofs.PlainThree.{buffers}

module _ (first second : ℕ) (words : ℕ → ℕ) where
  -- before the last Close of either list level 1 is searched whole: each pair is swept, or all is passed and settled
  mixed-whole : SearchedWhole 1 (searched first second words)
  unfolding all-open
  mixed-whole =
      record {
        level = refl;
        passed = λ f. absurd (true≢false f);
        settled = λ f. absurd (true≢false f);
        swept = λ r. swept;
      }
    where
      swept : (b j : ℕ) → b < 2 → j < 2 → is_swept (searched first second words).job b j ≡ true
      swept zero zero low h = refl
      swept zero (suc zero) low h = refl
      swept zero (suc (suc j)) low h = absurd (omega arith)
      swept (suc zero) zero low h = refl
      swept (suc zero) (suc zero) low h = refl
      swept (suc zero) (suc (suc j)) low h = absurd (omega arith)
      swept (suc (suc b)) j low h = absurd (omega arith)

  forward-whole : SearchedWhole 1 (straight first second words)
  unfolding all-open
  forward-whole = record { level = refl; passed = λ f. passed; settled = λ f. settled; swept = λ r. absurd (false≢true r) }
    where
      passed : (j : ℕ) → j < 2 → passed_of (straight first second words).job j ≡ stack_count_at (straight first second words).job j
      passed zero h = refl
      passed (suc zero) h = refl
      passed (suc (suc j)) h = absurd (omega arith)

      settled : (j : ℕ) → j < 2 → waiting_of (straight first second words).job j ≡ 0
      settled zero h = refl
      settled (suc zero) h = refl
      settled (suc (suc j)) h = absurd (omega arith)

  same : SameLevel (right_lengths terms) (searched first second words) (straight first second words)
  unfolding all-open EitherWay
  same =
      either_way terms (start first second words).segments (start first second words).segments (start first second words).log (start first second words).log [] []
      refl (buffers first second words) (buffers first second words) (take 22 mixed) (take 7 forward) 1 mixed-whole forward-whole

  -- both lists end in a Close of level 1
  mixed-closes : JustClosed (start first second words) 1 mixed
  unfolding all-open
  mixed-closes = record { before = take 22 mixed; way = Forward; place = refl; level = refl; accepted = refl }

  forward-closes : JustClosed (start first second words) 1 forward
  unfolding all-open
  forward-closes = record { before = take 7 forward; way = Forward; place = refl; level = refl; accepted = refl }

  same-closed : SameClosed (half first second words) (after (start first second words) forward)
  unfolding all-open EitherWayClosed
  same-closed =
      either-way-closed terms (start first second words).segments (start first second words).segments (start first second words).log (start first second words).log [] []
      refl (buffers first second words) (buffers first second words) mixed forward 1 mixed-closes forward-closes

  pub reversed : Reversed first second words
  unfolding all-open
  reversed =
      record {
        answers = refl;
        changed = refl;
        notes = refl;
        pair = refl;
        level = refl;
        unloaded = refl;
        unswept = refl;
        more = refl;
        finished = refl;
        leaves = refl;
        counts = refl;
        keeps = refl;
        alike = same.segments;
        counted = same.counts;
        answered = same.refusals;
        leads = same.phases;
        closed = same-closed.segments;
        closed_counts = same-closed.counts;
        closed_phase = same-closed.phases;
      }

-- `calls::settle::mark_all` meets its contract: what is left to mark from an offset on, over the marks so far, says it for all.
use mathlib.Core.Path.{◌≡◌}
use Prim.Native.Nat.{ℕ, ◌+◌, ◌*◌, ◌<◌}
use lib.ListN.{length, get_or, drop}
use Rattle.search.specs.JobState.{count_limit}
use Rattle.search.specs.Logs.{indexes_of}
use Rattle.search.specs.Marks.{mark_all}
use Rattle.search.specs.declared.Terms.{Terms}
use Rattle.twobit.specs.Mark.{marks_of, AtMost}
use Rattle.calls.proofs.settle.mark_all.Given as goal

-- by whichever terms: the code reads nothing of them after the first stack's index
abbrev pub invariant-loop-offset : goal.invariant-loop-offset
invariant-loop-offset l = record {
  long : length l.segment ≡ length l.initial.segment;
  few : AtMost l.found (count_limit + l.offset-index);
  marked : (terms : Terms) → l.base ≡ l.j * terms.size → ((k : ℕ) → k < length l.offsets → get_or l.offsets k 0 < terms.size)
      → mark_all terms l.label (indexes_of terms.size l.j l.offsets) (marks_of l.initial.segment l.initial.found)
      ≡ mark_all terms l.label (indexes_of terms.size l.j (drop l.offset-index l.offsets)) (marks_of l.segment l.found);
}

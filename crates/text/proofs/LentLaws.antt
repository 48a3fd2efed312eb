-- How much of the table, the log area and the changed list is used, and that there is as much.
use mathlib.Core.Path.{◌≡◌, refl, sym, ap, ap₂, ◌∙◌}
use mathlib.Core.Bool.{true, false, cond}
use mathlib.Core.List.{List, ◌++◌}
use Prim.Native.Nat.{ℕ, ◌*◌, ◌≤◌}
use native.Mathlib.Omega.{arith}
use lib.Dec.{leb}
use lib.IntN.{ℤ}
use lib.ListN.{take, drop, replicate}
use borrow.Author.Tests.{leb-true}
use Rattle.base.proofs.Lists.{take-replicate}
use Rattle.base.proofs.Tests.{and_left, and_right, and-fails-right}
use Rattle.stacks.specs.Turn.{all_groups}
use Rattle.stacks.specs.Stack.{is_pane_count, stack_count}
use Rattle.search.specs.Changed.{list_bytes}
use Rattle.search.specs.Drive.{build_of}
use Rattle.search.specs.Terms.{terms_of}
use Rattle.search.specs.Entries.{bytes_for}
use Rattle.search.specs.Segments.{segment_count, stack_count_in, is_segment_size}
use Rattle.search.specs.Answers.{Answer}
use Rattle.search.proofs.SegmentLaws.{segment-size-facts}
use Rattle.text.specs.Frame.{stack_limit, table_limit, report_room}
use Rattle.text.specs.Report.{is_reported, report_groups, table_bytes, log_words, changed_bytes, built_in}
use Rattle.text.specs.Reader.{log_limit, list_limit}

pub reported-panes : (kind n : ℕ) → is_reported kind n ≡ true → is_pane_count kind n ≡ true
unfolding is_reported
reported-panes kind n h = and_left (is_pane_count kind n) (leb (stack_count kind n) stack_limit) h

reported-limit : (kind n : ℕ) → is_reported kind n ≡ true → stack_count kind n ≤ stack_limit
unfolding is_reported
reported-limit kind n h = leb-true (stack_count kind n) stack_limit (and_right (is_pane_count kind n) (leb (stack_count kind n) stack_limit) h)

pub reported-none : (kind n : ℕ) → is_pane_count kind n ≡ false → false ≡ is_reported kind n
unfolding is_reported
reported-none kind n h = rw h

pub reported-some : (kind n count : ℕ) → is_pane_count kind n ≡ true → count ≡ stack_count kind n → leb count stack_limit ≡ is_reported kind n
unfolding is_reported
reported-some kind n count h e = rw (h, e)

pub groups_none : (kind n : ℕ) → is_reported kind n ≡ false → 0 ≡ report_groups kind n
unfolding report_groups
groups_none kind n h = rw h

pub groups-some : (kind n : ℕ) → is_reported kind n ≡ true → report_groups kind n ≡ all_groups kind n
unfolding report_groups
groups-some kind n h = rw h

pub table_none : (kind n : ℕ) → is_reported kind n ≡ false → 0 ≡ table_bytes kind n
unfolding table_bytes
table_none kind n h = rw h

pub table-some : (kind n bytes : ℕ) → is_reported kind n ≡ true → bytes ≡ bytes_for (stack_count kind n)
    → (bytes ≡ table_bytes kind n) × (bytes ≤ table_limit)
unfolding table_bytes bytes_for
table-some kind n bytes h e =
    let limit = reported-limit kind n h in
    (e ∙ ap (λ t. cond t (bytes_for (stack_count kind n)) 0) (sym h), omega arith)

-- the log area: nothing where one of the tests fails
pub log-unreported : (kind n S : ℕ) → is_reported kind n ≡ false → 0 ≡ log_words kind n S
unfolding log_words
log-unreported kind n S h = rw h

pub log-none : (kind n S : ℕ) → is_segment_size (stack_count kind n) S ≡ false → 0 ≡ log_words kind n S
unfolding log_words
log-none kind n S h = rw (and-fails-right (is_reported kind n) (is_segment_size (stack_count kind n) S) h)

pub log-some : (kind n S segments : ℕ) → is_reported kind n ≡ true → is_segment_size (stack_count kind n) S ≡ true
    → segments ≡ segment_count (stack_count kind n) S → (segments * report_room ≡ log_words kind n S) × (segments * report_room ≤ log_limit)
unfolding log_words
log-some kind n S segments h t e = (rw (e, h, t), omega (arith, (segment-size-facts (stack_count kind n) S t).few))

-- the changed list: no segment has more stacks than there are
pub changed-none : (kind n S : ℕ) → is_reported kind n ≡ false → 0 ≡ changed_bytes kind n S
unfolding changed_bytes
changed-none kind n S h = rw h

pub changed-some : (kind n S bytes : ℕ) → is_reported kind n ≡ true → bytes ≡ list_bytes (stack_count_in (stack_count kind n) S 0)
    → (bytes ≡ changed_bytes kind n S) × (bytes ≤ list_limit)
unfolding changed_bytes list_bytes stack_count_in
changed-some kind n S bytes h e =
    let limit = reported-limit kind n h in
    (e ∙ ap (λ t. cond t (list_bytes (stack_count_in (stack_count kind n) S 0)) 0) (sym h), omega arith)

-- ---- what is lent of what there is

-- what the build of a first frame leaves in a table, and its answer, with nothing in the log area and the list
unfoldable pub built_answer : ℕ → ℕ → List ℤ → ℕ → List ℕ → List ℕ × Answer
built_answer kind n wanted S table =
    let bytes = table_bytes kind n in
    let log : List ℕ = replicate (log_words kind n S) 0 in
    let list : List ℕ = replicate (changed_bytes kind n S) 0 in
    let end = build_of (terms_of kind n wanted (report_groups kind n) S report_room) (take bytes table) log list in
    (end.0 ++ drop bytes table, end.3)

pub answer-is : (kind n : ℕ) (wanted : List ℤ) (S : ℕ) (table : List ℕ)
    → (let x = built_answer kind n wanted S table in (x.0, x.1.job)) ≡ built_in kind n wanted S table
unfolding built_answer built_in
answer-is kind n wanted S table = refl

-- a build in the parts that are lent leaves the same
pub built-is : (kind n : ℕ) (wanted : List ℤ) (S : ℕ) (table part log list : List ℕ) (answer : Answer) (groups bytes words listed : ℕ)
    → groups ≡ report_groups kind n → bytes ≡ table_bytes kind n → words ≡ log_words kind n S → words ≤ log_limit
    → listed ≡ changed_bytes kind n S → listed ≤ list_limit
    → (part, log, list, answer)
    ≡ build_of (terms_of kind n wanted groups S report_room) (take bytes table) (take words (replicate log_limit 0)) (take listed (replicate list_limit 0))
    → (part ++ drop bytes table, answer) ≡ built_answer kind n wanted S table
unfolding built_answer
built-is kind n wanted S table part log list answer groups bytes words listed g b w l c m h =
    let build_by : ℕ → List ℕ → List ℕ → List ℕ → List ℕ × List ℕ × List ℕ × Answer = λ x. build_of (terms_of kind n wanted x S report_room) in
    let front : List ℕ = take bytes table in
    let logs : List ℕ = take words (replicate log_limit 0) in
    let lists : List ℕ = take listed (replicate list_limit 0) in
    ap₂ (λ (x : List ℕ × List ℕ × List ℕ × Answer) (rest : List ℕ). (x.0 ++ rest, x.3))
    (h
    ∙ ap (λ (x : ℕ). build_by x front logs lists) g
    ∙ ap₂ (λ (t w' : List ℕ). build_by (report_groups kind n) t w' lists) (ap (λ (j : ℕ). take j table) b)
    (take-replicate words log_limit 0 l ∙ ap (λ (j : ℕ). replicate j 0) w)
    ∙ ap (build_by (report_groups kind n) (take (table_bytes kind n) table) (replicate (log_words kind n S) 0))
    (take-replicate listed list_limit 0 m ∙ ap (λ (j : ℕ). replicate j 0) c))
    (ap (λ (j : ℕ). drop j table) b)

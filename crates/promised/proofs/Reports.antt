-- What we promise of the report, clause by clause: the theorems of `text`, and the definitions by which they say it.
use mathlib.Core.Path.{◌≡◌, refl, sym, ap, ◌∙◌}
use mathlib.Core.Bool.{Bool, true, false, not, ◌&&◌}
use mathlib.Core.List.{List, [], ◌∷◌, ◌++◌, map}
use Prim.Native.Nat.{ℕ, suc, ◌+◌, ◌-◌, ◌*◌, ◌/◌, ◌%◌, ◌≤◌, ◌<◌}
use lib.Dec.{leb, ltb, eqb}
use lib.IntN.{ℤ, pos, neg_ℤ}
use lib.ListN.{length, get_or, take, drop, replicate}
use borrow.Author.Tests.{eq-eqb}
use Rattle.base.specs.Words.{unless, all, tally, total, from}
use Rattle.base.proofs.Tests.{and_left, and_right}
use Rattle.stacks.specs.Counts.{CountsAt}
use Rattle.stacks.specs.Index.{pane_with}
use Rattle.stacks.specs.Operations.{kind_refusal}
use Rattle.stacks.specs.Stack.{is_stack, stack_count}
use Rattle.stacks.specs.Turn.{is_turn, moves_from, Fewest}
use Rattle.search.specs.Drive.{build_of}
use Rattle.search.specs.Entries.{entry_at, unseen, seen_in}
use Rattle.search.specs.Segments.{is_segment_size}
use Rattle.search.specs.Terms.{terms_of}
use Rattle.text.specs.Frame.{is_frame, pane_of, places_of, kind_in, panes_in, wanted_in, size_in, fields_refusal, bytes_refusal, first_refusal, first_of, later_refusal}
use Rattle.text.specs.Hex.{is_digit, digit_of, digit_char, is_byte, is_pairs, bytes_of, hex_of, line_of, number_from, number_of, four_bytes}
use Rattle.text.specs.Lines.{in_first, lines_of}
use Rattle.text.specs.Output.{level_line, line_at, level_lines, deepest_line, total_line, plan_line, refusal_line}
use Rattle.text.specs.Promise.{Answers, Reports}
use Rattle.text.specs.Reader.{new_reader, byte_read, end_read, printed_all}
use Rattle.text.specs.Report.{report_groups, table_bytes, log_words, changed_bytes, built_in, later_text, later_texts, report_of}
use Rattle.text.specs.declared.Reader.{Reader}
use Rattle.text.proofs.Meaning
use Rattle.text.proofs.Reading
use Rattle.text.proofs.Writing

-- ---- the text of an accepted first frame and of the lines after it, whatever the table held

module _ (table cs : List ℕ) (lines : List (List ℕ)) (long : length table ≡ 11520) (accepted : first_refusal cs ≡ 0) where
  abbrev kind : ℕ
  kind = (first_of cs).kind

  abbrev n : ℕ
  n = (first_of cs).n

  abbrev wanted : List ℤ
  wanted = (first_of cs).wanted

  -- what the frame's bytes say
  frame-kind : kind ≡ get_or (bytes_of cs) 0 0
  unfolding first_of kind_in
  frame-kind = rw (eq-eqb (first_refusal cs) 0 accepted)

  frame-n : n ≡ get_or (bytes_of cs) 1 0
  unfolding first_of panes_in
  frame-n = rw (eq-eqb (first_refusal cs) 0 accepted)

  frame-wanted : wanted ≡ places_of (take n (drop 2 (bytes_of cs)))
  unfolding first_of panes_in wanted_in
  frame-wanted = rw (eq-eqb (first_refusal cs) 0 accepted)

  frame-size : (first_of cs).size ≡ number_of (drop (n + 2) (bytes_of cs))
  unfolding first_of panes_in size_in
  frame-size = rw (eq-eqb (first_refusal cs) 0 accepted)

  -- the table that the frame's build leaves
  abbrev built : List ℕ
  built = take (table_bytes kind n) (built_in kind n wanted (first_of cs).size table).0

  reports : Reports kind n wanted built lines (report_of table (cs ∷ lines))
  reports = Meaning.report-means table cs lines long accepted

  abbrev deepest : ℕ
  deepest = reports.deepest

  abbrev counts : List ℕ
  counts = reports.counts

  abbrev sum : ℕ
  sum = reports.sum

  -- a line for each level, ff and the deepest, fe and the total, and the later frames' answers
  text : report_of table (cs ∷ lines)
      ≡ level_lines deepest counts ++ line_of (255 ∷ deepest ∷ []) ++ line_of (254 ∷ four_bytes sum) ++ later_texts kind n wanted built lines
  unfolding deepest_line total_line
  text = reports.text_is

  levels : length counts ≡ suc deepest
  levels = reports.levels

  -- each count is the number of stacks at exactly that many turns
  counted : (d : ℕ) → d ≤ deepest → CountsAt kind n wanted d (get_or counts d 0)
  counted = reports.counted

  -- numbers fit their bytes
  count_fits : (d : ℕ) → d ≤ deepest → number_of (four_bytes (get_or counts d 0)) ≡ get_or counts d 0
  count_fits = reports.whole

  deepest-fits : deepest < 256
  deepest-fits = reports.fit

  sum_fits : number_of (four_bytes sum) ≡ sum
  sum_fits = reports.sum_whole

  -- the total is the sum of the printed counts, and the number of table entries other than 3
  summed : sum ≡ total counts
  summed = reports.summed

  seen : sum ≡ tally (λ i. not (eqb (entry_at built i) 3)) (from 0 (stack_count kind n))
  unfolding seen_in unseen
  seen = reports.seen

  spare : (i : ℕ) → stack_count kind n ≤ i → i < 4 * length built → entry_at built i ≡ 3
  spare = reports.spare

  -- all stacks are counted
  added : total counts ≡ stack_count kind n
  added = reports.added

  -- the deepest level is reached, and no stack needs more turns
  reached : (s : List ℤ) × (is_stack kind n s ≡ true) × Fewest kind n s wanted deepest
  reached = reports.reached

  greatest : (s : List ℤ) (d : ℕ) → is_stack kind n s ≡ true → Fewest kind n s wanted d → d ≤ deepest
  greatest = reports.greatest

  -- a later frame that is refused
  refused : (later : List ℕ) → (later_refusal kind n later ≡ 0 → ⊥)
      → later_text kind n wanted built later ≡ line_of (238 ∷ later_refusal kind n later ∷ [])
  unfolding refusal_line
  refused = reports.refused

  -- and one that is not
  module _ (later : List ℕ) (passes : later_refusal kind n later ≡ 0) where
    answers : Answers kind n wanted built later
    answers = reports.planned later passes

    abbrev turns : List ℕ
    turns = answers.turns

    answer : later_text kind n wanted built later ≡ line_of (length turns ∷ turns)
    unfolding plan_line
    answer = answers.text

    -- its plan arrives, and no list of turns that does is shorter
    are-turns : all (is_turn kind n) turns ≡ true
    are-turns = answers.arrives.turns

    arrives : moves_from kind n turns (places_of (bytes_of later)) ≡ wanted
    arrives = answers.arrives.arrives

    shortest : Fewest kind n (places_of (bytes_of later)) wanted (length turns)
    shortest = answers.shortest

    least : (ks : List ℕ) → all (is_turn kind n) ks ≡ true → moves_from kind n ks (places_of (bytes_of later)) ≡ wanted → length turns ≤ length ks
    least ks are leads = answers.shortest.least ks (record { turns = are; arrives = leads })

    -- the number of turns and each turn fit their byte, so that the line says them
    answer-fits : all (λ b. ltb b 256) (length turns ∷ turns) ≡ true
    unfolding is_byte
    answer-fits = answers.fit

    answer-says : bytes_of (line_of (length turns ∷ turns)) ≡ length turns ∷ turns
    unfolding plan_line
    answer-says = Meaning.answer-says answers

-- a refused first frame ends the run, and a missing one is refused 16
report-refused : (table cs : List ℕ) (lines : List (List ℕ)) → (first_refusal cs ≡ 0 → ⊥)
    → report_of table (cs ∷ lines) ≡ line_of (238 ∷ first_refusal cs ∷ [])
unfolding refusal_line
report-refused = Meaning.report-refused

report-missing : (table : List ℕ) → report_of table [] ≡ line_of (238 ∷ 16 ∷ [])
unfolding report_of refusal_line
report-missing table = refl

-- a level and the total can be read back from their lines
level-says : (d count : ℕ) → d < 256 → bytes_of (level_line d count) ≡ d ∷ four_bytes count
level-says = Meaning.level-says

total-says : (sum : ℕ) → bytes_of (total_line sum) ≡ 254 ∷ four_bytes sum
total-says = Meaning.total-says

-- ---- reading

-- read character by character an input prints the report of its lines
read-report : (table input : List ℕ) → printed_all new_reader table input ≡ report_of table (lines_of input)
read-report = Reading.read-report

-- what is printed so: what each character brings, and then the end
printed-end : (reader : Reader) (table : List ℕ) → printed_all reader table [] ≡ (end_read reader table).text
unfolding printed_all
printed-end reader table = refl

printed-more : (reader : Reader) (table : List ℕ) (c : ℕ) (cs : List ℕ)
    → (let e = byte_read reader c table in printed_all reader table (c ∷ cs) ≡ e.text ++ printed_all e.reader e.table cs)
unfolding printed_all
printed-more reader table c cs = refl

-- a line goes to its 10, the last one may lack it, and nothing follows a last one
not_end : (c : ℕ) (line : List ℕ) → all (λ x. not (eqb x 10)) (c ∷ line) ≡ true → (eqb c 10 ≡ false) × (all (λ x. not (eqb x 10)) line ≡ true)
unfolding all
not_end c line h = (go (eqb c 10) (and_left (not (eqb c 10)) (all (λ x. not (eqb x 10)) line) h), and_right (not (eqb c 10)) (all (λ x. not (eqb x 10)) line) h)
  where
    go : (t : Bool) → not t ≡ true → t ≡ false
    go false e = refl
    go true e = sym e

line-ends : (line rest : List ℕ) → all (λ c. not (eqb c 10)) line ≡ true → lines_of (line ++ (10 ∷ rest)) ≡ line ∷ lines_of rest
unfolding lines_of in_first
line-ends [] rest h = refl
line-ends (c ∷ line) rest h = let p = not_end c line h in rw (p.0, line-ends line rest p.1)

line-lacks-end : (c : ℕ) (line : List ℕ) → all (λ x. not (eqb x 10)) (c ∷ line) ≡ true → lines_of (c ∷ line) ≡ (c ∷ line) ∷ []
unfolding lines_of in_first
line-lacks-end c [] h = rw (not_end c [] h).0
line-lacks-end c (d ∷ line) h = let p = not_end c (d ∷ line) h in rw (p.0, line-lacks-end d line p.1)

no_line-is : lines_of [] ≡ []
unfolding lines_of
no_line-is = refl

-- ---- frames

-- the first frame's refusals: 16, 1, 2, 16, 3, 5
first-refusal : (cs : List ℕ)
    → (let bs = bytes_of cs in
    let kind = get_or bs 0 0 in
    let n = get_or bs 1 0 in
    first_refusal cs
    ≡ unless (leb (length cs) 64 && (eqb (length cs % 2) 0 && all is_digit cs)) 16
    (unless (leb 2 (length bs)) 16
    (kind_refusal kind n
    (unless (eqb (length bs) (n + 6)) 16
    (unless (leb (stack_count kind n) 46080) 16
    (unless (is_stack kind n (places_of (take n (drop 2 bs)))) 3
    (unless (is_segment_size (stack_count kind n) (number_of (drop (n + 2) bs))) 5 0)))))))
unfolding first_refusal bytes_refusal fields_refusal is_frame is_pairs kind_in panes_in wanted_in size_in
first-refusal cs = refl

-- a later one's: 16, 3
later-refusal : (kind n : ℕ) (cs : List ℕ)
    → later_refusal kind n cs
    ≡ unless (leb (length cs) 64 && (eqb (length cs % 2) 0 && all is_digit cs)) 16
    (unless (eqb (length (bytes_of cs)) n) 16 (unless (is_stack kind n (places_of (bytes_of cs))) 3 0))
unfolding later_refusal is_frame is_pairs
later-refusal kind n cs = refl

-- the places of panes: 80 hexadecimal is added for coat down
places : (bs : List ℕ) → places_of bs ≡ map pane_of bs ++ replicate (12 - length bs) (pos 0)
unfolding places_of
places bs = refl

panes : map pane_of (1 ∷ 12 ∷ 129 ∷ 140 ∷ []) ≡ pos 1 ∷ pos 12 ∷ neg_ℤ (pos 1) ∷ neg_ℤ (pos 12) ∷ []
unfolding pane_of pane_with
panes = refl

-- the frame's build: every size, and C is 16
build-in : (kind n : ℕ) (wanted : List ℤ) (S : ℕ) (table : List ℕ)
    → (let bytes = table_bytes kind n in
    let end = build_of (terms_of kind n wanted (report_groups kind n) S 16) (take bytes table) (replicate (log_words kind n S) 0) (replicate (changed_bytes kind n S) 0) in
    built_in kind n wanted S table ≡ (end.0 ++ drop bytes table, end.3.job))
unfolding built_in
build-in kind n wanted S table = refl

-- ---- lines of output

-- the levels from 0 to the deepest, one after the other, each its number and its count in four bytes, high byte first
levels-first : (counts : List ℕ) → level_lines 0 counts ≡ line_of (0 ∷ four_bytes (get_or counts 0 0))
unfolding level_lines level_line
levels-first counts = Writing.levels-more (line_at counts) 0 ∙ ap (λ (l : List ℕ). l ++ line_at counts 0) (Writing.levels-none (line_at counts))

levels-more : (d : ℕ) (counts : List ℕ) → level_lines (suc d) counts ≡ level_lines d counts ++ line_of (suc d ∷ four_bytes (get_or counts (suc d) 0))
unfolding level_lines level_line
levels-more d counts = Writing.levels-more (line_at counts) (suc d)

four_bytes-is : (x : ℕ) → four_bytes x ≡ x / 16777216 % 256 ∷ x / 65536 % 256 ∷ x / 256 % 256 ∷ x % 256 ∷ []
unfolding four_bytes
four_bytes-is x = refl

number-none : (high : ℕ) → number_from high [] ≡ high
unfolding number_from
number-none high = refl

number_more : (high b : ℕ) (bs : List ℕ) → number_from high (b ∷ bs) ≡ number_from (high * 256 + b) bs
unfolding number_from
number_more high b bs = refl

number-whole : (bs : List ℕ) → number_of bs ≡ number_from 0 bs
unfolding number_of
number-whole bs = refl

-- an answer for each later line, in their order
answers-none : (kind n : ℕ) (wanted : List ℤ) (table : List ℕ) → later_texts kind n wanted table [] ≡ []
unfolding later_texts
answers-none kind n wanted table = refl

answers-more : (kind n : ℕ) (wanted : List ℤ) (table cs : List ℕ) (lines : List (List ℕ))
    → later_texts kind n wanted table (cs ∷ lines) ≡ later_text kind n wanted table cs ++ later_texts kind n wanted table lines
unfolding later_texts
answers-more kind n wanted table cs lines = refl

-- a line of bytes: two digits each, the higher first, and a 10
line-of : (bs : List ℕ) → line_of bs ≡ hex_of bs ++ (10 ∷ [])
unfolding line_of
line-of bs = refl

hex-more : (b : ℕ) (bs : List ℕ) → hex_of (b ∷ bs) ≡ digit_char (b / 16) ∷ digit_char (b % 16) ∷ hex_of bs
unfolding hex_of
hex-more b bs = refl

hex-none : hex_of [] ≡ []
unfolding hex_of
hex-none = refl

bytes-more : (a b : ℕ) (cs : List ℕ) → bytes_of (a ∷ b ∷ cs) ≡ (digit_of a * 16 + digit_of b) ∷ bytes_of cs
unfolding bytes_of
bytes-more a b cs = refl

bytes-none : bytes_of [] ≡ []
unfolding bytes_of
bytes-none = refl

-- 0 to 9 and a to f
abbrev digits : List ℕ
digits = 48 ∷ 49 ∷ 50 ∷ 51 ∷ 52 ∷ 53 ∷ 54 ∷ 55 ∷ 56 ∷ 57 ∷ 97 ∷ 98 ∷ 99 ∷ 100 ∷ 101 ∷ 102 ∷ []

digit-chars : map digit_char (from 0 16) ≡ digits
unfolding from digit_char
digit-chars = refl

digits_of : map digit_of digits ≡ from 0 16
unfolding from digit_of is_digit
digits_of = refl

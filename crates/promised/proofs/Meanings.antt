-- What the words of the promises mean: roads, fewest turns, counts; the calls of a list, what each is lent and what it leaves; and what carries a
-- build on. Each is taken apart, and put together again where a promise asks for it, so that it says neither less nor more.
use mathlib.Core.Path.{◌≡◌, refl}
use mathlib.Core.Logic.{◌⊎◌, inl, inr}
use mathlib.Core.Bool.{Bool, true, false, not, ◌&&◌, ◌||◌, cond}
use mathlib.Core.List.{List, [], ◌∷◌, ◌++◌, map}
use Prim.Native.Nat.{ℕ, ◌+◌, ◌-◌, ◌*◌, ◌≤◌, ◌<◌}
use lib.Dec.{ltb, eqb}
use lib.IntN.{ℤ}
use lib.ListN.{length, get_or, set, take, replicate}
use Rattle.base.specs.Words.{all, tally, filter, from}
use Rattle.graph.specs.Walks.{is_move}
use Rattle.stacks.specs.Counts.{TellsWhere, CountsWhere, CountsBy, CountsAt}
use Rattle.stacks.specs.Index.{stack_at, all_stacks, coat}
use Rattle.stacks.specs.Order.{lex_less, precedes}
use Rattle.stacks.specs.Stack.{is_stack, order_of, stack_count}
use Rattle.stacks.specs.Turn.{is_turn, turns_of, lifts, turns_in, turn_of, move_of, moves_from, RoadBy, FewestBy, Road, Fewest, turn_bound}
use Rattle.stacks.specs.Stack
use Rattle.search.specs.Begin.{begun, begin_of}
use Rattle.search.specs.Blank.{blank_of}
use Rattle.search.specs.Build.{World, Lengths, Lent, Listed, Call, own, other, own_list, other_list, do_blank, do_expand, do_settle, do_look, do_load, do_sweep, do_close, loaded_as, lent, kept, lent_list, is_own, is_lent_own, outcome, after, is_load_due, CarriesOn, passes, empties, sweeps, loads, changes}
use Rattle.search.specs.Changed.{list_bytes}
use Rattle.search.specs.Close.{is_swept_whole, close_of}
use Rattle.search.specs.Entries.{bytes_for, entry_at, unseen, seen_in}
use Rattle.search.specs.Expand.{expand_of}
use Rattle.search.specs.JobState.{segment_count_of, stack_count_at, passed_of, waiting_of, is_loaded, is_swept, directed}
use Rattle.search.specs.Load.{load_of}
use Rattle.search.specs.Look.{look_of}
use Rattle.search.specs.Promise.{right_bytes, right_words, right_lengths}
use Rattle.search.specs.PromiseBy.{RoadIn, FewestIn, CountsIn}
use Rattle.search.specs.Segments.{segment_count, stack_count_in}
use Rattle.search.specs.Settle.{settle_of}
use Rattle.search.specs.Sweep.{sweep_of}
use Rattle.search.specs.Terms.{begin_refusal, terms_of}
use Rattle.search.specs.declared.Job.{Job}
use Rattle.search.specs.declared.Terms.{Terms}
use Rattle.search.specs.declared.Phase.TheVariants.{Blanking}
use Rattle.search.specs.declared.Way.{Way}
use Rattle.search.specs.declared.Way.TheVariants.{Forward}

-- ---- roads, fewest turns and counts

-- a move of a kind and n is the turn of its number; moves one after the other
move-is : (kind n k : ℕ) (s : List ℤ) → move_of kind n k s ≡ turn_of kind k s
unfolding move_of
move-is kind n k s = refl

no-turns : (kind n : ℕ) (s : List ℤ) → moves_from kind n [] s ≡ s
unfolding moves_from
no-turns kind n s = refl

one-turn-more : (kind n k : ℕ) (ks : List ℕ) (s : List ℤ) → moves_from kind n (k ∷ ks) s ≡ moves_from kind n ks (move_of kind n k s)
unfolding moves_from
one-turn-more kind n k ks s = refl

-- the turns of a set are those that it names, and a move is one of a list
turns-of-set : (kind n groups : ℕ) → turns_in kind n groups ≡ filter (lifts groups) (turns_of kind n)
unfolding turns_in
turns-of-set kind n groups = refl

no_move : (k : ℕ) → is_move [] k ≡ false
unfolding is_move
no_move k = refl

one-move-more : (m : ℕ) (ms : List ℕ) (k : ℕ) → is_move (m ∷ ms) k ≡ (eqb k m || is_move ms k)
unfolding is_move
one-move-more m ms k = refl

-- 2 (n - 1) if plain, 3 n if coated
bound-plain : (n : ℕ) → turn_bound 0 n ≡ 2 * (n - 1)
unfolding turn_bound Stack.is_coated
bound-plain n = refl

bound-coated : (n : ℕ) → turn_bound 1 n ≡ 3 * n
unfolding turn_bound Stack.is_coated
bound-coated n = refl

module _ {kind n : ℕ} {is_move : ℕ → Bool} {s w : List ℤ} where
  -- a road is moves alone, which take s to w
  module _ {ks : List ℕ} where
    road-is : RoadBy kind n is_move ks s w → (all is_move ks ≡ true) × (moves_from kind n ks s ≡ w)
    road-is road = (road.turns, road.arrives)

    road-from : all is_move ks ≡ true → moves_from kind n ks s ≡ w → RoadBy kind n is_move ks s w
    road-from turns arrives = record { turns = turns; arrives = arrives }

  -- d are the fewest where a road has d, and every road at least d
  module _ {d : ℕ} where
    fewest-is : FewestBy kind n is_move s w d
        → ((ks : List ℕ) × RoadBy kind n is_move ks s w × (length ks ≡ d)) × ((ks : List ℕ) → RoadBy kind n is_move ks s w → d ≤ length ks)
    fewest-is fewest = ((fewest.road, fewest.leads, fewest.long), fewest.least)

    fewest-from : (ks : List ℕ) → RoadBy kind n is_move ks s w → length ks ≡ d → ((ks : List ℕ) → RoadBy kind n is_move ks s w → d ≤ length ks)
        → FewestBy kind n is_move s w d
    fewest-from ks leads long least = record { road = ks; leads = leads; long = long; least = least }

-- a test tells the stacks with a property where it passes exactly these
module _ {kind n : ℕ} {property : List ℤ → Type 0} where
  module _ {test : List ℤ → Bool} where
    tells_is : TellsWhere kind n property test
        → ((s : List ℤ) → is_stack kind n s ≡ true → test s ≡ true → property s)
        × ((s : List ℤ) → is_stack kind n s ≡ true → property s → test s ≡ true)
    tells_is tells = (tells.only, tells.every)

    tells-from : ((s : List ℤ) → is_stack kind n s ≡ true → test s ≡ true → property s)
        → ((s : List ℤ) → is_stack kind n s ≡ true → property s → test s ≡ true) → TellsWhere kind n property test
    tells-from only every = record { only = only; every = every }

  -- some test tells them, and by whichever does as many of all stacks pass
  where-is : {count : ℕ} → CountsWhere kind n property count
      → ((test : List ℤ → Bool) × TellsWhere kind n property test)
      × ((test : List ℤ → Bool) → TellsWhere kind n property test → count ≡ tally test (all_stacks kind n))
  where-is counts = ((counts.test, counts.tells), counts.tallied)

-- what is counted by some moves is the stacks whose fewest moves are d
counts-is : {kind n : ℕ} {is_move : ℕ → Bool} {w : List ℤ} {d count : ℕ} → CountsBy kind n is_move w d count
    → CountsWhere kind n (λ s. FewestBy kind n is_move s w d) count
counts-is counts = counts

-- by all turns of a kind and n, and by the turns of a set
module _ (kind n groups : ℕ) {s w : List ℤ} where
  road-all : {ks : List ℕ} → Road kind n ks s w → RoadBy kind n (is_turn kind n) ks s w
  road-all road = road

  all-road : {ks : List ℕ} → RoadBy kind n (is_turn kind n) ks s w → Road kind n ks s w
  all-road road = road

  road-set : {ks : List ℕ} → RoadIn kind n groups ks s w → RoadBy kind n (is_move (turns_in kind n groups)) ks s w
  road-set road = road

  set-road : {ks : List ℕ} → RoadBy kind n (is_move (turns_in kind n groups)) ks s w → RoadIn kind n groups ks s w
  set-road road = road

  module _ {d : ℕ} where
    fewest-all : Fewest kind n s w d → FewestBy kind n (is_turn kind n) s w d
    fewest-all fewest = fewest

    all-fewest : FewestBy kind n (is_turn kind n) s w d → Fewest kind n s w d
    all-fewest fewest = fewest

    fewest-set : FewestIn kind n groups s w d → FewestBy kind n (is_move (turns_in kind n groups)) s w d
    fewest-set fewest = fewest

    set-fewest : FewestBy kind n (is_move (turns_in kind n groups)) s w d → FewestIn kind n groups s w d
    set-fewest fewest = fewest

module _ (kind n groups : ℕ) {w : List ℤ} {d count : ℕ} where
  counts_all : CountsAt kind n w d count → CountsBy kind n (is_turn kind n) w d count
  counts_all counts = counts

  counts-set : CountsIn kind n groups w d count → CountsBy kind n (is_move (turns_in kind n groups)) w d count
  counts-set counts = counts

-- all stacks are those at the indexes below N
every-stack : (kind n : ℕ) → all_stacks kind n ≡ map (stack_at kind n) (from 0 (stack_count kind n))
unfolding all_stacks
every-stack kind n = refl

-- an entry is seen where it is not 3
seen-is : (bytes : List ℕ) (m : ℕ) → seen_in bytes m ≡ tally (λ i. not (eqb (entry_at bytes i) 3)) (from 0 m)
unfolding seen_in unseen
seen-is bytes m = refl

-- the order that the index numbers: at the first place that differs the smaller number, of the order without coats and then of the coats
less_none : (ys : List ℕ) → lex_less [] ys ≡ false
unfolding lex_less
less_none ys = refl

less-first : (x y : ℕ) (xs ys : List ℕ) → lex_less (x ∷ xs) (y ∷ ys) ≡ (ltb x y || (eqb x y && lex_less xs ys))
unfolding lex_less
less-first x y xs ys = refl

precedes-is : (n : ℕ) (a b : List ℤ) → precedes n a b ≡ lex_less (order_of n a ++ map coat (take n a)) (order_of n b ++ map coat (take n b))
unfolding precedes
precedes-is n a b = refl

-- ---- a build

-- Begin's job is the one that the claims start from
begins : (kind n : ℕ) (wanted : List ℤ) (groups S C : ℕ) → begin_refusal (terms_of kind n wanted groups S C) ≡ 0
    → begin_of (terms_of kind n wanted groups S C)
    ≡ record {
      refusal = 0;
      job = record {
        terms = record { kind = kind; n = n; wanted = wanted; groups = groups; size = S; room = C };
        phase = Blanking;
        way = Forward;
        loaded = 64;
        passed = replicate 64 0;
        waiting = replicate 64 0;
        swept = replicate 64 0;
        counts = replicate 256 0;
      };
    }
unfolding begin_of begun
begins kind n wanted groups S C accepted = rw accepted refl

-- the right lengths: ⌈m/4⌉ bytes of segment j, and G × C numbers of the log area
right-bytes : (kind n : ℕ) (wanted : List ℤ) (groups S C j : ℕ)
    → right_bytes (terms_of kind n wanted groups S C) j ≡ bytes_for (stack_count_in (stack_count kind n) S j)
unfolding right_bytes
right-bytes kind n wanted groups S C j = refl

right-words : (kind n : ℕ) (wanted : List ℤ) (groups S C : ℕ) → right_words (terms_of kind n wanted groups S C) ≡ segment_count (stack_count kind n) S * C
unfolding right_words
right-words kind n wanted groups S C = refl

right-lengths : (terms : Terms) → right_lengths terms ≡ record { bytes = right_bytes terms; words = right_words terms }
right-lengths terms = refl

-- a buffer is lent that is the build's own, or any other of a wrong length
module _ (right : ℕ) where
  lends-own : Lent right
  lends-own = own

  lends-other : (xs : List ℕ) → (length xs ≡ right → ⊥) → Lent right
  lends-other = other

  lent_own : (mine : List ℕ) → lent {right = right} own mine ≡ mine
  unfolding lent
  lent_own mine = refl

  lent_other : (xs mine : List ℕ) (wrong : length xs ≡ right → ⊥) → lent (other xs wrong) mine ≡ xs
  unfolding lent
  lent_other xs mine wrong = refl

  kept-own : (mine after : List ℕ) → kept {right = right} own mine after ≡ after
  unfolding kept
  kept-own mine after = refl

  kept-other : (xs mine after : List ℕ) (wrong : length xs ≡ right → ⊥) → kept (other xs wrong) mine after ≡ mine
  unfolding kept
  kept-other xs mine after wrong = refl

  is-own : is_own {right = right} own ≡ true
  unfolding is_own
  is-own = refl

  is-not-own : (xs : List ℕ) (wrong : length xs ≡ right → ⊥) → is_own (other xs wrong) ≡ false
  unfolding is_own
  is-not-own xs wrong = refl

-- a Sweep is lent the build's own changed list, or any other of a wrong length
lists-own : (job : Job) (changed : List ℕ) → lent_list job own_list changed ≡ changed
unfolding lent_list
lists-own job changed = refl

lists-other : (job : Job) (xs changed : List ℕ)
    → lent_list job (other_list xs) changed ≡ cond (eqb (length xs) (list_bytes (stack_count_at job job.loaded))) changed xs
unfolding lent_list
lists-other job xs changed = refl

-- the build's own segment j, and a world with another job and another segment j
abbrev mine_in : World → ℕ → List ℕ
mine_in w j = get_or w.segments j []

abbrev given_back_world : World → Job → ℕ → List ℕ → World
given_back_world w job j segment = record { job = job; segments = set w.segments j segment; log = w.log; changed = w.changed }

-- the calls of a list, each with any j, way and list, and what each leaves: the outcome of its own operation, of the build's own buffers alone
module _ (right : Lengths) (w : World) where
  blanks : (j : ℕ) (segment : Lent (right.bytes j))
      → (let out = blank_of w.job j (lent segment (mine_in w j)) in
      outcome {right = right} w (do_blank j segment) ≡ record { refusal = out.1.refusal; world = given_back_world w out.1.job j (kept segment (mine_in w j) out.0) })
  unfolding outcome
  blanks j segment = refl

  expands : (j : ℕ) (segment : Lent (right.bytes j)) (log : Lent right.words)
      → (let out = expand_of w.job j (lent segment (mine_in w j)) (lent log w.log) in
      outcome {right = right} w (do_expand j segment log)
      ≡ record {
        refusal = out.2.refusal;
        world = record {
          job = out.2.job;
          segments = set w.segments j (kept segment (mine_in w j) out.0);
          log = kept log w.log out.1;
          changed = w.changed;
        };
      })
  unfolding outcome
  expands j segment log = refl

  settles : (j : ℕ) (segment : Lent (right.bytes j)) (log : Lent right.words)
      → (let out = settle_of w.job j (lent segment (mine_in w j)) (lent log w.log) in
      outcome {right = right} w (do_settle j segment log) ≡ record { refusal = out.1.refusal; world = given_back_world w out.1.job j (kept segment (mine_in w j) out.0) })
  unfolding outcome
  settles j segment log = refl

  looks : (j : ℕ) (log : Lent right.words) → outcome {right = right} w (do_look j log) ≡ record { refusal = (look_of w.job j (lent log w.log)).1; world = w }
  unfolding outcome
  looks j log = refl

  -- a Load that is not refused leaves the changed list
  loads-list : (b : ℕ) (segment : Lent (right.bytes b)) (list : List ℕ)
      → (let out = load_of w.job b (lent segment (mine_in w b)) list in
      outcome {right = right} w (do_load b segment list)
      ≡ record {
        refusal = out.1.refusal;
        world = record { job = out.1.job; segments = w.segments; log = w.log; changed = cond (eqb out.1.refusal 0) out.0 w.changed };
      })
  unfolding outcome
  loads-list b segment list = refl

  sweeps-list : (j : ℕ) (segment : Lent (right.bytes j)) (list : Listed)
      → (let out = sweep_of w.job j (lent segment (mine_in w j)) (lent_list w.job list w.changed) in
      outcome {right = right} w (do_sweep j segment list) ≡ record { refusal = out.1.refusal; world = given_back_world w out.1.job j (kept segment (mine_in w j) out.0) })
  unfolding outcome
  sweeps-list j segment list = refl

  closes : (way : Way)
      → (let out = close_of w.job way in
      outcome {right = right} w (do_close way)
      ≡ record { refusal = out.refusal; world = record { job = out.job; segments = w.segments; log = w.log; changed = w.changed } })
  unfolding outcome
  closes way = refl

  after_none : after {right = right} w [] ≡ w
  unfolding after
  after_none = refl

  after_one : (call : Call right) (calls : List (Call right)) → after w (call ∷ calls) ≡ after (outcome w call).world calls
  unfolding after
  after_one call calls = refl

-- a call is lent what it should get
module _ (right : Lengths) where
  owns : (j : ℕ) (segment : Lent (right.bytes j)) (log : Lent right.words) (list : List ℕ) (listed : Listed) (way : Way)
      → (is_lent_own {right = right} (do_blank j segment) ≡ is_own segment)
      × (is_lent_own {right = right} (do_expand j segment log) ≡ (is_own segment && is_own log))
      × (is_lent_own {right = right} (do_settle j segment log) ≡ (is_own segment && is_own log))
      × (is_lent_own {right = right} (do_look j log) ≡ is_own log)
      × (is_lent_own {right = right} (do_load j segment list) ≡ is_own segment)
      × (is_lent_own {right = right} (do_sweep j segment listed) ≡ is_own segment)
      × (is_lent_own {right = right} (do_close way) ≡ true)
  unfolding is_lent_own
  owns j segment log list listed way = (refl, refl, refl, refl, refl, refl, refl)

-- ---- what carries a build on

-- a Load is due where none is loaded, or the loaded segment has no pair left
due-is : (job : Job) → is_load_due job ≡ (not (is_loaded job) || is_swept_whole job job.loaded)
unfolding is_load_due
due-is job = refl

-- these five and no other
carries-by : {w w' : World} → CarriesOn w w'
    → ((j : ℕ) × (passed_of w.job j < passed_of w'.job j))
    ⊎ (((j : ℕ) × (0 < waiting_of w.job j) × (waiting_of w'.job j ≡ 0))
    ⊎ (((b : ℕ) × (j : ℕ) × (is_swept w.job b j ≡ false) × (is_swept w'.job b j ≡ true))
    ⊎ (((b : ℕ) × (j : ℕ) × (is_load_due w.job ≡ true) × (w'.job.loaded ≡ b) × (b < segment_count_of w.job) × (j < segment_count_of w.job)
    × (is_swept w.job b j ≡ false))
    ⊎ (w.job.phase ≡ w'.job.phase → ⊥))))
carries-by (passes j more) = inl (j, more)
carries-by (empties j some none) = inr (inl (j, some, none))
carries-by (sweeps b j not_yet now) = inr (inr (inl (b, j, not_yet, now)))
carries-by (loads b j due is-loaded b-low j-low unswept) = inr (inr (inr (inl (b, j, due, is-loaded, b-low, j-low, unswept))))
carries-by (changes differ) = inr (inr (inr (inr differ)))

-- each of them does, so that where no call carries on, none of these comes about
module _ {w w' : World} where
  passes-carry : (j : ℕ) → passed_of w.job j < passed_of w'.job j → CarriesOn w w'
  passes-carry = passes

  empties-carry : (j : ℕ) → 0 < waiting_of w.job j → waiting_of w'.job j ≡ 0 → CarriesOn w w'
  empties-carry = empties

  sweeps-carry : (b j : ℕ) → is_swept w.job b j ≡ false → is_swept w'.job b j ≡ true → CarriesOn w w'
  sweeps-carry = sweeps

  loads-carry : (b j : ℕ) → is_load_due w.job ≡ true → w'.job.loaded ≡ b → b < segment_count_of w.job → j < segment_count_of w.job
      → is_swept w.job b j ≡ false → CarriesOn w w'
  loads-carry = loads

  changes-carry : (w.job.phase ≡ w'.job.phase → ⊥) → CarriesOn w w'
  changes-carry = changes

-- a world with the loaded segment and the changed list of another, all else its own
loaded-as : (x w : World)
    → loaded_as x w
    ≡ record {
      job = record {
        terms = w.job.terms;
        phase = w.job.phase;
        way = w.job.way;
        loaded = x.job.loaded;
        passed = w.job.passed;
        waiting = w.job.waiting;
        swept = w.job.swept;
        counts = w.job.counts;
      };
      segments = w.segments;
      log = w.log;
      changed = x.changed;
    }
unfolding directed
loaded-as x w = refl

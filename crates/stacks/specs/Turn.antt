-- Turns: which there are, and what each does (document 01, "Stacks and turns"). A turn is a prefix reversal.
--   move_of      move k of a kind and n, which is turn k: roads, counts, children and plans are by moves, and only the laws of a move look further
--   undo_of      the move that undoes move k, and UndoesItself, where that is the same one
use Rattle.std.specs.Prelude.{◌≡◌, Bool, true, not, ◌&&◌, ◌||◌, cond, List, [], ◌∷◌, ◌++◌, map, reverse, ℕ, suc, ◌-◌, ◌*◌, ◌/◌, ◌%◌, ◌^◌, ◌≤◌, leb, eqb, ℤ, neg_ℤ, length, take, drop}
use Rattle.base.specs.Words.{all, filter, total, from}
use Rattle.stacks.specs.Stack.{is_coated}

-- the first and the last turn of a kind and n: plain from 2 to n, coated from 1 to n
unfoldable pub first_turn : ℕ → ℕ
first_turn kind = cond (is_coated kind) 1 2

unfoldable pub last_turn : ℕ → ℕ → ℕ
last_turn kind n = n

unfoldable pub is_turn : ℕ → ℕ → ℕ → Bool
is_turn kind n k = leb (first_turn kind) k && leb k (last_turn kind n)

-- all turns, rising
unfoldable pub turns_of : ℕ → ℕ → List ℕ
turns_of kind n = from (first_turn kind) (suc (last_turn kind n) - first_turn kind)

-- a set of group sizes, those that a frame lifts, is a number: size k is its bit of weight 2^(k - 1)
unfoldable pub lifts : ℕ → ℕ → Bool
lifts groups k = eqb (groups / 2 ^ (k - 1) % 2) 1

-- the sizes that a set has bits for are 1 to group_places
abbrev pub group_places : ℕ
group_places = 32

-- each size that it names is a turn, and it names one if there is one
unfoldable pub is_group_set : ℕ → ℕ → ℕ → Bool
is_group_set kind n groups =
    all (λ k. not (lifts groups k) || is_turn kind n k) (from 1 group_places)
    && (not (eqb groups 0) || eqb (length (turns_of kind n)) 0)

-- the turns that it names, rising, and the set that names them all
unfoldable pub turns_in : ℕ → ℕ → ℕ → List ℕ
turns_in kind n groups = filter (lifts groups) (turns_of kind n)

unfoldable pub all_groups : ℕ → ℕ → ℕ
all_groups kind n = total (map (λ k. 2 ^ (k - 1)) (turns_of kind n))

-- the turn that undoes turn k: each turn undoes itself
unfoldable pub undo_of : ℕ → ℕ → ℕ
undo_of kind k = k

abbrev pub UndoesItself : ℕ → Type 0
UndoesItself kind = (k : ℕ) → undo_of kind k ≡ k

-- what a turn does to a pane of its group: a coated one changes sign
unfoldable pub flip : ℕ → ℤ → ℤ
flip kind x = cond (is_coated kind) (neg_ℤ x) x

-- turn k: the top k places in reverse order, each flipped
unfoldable pub turn_of : ℕ → ℕ → List ℤ → List ℤ
turn_of kind k s = map (flip kind) (reverse (take k s)) ++ drop k s

-- move k of a kind and n
unfoldable pub move_of : ℕ → ℕ → ℕ → List ℤ → List ℤ
move_of kind n k s = turn_of kind k s

-- the moves of a list one after the other
unfoldable pub moves_from : ℕ → ℕ → List ℕ → List ℤ → List ℤ
moves_from kind n [] s = s
moves_from kind n (k ∷ ks) s = moves_from kind n ks (move_of kind n k s)

-- a road by some moves: those that the test lets by, and that take stack s to stack w
pub record RoadBy (kind n : ℕ) (is_move : ℕ → Bool) (ks : List ℕ) (s w : List ℤ) : Type 0 where
  pub turns : all is_move ks ≡ true
  pub arrives : moves_from kind n ks s ≡ w

-- the fewest of them from s to w are d: a road of that length is there, and every road has at least as many
pub record FewestBy (kind n : ℕ) (is_move : ℕ → Bool) (s w : List ℤ) (d : ℕ) : Type 0 where
  pub road : List ℕ
  pub leads : RoadBy kind n is_move road s w
  pub long : length road ≡ d
  pub least : (ks : List ℕ) → RoadBy kind n is_move ks s w → d ≤ length ks

-- a road and the fewest turns by all turns of that kind and n
abbrev pub Road : ℕ → ℕ → List ℕ → List ℤ → List ℤ → Type 0
Road kind n = RoadBy kind n (is_turn kind n)

abbrev pub Fewest : ℕ → ℕ → List ℤ → List ℤ → ℕ → Type 0
Fewest kind n = FewestBy kind n (is_turn kind n)

-- as many turns as any stack needs at most: 2 (n - 1) if plain, 3 n if coated
unfoldable pub turn_bound : ℕ → ℕ → ℕ
turn_bound kind n = cond (is_coated kind) (3 * n) (2 * (n - 1))

-- The refusals by their numbers, and a call's result as the answer that its definition speaks of: a refusal's number, 0 for none, with the value where
-- there is one.
use Rattle.std.specs.Prelude.{List, [], ℕ, ℤ, Result, Ok, Err}
use Rattle.stacks.specs.Operations.{indexed, stacked}
use Rattle.stacks.specs.Answers.{Indexed}
use Rattle.stacks.specs.Answers.{Stacked}
use Rattle.stacks.specs.declared.refusal.Refusal.{Refusal}
use Rattle.stacks.specs.declared.refusal.Refusal.TheVariants.{Kind, Panes, Stack, IndexOrTurn, Size, Room, Incoherent, Phase, Segment, Length, Passed, Offset, NotReady, LastLevel, NoPlan, Frame, Line, NoLine, TwoLines, NoRoad, Groups, NotLoaded}

unfoldable pub number : Refusal → ℕ
number Kind = 1
number Panes = 2
number Stack = 3
number IndexOrTurn = 4
number Size = 5
number Room = 6
number Incoherent = 7
number Phase = 8
number Segment = 9
number Length = 10
number Passed = 11
number Offset = 12
number NotReady = 13
number LastLevel = 14
number NoPlan = 15
number Frame = 16
number Line = 17
number NoLine = 18
number TwoLines = 19
number NoRoad = 20
number Groups = 21
number NotLoaded = 22

abbrev pub refusal_of : {A : Type 0} → Result A Refusal → ℕ
refusal_of (Ok _) = 0
refusal_of (Err r) = number r

abbrev pub as_indexed : Result ℕ Refusal → Indexed
as_indexed (Ok i) = indexed 0 i
as_indexed (Err r) = indexed (number r) 0

abbrev pub as_stacked : Result (List ℤ) Refusal → Stacked
as_stacked (Ok s) = stacked 0 s
as_stacked (Err r) = stacked (number r) []

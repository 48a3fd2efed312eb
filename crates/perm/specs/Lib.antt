-- The kinds by their numbers, what the leaves on sets of panes promise, one place of a ranking, and the moves of a search.
pub mod Kinds
pub mod Panes
pub mod Set
pub mod Sizes
pub mod Moves
pub mod Ranking

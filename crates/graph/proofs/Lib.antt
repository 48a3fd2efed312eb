-- The theory of breadth-first search, in layers: moves, distance, depths, the invariant of a level, and counting.
pub mod Moves
pub mod Distance
pub mod Depths
pub mod Levels
pub mod Tally
pub mod Counts
pub mod LevelCounts

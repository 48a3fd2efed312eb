-- Laws of the leaves: what a shift does to a digit, and what a mark does to the marks of a segment.
pub mod Shifts
pub mod LeafMarks
pub mod Ceilings

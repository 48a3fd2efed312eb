-- What a stack, a turn and an index are, and the three operations on them. Read in this order.
pub mod Stack
pub mod Index
pub mod Order
pub mod Turn
pub mod Counts
pub mod Answers
pub mod Operations
pub mod Refusals

-- The text of the table of ones.
pub mod OnesText

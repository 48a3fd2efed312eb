-- The small words that every definition of the project is written with.
pub mod Words

-- The report's example, whole, and worked cases of its text.
pub mod Open
pub mod Texts
pub mod Example

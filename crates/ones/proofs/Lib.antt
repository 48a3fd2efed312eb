-- Laws of the table of ones and of the second reading.
pub mod Computed
pub mod TableLaws
pub mod Clearing

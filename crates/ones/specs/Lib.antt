-- The table of ones by definition, and the second reading of its entries.
pub mod Ones

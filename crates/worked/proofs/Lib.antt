-- Worked cases: each computes from the definitions, or is drawn from a theorem by its name.
pub mod Open
pub mod Starred
pub mod WholeTable
pub mod PlainThree
pub mod Pricing
pub mod Limited
pub mod Succession
pub mod Reverse

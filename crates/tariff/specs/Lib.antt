-- Tariffs, rounding and Price by definition, and what we promise of them. Read in this order.
pub mod Answers
pub mod Tariffs
pub mod Rounding
pub mod Price
pub mod Results
pub mod Promise

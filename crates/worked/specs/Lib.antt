-- What the worked cases say. Read Starred beside document 01's "At the edges", PlainThree beside the promise of a build and
-- document 02's F-3, and Pricing, Limited, Succession and Reverse beside its F-1, F-2, F-4 and F-5.
pub mod Cases
pub mod Starred
pub mod WholeTable
pub mod PlainThree
pub mod Pricing
pub mod Limited
pub mod Succession
pub mod Reverse

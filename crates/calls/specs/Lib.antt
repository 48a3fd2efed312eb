-- What the helpers of the calls ask of what they are given.
pub mod Lent

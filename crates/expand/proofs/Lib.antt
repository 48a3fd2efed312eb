-- Laws that the proofs of Expand's functions share.
pub mod Fitting
pub mod Filling
pub mod Lowest
pub mod Placing
pub mod Running
pub mod Expanding

-- Laws beside the proofs of the driver's functions.
pub mod Choosing
pub mod Ways
pub mod Parts
pub mod Advances
pub mod Building

-- What the proofs of the functions stand on: terms that Begin accepts, bounds of a coherent job, rows of refusals, chains, and a stack's children along a walk.
pub mod Begun
pub mod Bounds
pub mod Refusing
pub mod Scans
pub mod Walked

-- Laws of Sweep's functions: the search of one stack, a run over a segment's stacks, and what an accepted call was given and leaves.
pub mod Reaching
pub mod Running
pub mod Sweeping

-- The mirror of the job for C, with its two conversions, and the answers in C's structs.
pub mod Mirror

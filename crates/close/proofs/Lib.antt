-- Laws beside the proofs of Close.
pub mod Closing

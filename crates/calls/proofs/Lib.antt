-- Laws beside the calls' proofs: what blanking, marking and loading come to by the definitions.
pub mod Rows
pub mod Blanking
pub mod Looking
pub mod Settling
pub mod Loading

-- Laws of Look's part and of what is refused, then what the proofs of the calls share.
pub mod LookLaws
pub mod Refused
pub mod Wrapped

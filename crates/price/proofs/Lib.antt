-- What the code of Price is proved with.
pub mod Chains
pub mod Answers

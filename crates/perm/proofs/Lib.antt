-- What the code of stacks is proved with.
pub mod Alike
pub mod Signed
pub mod Sets
pub mod Places
pub mod GroupSets
pub mod SizeLaws
pub mod Ranking
pub mod Unranking
pub mod Below
pub mod Group
pub mod Answers

-- What the functions of Close promise of one another.
pub mod Ready

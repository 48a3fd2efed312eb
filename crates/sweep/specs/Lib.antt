-- What the functions of Sweep promise of one another.
pub mod Reach

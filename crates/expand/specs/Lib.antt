-- What the functions of Expand promise of one another.
pub mod Scan

-- What the program's loops and its errors rest on.
pub mod Feeding

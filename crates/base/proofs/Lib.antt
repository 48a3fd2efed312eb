-- Laws on lists, numbers and tests that the kit lacks.
pub mod Tests
pub mod Rows
pub mod Numbers
pub mod Lists
pub mod Counting
pub mod Radix
pub mod Bits

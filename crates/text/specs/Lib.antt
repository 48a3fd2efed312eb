-- The report: hexadecimal text, lines, frames and the lines that are printed; the report of an input, and what we promise of it; and what code's
-- functions promise one another of lines, buffers and the reader.
pub mod Hex
pub mod Frame
pub mod Lines
pub mod Output
pub mod Kept
pub mod Written
pub mod Report
pub mod Promise
pub mod Reader

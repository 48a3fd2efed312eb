-- What an answer by a mirror's own test says of the job whose mirror it is.
pub mod Mirrors

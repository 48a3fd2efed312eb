-- What a call on a mirror of the job answers.
pub mod Mirrored
pub mod Outcomes

-- What a call on one segment leaves in the whole table.
pub mod First
pub mod Part
pub mod Step

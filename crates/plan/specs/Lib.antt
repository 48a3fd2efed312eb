-- What the helpers of Plan promise.
pub mod Questions
pub mod Routes
pub mod Turns
pub mod Drafts

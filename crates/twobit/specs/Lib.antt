-- What the leaves that mark ask for and promise.
pub mod Mark

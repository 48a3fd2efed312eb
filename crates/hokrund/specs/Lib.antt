-- What C sees: the interface's number, and each call by the definition of the operation that it wraps.
pub mod Version
pub mod Calls

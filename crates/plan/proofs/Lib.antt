-- What the code of Read an entry and Plan is proved with.
pub mod Routes
pub mod Refusing
pub mod Answers

-- Every clause of every promise, written out once more with its own quantifiers and numbers, and drawn from its theorem by name. A theorem is
-- proved of a record or of a definition, and whoever cites it cites that: were a clause removed, narrowed to one set, way, segment or level, or a
-- definition made trivial, the theorem would still be proved in its own crate. It is refused here. Nothing rests on these files.
pub mod Meanings
pub mod Numbering
pub mod AllTurns
pub mod Builds
pub mod Ways
pub mod Driver
pub mod Calls
pub mod Prices
pub mod Ones
pub mod Reports
pub mod Exports

-- What a walk, a graph and the fewest moves between two vertices are.
pub mod Walks

pub mod Matching
pub mod Nodes
pub mod Patterns
pub mod Sets
pub mod Trees

pub mod SharedResults
pub mod SearchGives
pub mod Outcomes
pub mod KeyHashes
pub mod RunCounts
pub mod RunsOf

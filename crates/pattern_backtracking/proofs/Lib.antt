pub mod Counts
pub mod Erasing
pub mod Steps
pub mod Traces

pub mod FoundOf
pub mod Assuming
pub mod Ways
pub mod Weighing

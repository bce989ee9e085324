pub mod Bits
pub mod Matched
pub mod Reached
pub mod Turning
pub mod Spans

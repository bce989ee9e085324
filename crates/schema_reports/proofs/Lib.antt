pub mod ShownSteps
pub mod Places
pub mod Escaped
pub mod Found
mod PlainBytes

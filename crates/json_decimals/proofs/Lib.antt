pub mod Closeness
pub mod Division
pub mod EqualNumbers
pub mod Exponents
pub mod Reading
pub mod Uniqueness
pub mod Worths

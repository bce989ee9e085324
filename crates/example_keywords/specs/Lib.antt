pub mod Arrays
pub mod Strings
pub mod Wrapped

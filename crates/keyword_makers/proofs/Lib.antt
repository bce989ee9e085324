mod Pointers
pub mod HandedOut

pub mod Keeping
pub mod Meanings
pub mod TextReads

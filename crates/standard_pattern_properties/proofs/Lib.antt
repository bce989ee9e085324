pub mod AtOnce
pub mod GateNumbers
pub mod ListedNames
pub mod Meant
pub mod Quoting
pub mod Seeking

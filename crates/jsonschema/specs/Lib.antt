pub mod BuildOptions
pub mod Built
pub mod Calls
pub mod Checked
pub mod Refusing
pub mod Sources
pub mod Supplied

pub mod Asking
pub mod Builds
pub mod Checking
pub mod Handing

pub mod Alike
pub mod Images

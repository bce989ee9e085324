pub mod Coding
pub mod Equality
pub mod Keys
pub mod Numbers
pub mod Order
pub mod Sizes

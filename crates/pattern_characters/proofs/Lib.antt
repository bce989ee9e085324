pub mod Changing
pub mod OfMembers
pub mod Ordered

pub mod Cutting
pub mod Hosts

pub mod Components
pub mod Paths
pub mod Normal
pub mod References
pub mod Views
pub mod Whole

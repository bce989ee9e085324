pub mod Edges
pub mod Errors
pub mod Groups
pub mod Openings
pub mod Outcomes
pub mod Reading
pub mod States
pub mod Views

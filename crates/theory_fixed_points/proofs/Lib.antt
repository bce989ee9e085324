pub mod NodesSay
pub mod Edges
pub mod NumbersSay
pub mod ReachedSay
mod WorkedRows
mod Computed
pub mod Under
pub mod Between
pub mod Pairs
pub mod Steps
pub mod Says
pub mod Turning
pub mod Staged
pub mod Solved
pub mod Work
pub mod Bounds

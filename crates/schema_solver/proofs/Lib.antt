pub mod PairSteps
pub mod Going
pub mod PlacesOnce
pub mod Asking
pub mod Crossing
pub mod Turned
pub mod Stopping
pub mod ByQuestions
pub mod Telling
pub mod Depths
mod Says

pub mod Checks
pub mod DraftChecks
pub mod FirstErrors
pub mod Shown

pub mod Choices
pub mod Envelopes
pub mod Lines
pub mod Outcomes
pub mod Tallies
pub mod Verdicts

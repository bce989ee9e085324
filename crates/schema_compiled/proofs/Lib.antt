pub mod Solved
mod SharedErrors
mod ClonedValidators
pub mod AtLimits
pub mod Taken
mod VerdictsSearched
pub mod Remembers
pub mod Searches
pub mod ErrorSearches
pub mod Verdicts

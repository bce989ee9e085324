mod Forest
mod SearchCounts
mod RunUses
mod SharedLists
mod SearchedSense
mod SearchedFailure
mod SearchedSays
mod SearchedErrors
pub mod KeysIndexed
mod Reached
mod MadeRuns

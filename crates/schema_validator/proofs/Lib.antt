pub mod HeldPlaces
pub mod DocumentMap
pub mod MapAnswers
pub mod FirstCauses
pub mod RootRefusals
pub mod OtherParts
pub mod Built
pub mod Compilations
pub mod RootKeys
pub mod PlainAnswers
pub mod Reaches
pub mod Pointing
mod MapEntries
mod EntryFailures
mod CompiledAlone
pub mod Greatest
mod Budgets

pub mod Detours
pub mod DetourUnits
pub mod DetourVerdicts
pub mod DetourGrows
pub mod Growing
pub mod MarkingTable

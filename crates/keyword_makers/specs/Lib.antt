pub mod Making
pub mod MakerViews
pub mod MakingLaws
pub mod Branches
pub mod BranchLaws
pub mod Members
pub mod ByValue
pub mod ByObject

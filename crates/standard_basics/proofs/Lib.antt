pub mod AskedTold
mod Meant
mod ToldAlike
pub mod PropertyCounts
pub mod MissingNames
pub mod NamesAsked
pub mod AtOnce
pub mod MemberNames

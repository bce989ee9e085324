pub mod TextTests
pub mod Told
pub mod OtherNames

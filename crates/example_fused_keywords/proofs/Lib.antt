pub mod AtOnce
pub mod OtherNames

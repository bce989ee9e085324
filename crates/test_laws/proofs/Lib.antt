pub mod NamesPast
pub mod OtherNames

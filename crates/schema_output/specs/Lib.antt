pub mod ErrorUnits
pub mod Output
pub mod EntryViews
pub mod Rows
pub mod Texts

pub mod Numbers
pub mod Rows
pub mod RowViews
pub mod Lending

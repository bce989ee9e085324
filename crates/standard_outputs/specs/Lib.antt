pub mod KeywordUnits
pub mod Basic
pub mod Hierarchical
pub mod CodeViews
pub mod Rows

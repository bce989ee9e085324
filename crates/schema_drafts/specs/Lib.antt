pub mod KeywordTable
pub mod KeywordViews

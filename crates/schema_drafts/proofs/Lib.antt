pub mod KeywordNames
pub mod KeywordRows
mod PlacedTexts
pub mod AnyLeft
pub mod ClonedTexts

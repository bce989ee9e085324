pub mod MetaDocuments
pub mod DraftMeanings

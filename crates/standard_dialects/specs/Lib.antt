pub mod StandardDrafts
pub mod ListedVocabularies

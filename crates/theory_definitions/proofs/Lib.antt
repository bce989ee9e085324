pub mod Products
pub mod VocabularyLists
pub mod RisingTexts
pub mod SameVocabularies

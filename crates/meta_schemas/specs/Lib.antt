pub mod MetaTexts
pub mod MetaUris

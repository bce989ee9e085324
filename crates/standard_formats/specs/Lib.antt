pub mod Contents
pub mod FormatMaking
pub mod FormatWords
pub mod IdnCharacters
pub mod IdnContexts
pub mod IdnHostnames
pub mod Shapes
pub mod MakerWords

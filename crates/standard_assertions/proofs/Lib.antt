pub mod ListedValues
pub mod Missing
pub mod Told

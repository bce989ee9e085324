pub mod Nesting
pub mod FreeCalls
pub mod GreatestCalls
pub mod CallResults
pub mod AnyParts

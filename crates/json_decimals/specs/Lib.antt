pub mod Amounts
pub mod Decimals
pub mod Multiples
pub mod Searches

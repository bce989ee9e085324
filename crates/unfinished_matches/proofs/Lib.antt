pub mod HashIndexed
mod MatchesIndexed

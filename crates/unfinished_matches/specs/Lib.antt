pub mod HashIndex
pub mod MatchViews

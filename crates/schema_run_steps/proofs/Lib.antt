pub mod AskedMatches
pub mod FaultsFound
pub mod MatchSites
pub mod PointerSteps
pub mod Stamped
pub mod NodeRuns
pub mod NodeParts
pub mod KeywordTurns
